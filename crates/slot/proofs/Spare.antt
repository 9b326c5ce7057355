-- The slots of rows, and that of the first spare one.
use Rattle.std.proofs.Common.{◌≡◌, ℕ, ◌+◌, ◌<◌, ◌≤◌, List, length, get_or, take, drop, refl, ap, arith, length-drop, length-take-le, get_or-take}
use Rattle.std.specs.List.{All}
use Rattle.std.proofs.lemmas.List.{get_or-map, length-map}
use Rattle.store.specs.Sound.{Sound, max_length}
use Rattle.table.specs.declared.place.Place.{Place}
use Rattle.table.specs.Tables.{file_at, holding, numbers_in, starts_in, end_of, Within}
use Rattle.table.proofs.Columns.{lookup_at}
use Rattle.slot.specs.Slots.{Whole, Distinct}

pub slot_at : (ps : List Place) (k : ℕ) (d : Place) → k < length ps → get_or (starts_in ps) k 0 ≡ (get_or ps k d).start
slot_at ps k d h = get_or-map (λ (q : Place). q.start) ps k d 0 h

pub slots_length : (ps : List Place) → length (starts_in ps) ≡ length ps
slots_length ps = length-map ps (λ (q : Place). q.start)

-- a row in use has no more bytes than a slot
row_short : (ps : List Place) (limit : ℕ) (bs : List ℕ) → Sound (holding ps limit bs) → Within ps (length bs) → All (λ q. q.file.length ≤ max_length) ps
row_short ps limit bs s w k d h =
    let p : Place = get_or ps k d in
    let n : ℕ = get_or (numbers_in ps) k 0 in
    let e = w k d h in
    let g = s.lengths n (file_at bs p) (lookup_at bs ps 0 n k d s.ascending h refl) in
    let b = length-drop p.start bs in
    let l : length (take p.file.length (drop p.start bs)) ≡ p.file.length = length-take-le p.file.length (drop p.start bs) (omega arith) in
    omega arith

-- the slot of a spare row lies clear of the rows in use
pub clear_of : (ps : List Place) (limit n len : ℕ) (bs : List ℕ) → n < length ps → len ≤ max_length
    → Sound (holding (take n ps) limit bs) → Within (take n ps) (length bs) → Whole (starts_in ps) → Distinct (starts_in ps)
    → All (λ q. q.start < get_or (starts_in ps) n 0 + len → end_of q ≤ get_or (starts_in ps) n 0) (take n ps)
clear_of ps limit n len bs l short s w whole distinct k d h less =
    let used : length (take n ps) ≡ n = length-take-le n ps (omega arith) in
    let all = slots_length ps in
    let row = ap (λ (q : Place). q.start) (get_or-take n ps k d (omega arith)) in
    let slot = slot_at ps k d (omega arith) in
    let fits = row_short (take n ps) limit bs s w k d h in
    let a = whole k 0 (omega arith) in
    let b = whole n 0 (omega arith) in
    let apart = distinct k n 0 (omega arith) (omega arith) in
    omega arith
