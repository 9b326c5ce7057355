-- A packed store's memory after a removal.
use Rattle.std.proofs.Common.{◌≡◌, ℕ, suc, ◌+◌, ◌-◌, ◌<◌, ◌≤◌, false, leb, ◌⊎◌, List, [], ◌∷◌, map, length, get_or, take, drop, sym, refl, ap, ◌∙◌, subst, inl, inr, arith, length-append, length-drop, length-take-le, take_at, rules}
use Rattle.std.specs.List.{All, AllPairs, remove}
use Rattle.std.specs.List.Sorted.{IsPermutation}
use Rattle.std.proofs.lemmas.List.{places, same_lists, length-map}
use Rattle.std.proofs.lemmas.List.Elements.{All-tail, All-map}
use Rattle.std.proofs.lemmas.List.Sorted.{All-permutation, IsPermutation-remove, sum_by_popped}
use Rattle.std.proofs.lemmas.List.Sums.{sum_by-cons}
use Rattle.std.proofs.lemmas.Bool.{le-leb, lt-leb, cases_lt, cond-true, cond-false}
use Rattle.store.specs.Contents.{total}
use Rattle.store.specs.Changes.{removed}
use Rattle.store.specs.Changing.{contents_after}
use Rattle.store.specs.Sound.{Sound}
use Rattle.table.specs.declared.place.Place.{Place}
use Rattle.table.specs.Areas.{closed_up}
use Rattle.table.specs.Rows.{lengths_in}
use Rattle.table.specs.Tables.{entry_at, files_in, end_of, Within, Clear}
use Rattle.table.proofs.Pairs.{AllPairs-head, AllPairs-tail, AllPairs-map, Apart-permutation}
use Rattle.table.proofs.RowFiles.{part_same}
use Rattle.lent.specs.declared.memory.Memory.{Memory}
use Rattle.lent.specs.Asked.{Removable}
use Rattle.lent.specs.Changed.{Cut}
use Rattle.lent.specs.Kept.{held_in, rows}
use Rattle.lent.proofs.Changing.{row_is, rows_cut, readable_cut, contents_cut}
use Rattle.packed.specs.declared.gap.Gap.{Gap}
use Rattle.packed.specs.Gaps.{start_after, row_after, rows_after, Corrected, Closed}
use Rattle.packed.specs.Layouts.{Packed}

-- where a row of another file begins once the gap is closed: in front of the gap as before, behind it so much further down
pub data Moves (gap : Gap) (q : Place) : Type 0 where
  stays : end_of q ≤ gap.start → start_after gap q.start ≡ q.start → Moves gap q
  moves : gap.start + gap.length ≤ q.start → start_after gap q.start + gap.length ≡ q.start → Moves gap q

moves_down : (gap : Gap) (q : Place) → gap.start + gap.length ≤ q.start → start_after gap q.start ≡ q.start - gap.length
moves_down gap q h = cond-true (leb (gap.start + gap.length) q.start) _ _ (le-leb (gap.start + gap.length) q.start h)

stays_there : (gap : Gap) (q : Place) → end_of q ≤ gap.start → start_after gap q.start ≡ q.start
stays_there gap q h = by (cases_lt q.start (gap.start + gap.length))
  where
    by : (q.start < gap.start + gap.length) ⊎ (gap.start + gap.length ≤ q.start) → start_after gap q.start ≡ q.start
    by (inl l) = cond-false (leb (gap.start + gap.length) q.start) _ _ (lt-leb (gap.start + gap.length) q.start l)
    by (inr l) = moves_down gap q l ∙ omega arith

-- which of the two holds of a row that is apart from the one whose bytes are the gap
moves_of : (gap : Gap) (q : Place) → (q.start < gap.start + gap.length → end_of q ≤ gap.start) → Moves gap q
moves_of gap q a = by (cases_lt q.start (gap.start + gap.length))
  where
    by : (q.start < gap.start + gap.length) ⊎ (gap.start + gap.length ≤ q.start) → Moves gap q
    by (inl l) = stays (a l) (stays_there gap q (a l))
    by (inr l) = moves l (let e = moves_down gap q l in omega arith)

-- it moves no row past the new end, and no two rows into one another
end_moved : (gap : Gap) (q : Place) (end : ℕ) → Moves gap q → gap.start + gap.length ≤ end → end_of q ≤ end → end_of (row_after gap q) ≤ end - gap.length
end_moved gap q end (stays u v) f h = omega arith
end_moved gap q end (moves u v) f h = omega arith

clear_moved : (gap : Gap) (p q : Place) → Moves gap p → Moves gap q → Clear p q → Clear (row_after gap p) (row_after gap q)
clear_moved gap p q (stays u v) (stays x y) c h = let e = c (omega arith) in omega arith
clear_moved gap p q (stays u v) (moves x y) c h = omega arith
clear_moved gap p q (moves u v) (stays x y) c h = omega arith
clear_moved gap p q (moves u v) (moves x y) c h = let e = c (omega arith) in omega arith

-- the files are the same over the closed bytes
module _ (bs : List ℕ) (gap : Gap) (end : ℕ) (fits : gap.start + gap.length ≤ end) (l : end ≤ length bs) where
  abbrev at : ℕ
  at = gap.start

  abbrev len : ℕ
  len = gap.length

  abbrev cs : List ℕ
  cs = closed_up bs at len end

  closed_front : take at cs ≡ take at bs
  closed_front = same_lists _ _ (search (rules, places)) (λ k d h. grind (arith, places))

  pub closed_length : length cs ≡ length bs
  closed_length = search (rules, places)

  -- a part behind the gap lies so much further down
  part_moved : (s t n : ℕ) → at + len ≤ s → t + len ≡ s → s + n ≤ end → take n (drop t cs) ≡ take n (drop s bs)
  part_moved s t n h e w = same_lists _ _ (search (rules, places)) (λ k d b. grind (arith, places))

  file_moved : (q : Place) → Moves gap q → end_of q ≤ end → entry_at cs (row_after gap q) ≡ entry_at bs q
  file_moved q m w = ap (λ z. record { number = q.number; file = record { format = q.file.format; protection = q.file.protection; parent = q.file.parent; name = q.file.name; bytes = z } }) (by m)
    where
      by : Moves gap q → take q.file.length (drop (start_after gap q.start) cs) ≡ take q.file.length (drop q.start bs)
      by (stays h e) = ap (λ k. take q.file.length (drop k cs)) e ∙ part_same bs cs at q.start q.file.length closed_front h
      by (moves h e) = part_moved q.start (start_after gap q.start) q.file.length h e w

  pub files_moved : (qs : List Place) → All (Moves gap) qs → Within qs end → files_in cs (map (row_after gap) qs) ≡ files_in bs qs
  files_moved [] m w = refl
  files_moved (q ∷ qs) m w =
      ap (λ z. z ∷ files_in cs (map (row_after gap) qs)) (file_moved q (m 0 q (omega arith)) (w 0 q (omega arith)))
      ∙ ap (λ z. entry_at bs q ∷ z) (files_moved qs (λ k d h. m (suc k) d (omega arith)) (λ k d h. w (suc k) d (omega arith)))

lengths_moved : (gap : Gap) (qs : List Place) → lengths_in (map (row_after gap) qs) ≡ lengths_in qs
lengths_moved gap [] = refl
lengths_moved gap (q ∷ qs) =
    let f : Place → ℕ = λ p. p.file.length in
    sum_by-cons f (row_after gap q) (map (row_after gap) qs) ∙ ap (λ z. q.file.length + z) (lengths_moved gap qs) ∙ sym (sum_by-cons f q qs)

-- the rows in use, once those are corrected
used_corrected : (gap : Gap) (count : ℕ) (ps : List Place) → count ≤ length ps → take count (rows_after gap count ps) ≡ map (row_after gap) (take count ps)
used_corrected gap count ps h =
    take_at (map (row_after gap) (take count ps)) (drop count ps) count (length-map (take count ps) (row_after gap) ∙ length-take-le count ps h)

after_length : (gap : Gap) (count : ℕ) (ps : List Place) → count ≤ length ps → length (rows_after gap count ps) ≡ length ps
after_length gap count ps h =
    let a = length-append (map (row_after gap) (take count ps)) (drop count ps) in
    let b = length-map (take count ps) (row_after gap) in
    let c : length (take count ps) ≡ count = length-take-le count ps h in
    let d = length-drop count ps in
    omega arith

-- what is known once the row is cut out
module _ (m cut : Memory) (n i : ℕ) (row : Place) (k : Packed m) (e : Removable (rows m) (held_in m) n i) (p : Cut m cut i row) where
  abbrev qs : List Place
  qs = remove (rows m) i

  one_less : IsPermutation (rows m) (row ∷ qs)
  one_less = IsPermutation-remove (rows m) i row e.row.used (row_is m cut n i row k.readable e p)

  in_front : Within (row ∷ qs) m.total
  in_front = let P : Place → Type 0 = λ q. end_of q ≤ m.total in All-permutation P (rows m) (row ∷ qs) one_less k.in_front

  apart : AllPairs Clear (row ∷ qs)
  apart = Apart-permutation (rows m) (row ∷ qs) one_less k.apart

  pub row_in_front : end_of row ≤ m.total
  row_in_front = in_front 0 row (omega arith)

  pub total_within : m.total ≤ length m.bytes.now
  total_within = omega (arith, k.readable.sound.total_fits, k.readable.counted.1)

  module _ (mid after : Memory) (gap : Gap) (starts : gap.start ≡ row.start) (long : gap.length ≡ row.file.length) (o : Corrected cut mid gap) (c : Closed mid after gap) where
    table : after.places.now ≡ rows_after gap cut.count cut.places.now
    table = c.table ∙ o.table

    count_is : after.count ≡ cut.count
    count_is = c.count ∙ o.count

    total_is : after.total ≡ cut.total
    total_is = c.total ∙ o.total

    fits : gap.start + gap.length ≤ m.total
    fits = let r = row_in_front in omega arith

    sum : cut.total + gap.length ≡ m.total
    sum = omega (arith, p.total)

    all_move : All (Moves gap) qs
    all_move j d h =
        moves_of gap (get_or qs j d) (λ l. let r = AllPairs-head Clear row qs apart j d h (omega arith) in omega arith)

    others : Within qs m.total
    others = let P : Place → Type 0 = λ q. end_of q ≤ m.total in All-tail P row qs in_front

    listed : cut.count ≤ length cut.places.now
    listed = (readable_cut m cut n i row k.readable e p).counted.0

    used_after : rows after ≡ map (row_after gap) qs
    used_after =
        ap (λ z. take after.count z) table ∙ ap (λ j. take j (rows_after gap cut.count cut.places.now)) count_is
        ∙ used_corrected gap cut.count cut.places.now listed
        ∙ ap (map (row_after gap)) (rows_cut m cut n i row k.readable e p)

    area : after.bytes.now ≡ closed_up m.bytes.now gap.start gap.length m.total
    area =
        c.area ∙ ap (λ k. closed_up mid.bytes.now gap.start gap.length (k + gap.length)) o.total
        ∙ ap (λ z. closed_up z gap.start gap.length (cut.total + gap.length)) (o.area ∙ p.area) ∙ ap (closed_up m.bytes.now gap.start gap.length) sum

    in_front_after : Within (rows after) after.total
    in_front_after =
        let P : Place → Type 0 = λ q. end_of q ≤ after.total in
        subst (All P) (sym used_after)
        (All-map P (row_after gap) qs (λ j d h. let x = end_moved gap (get_or qs j d) m.total (all_move j d h) fits (others j d h) in let s = sum in omega (arith, total_is)))

    apart_after : AllPairs Clear (rows after)
    apart_after =
        subst (AllPairs Clear) (sym used_after)
        (AllPairs-map Clear (row_after gap) qs
        (λ x y d h l. clear_moved gap (get_or qs x d) (get_or qs y d) (all_move x d (omega arith)) (all_move y d l) (AllPairs-tail Clear row qs apart x y d h l)))

    bytes_after : length after.bytes.now ≡ length cut.bytes.now
    bytes_after = ap length area ∙ closed_length m.bytes.now gap m.total fits total_within ∙ sym (ap length p.area)

    table_after : length after.places.now ≡ length cut.places.now
    table_after = ap length table ∙ after_length gap cut.count cut.places.now listed

    files_after : (held_in after).files ≡ (held_in cut).files
    files_after =
        ap (files_in after.bytes.now) used_after ∙ ap (λ z. files_in z (map (row_after gap) qs)) area
        ∙ files_moved m.bytes.now gap m.total fits total_within qs all_move others
        ∙ ap (λ z. files_in z qs) (sym p.area) ∙ ap (files_in cut.bytes.now) (sym (rows_cut m cut n i row k.readable e p))

    holds_same : held_in after ≡ held_in cut
    holds_same = λ j. record { capacity = bytes_after j; limit = table_after j; files = files_after j }

    pub contents_same : held_in after ≡ contents_after (held_in m) (removed false n (held_in m))
    contents_same = holds_same ∙ contents_cut m cut n i row k.readable e p

    pub packed_after : Packed after
    packed_after =
        let r = readable_cut m cut n i row k.readable e p in
        record {
          readable = record {
            counted = (let t = table_after in omega (arith, count_is, r.counted.0), total_is ∙ r.counted.1 ∙ sym (ap total files_after));
            sound = subst Sound (sym holds_same) r.sound;
            within = λ j d h. let x = in_front_after j d h in let b = bytes_after in let s = sum in let t = total_within in omega (arith, total_is, ap length p.area);
          };
          in_front = in_front_after;
          apart = apart_after;
          no_gap =
              let s = sum_by_popped (λ (q : Place). q.file.length) row (rows m) qs one_less in
              let v = lengths_moved gap qs in
              let u = ap lengths_in used_after in
              omega (arith, k.no_gap, total_is, p.total);
        }
