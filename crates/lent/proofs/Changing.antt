-- What a change of lent memory leaves.
use Rattle.std.proofs.Common.{◌≡◌, ℕ, ◌+◌, ◌-◌, ◌<◌, ◌≤◌, false, List, ◌∷◌, length, get_or, take, Ok, Err, Result, sym, refl, ap, ◌∙◌, subst, arith, length-take-le, get_or-take}
use Rattle.std.specs.List.{All, insert, remove}
use Rattle.std.proofs.lemmas.List.Elements.{All-cons, All-tail}
use Rattle.std.proofs.lemmas.List.Sorted.{All-permutation, IsPermutation-insert, IsPermutation-remove}
use Rattle.std.proofs.lemmas.List.Sums.{sum_by-remove}
use Rattle.store.specs.declared.fault.StoreFault.{StoreFault}
use Rattle.store.specs.declared.info.NewFile.{NewFile}
use Rattle.store.specs.Contents.{File, Contents, total}
use Rattle.store.specs.Changes.{adding, removing, added, removed, inserted, without, with_files}
use Rattle.store.specs.Changing.{file_of, result_of, contents_after}
use Rattle.store.specs.Laws.{Addable}
use Rattle.store.specs.Sound.{Sound}
use Rattle.store.proofs.Kept.{added_ok, changes_keep}
use Rattle.store.proofs.Lookups.{total_inserted}
use Rattle.table.specs.declared.place.Place.{Place}
use Rattle.table.specs.Areas.{written}
use Rattle.table.specs.Rows.{rows_with, rows_without, lengths_in}
use Rattle.table.specs.Tables.{files_in, end_of, Within}
use Rattle.table.proofs.Columns.{files_length}
use Rattle.table.proofs.RowFiles.{used_with, used_without, files_with, files_without, total_files, length_with, length_without}
use Rattle.table.proofs.Written.{length_written, part_here, files_written}
use Rattle.lent.specs.declared.memory.Memory.{Memory}
use Rattle.lent.specs.Asked.{Removable}
use Rattle.lent.specs.Changed.{new_row, Put, Cut}
use Rattle.lent.specs.Kept.{held_in, rows, Readable}

pub used_length : (m : Memory) → Readable m → length (rows m) ≡ m.count
used_length m r = length-take-le m.count m.places.now r.counted.0

-- the row at i of those in use is that of the table
pub used_row : (m : Memory) (i : ℕ) (d : Place) → i < m.count → get_or (rows m) i d ≡ get_or m.places.now i d
used_row m i d h = get_or-take m.count m.places.now i d h

-- a file in use has no more bytes than all
pub part_of_total : (m : Memory) (i : ℕ) (d : Place) → Readable m → i < m.count → (get_or m.places.now i d).file.length ≤ m.total
part_of_total m i d r h =
    let used = used_length m r in
    let here = ap (λ (p : Place). p.file.length) (used_row m i d h) in
    let all = total_files m.bytes.now (rows m) r.within in
    let rest = sum_by-remove (λ (p : Place). p.file.length) (rows m) i d (omega arith) in
    omega (arith, r.counted.1)

-- an addition that is not refused
pub record Accepted (n : ℕ) (f : File) (c : Contents) : Type 0 where
  pub fits : Addable n f c
  pub gives : added false n f c ≡ Ok (with_files c (inserted n f c.files))

pub accepted : (n : ℕ) (f : File) (c : Contents) → Ok tt ≡ result_of (added false n f c) → Accepted n f c
accepted n f c e = by (added false n f c) refl e
  where
    by : (r : Result Contents StoreFault) → added false n f c ≡ r → Ok tt ≡ result_of r → Accepted n f c
    by (Ok d) is q = let a = added_ok false n f c d is in record { fits = a.fits; gives = is ∙ ap Ok a.is }
    by (Err x) is q = absurd (let z : ◌≡◌ {A = ℕ} 0 1 = cc in omega arith)

-- there is a row for it
pub spare_row : (m : Memory) (n : ℕ) (f : File) → Readable m → Accepted n f (held_in m) → m.count < length m.places.now
spare_row m n f r a = let u = used_length m r in let e = files_length m.bytes.now (rows m) in omega (arith, a.fits.free_place)

-- what an accepted addition leaves, if its bytes are written clear of the files
module _ (m after : Memory) (n : ℕ) (f : NewFile) (start : ℕ) (new : List ℕ) (r : Readable m) (a : Accepted n (file_of f new) (held_in m))
    (inside : start + length new ≤ length m.bytes.now) (clear : All (λ p. p.start < start + length new → end_of p ≤ start) (rows m)) (p : Put m after n f start new) where
  abbrev place : Place
  place = new_row n f (length new) start

  abbrev bs : List ℕ
  bs = m.bytes.now

  abbrev cs : List ℕ
  cs = written bs start new

  abbrev file : File
  file = file_of f new

  ranked : p.index ≤ m.count
  ranked = let u = used_length m r in omega (arith, p.rank.bound)

  spare : m.count < length m.places.now
  spare = spare_row m n file r a

  pub rows_put : rows after ≡ insert (rows m) p.index place
  rows_put =
      ap (λ z. take after.count z) p.table ∙ ap (λ k. take k (rows_with m.places.now m.count p.index place)) p.count
      ∙ used_with m.places.now m.count p.index place ranked spare

  pub bytes_put : length after.bytes.now ≡ length bs
  bytes_put = ap length p.area ∙ length_written bs new start inside

  pub table_put : length after.places.now ≡ length m.places.now
  table_put = ap length p.table ∙ length_with m.places.now m.count p.index place ranked spare

  files_put : (held_in after).files ≡ inserted n file (files_in bs (rows m))
  files_put =
      ap (files_in after.bytes.now) rows_put ∙ ap (λ z. files_in z (insert (rows m) p.index place)) p.area
      ∙ files_with cs (rows m) p.index place p.rank
      ∙ ap (λ z. inserted n (file_of f z) (files_in cs (rows m))) (part_here bs new start inside)
      ∙ ap (inserted n file) (files_written bs new start inside (rows m) clear)

  holds_put : held_in after ≡ with_files (held_in m) (inserted n file (held_in m).files)
  holds_put = λ j. record { capacity = bytes_put j; limit = table_put j; files = files_put j }

  pub contents_put : held_in after ≡ contents_after (held_in m) (added false n file (held_in m))
  contents_put = holds_put ∙ sym (ap (contents_after (held_in m)) a.gives)

  within_put : Within (rows after) (length after.bytes.now)
  within_put =
      let P : Place → Type 0 = λ q. end_of q ≤ length bs in
      subst (λ z. Within z (length after.bytes.now)) (sym rows_put) (subst (Within (insert (rows m) p.index place)) (sym bytes_put)
      (All-permutation P (place ∷ rows m) _ (IsPermutation-insert (rows m) p.index place) (All-cons P place (rows m) inside r.within)))

  pub readable_put : Readable after
  readable_put = record {
    counted = (
      let t = table_put in let s = spare in omega (arith, p.count),
      p.total ∙ sym (ap total files_put ∙ total_inserted n file (held_in m).files ∙ ap (λ k. k + length new) (sym r.counted.1)),
    );
    sound = subst Sound (sym holds_put) (changes_keep false (adding n file) (held_in m) _ r.sound a.gives).0;
    within = within_put;
  }

-- what a removal leaves
module _ (m after : Memory) (n i : ℕ) (row : Place) (r : Readable m) (e : Removable (rows m) (held_in m) n i) (p : Cut m after i row) where
  pub below : i < m.count
  below = let u = used_length m r in omega (arith, e.row.used)

  count_cut : after.count ≡ m.count - 1
  count_cut = omega (arith, p.count)

  pub rows_cut : rows after ≡ remove (rows m) i
  rows_cut =
      ap (λ z. take after.count z) p.table ∙ ap (λ k. take k (rows_without m.places.now m.count i)) count_cut
      ∙ used_without m.places.now m.count i below r.counted.0

  -- the row that was cut is one of those in use
  pub row_is : row ≡ get_or (rows m) i row
  row_is = p.is ∙ sym (used_row m i row below)

  pub table_cut : length after.places.now ≡ length m.places.now
  table_cut = ap length p.table ∙ length_without m.places.now m.count i below r.counted.0

  files_cut : (held_in after).files ≡ without n (held_in m).files
  files_cut =
      ap (files_in after.bytes.now) rows_cut ∙ ap (λ z. files_in z (remove (rows m) i)) p.area
      ∙ files_without m.bytes.now (rows m) n i r.sound.ascending e.row

  pub holds_cut : held_in after ≡ with_files (held_in m) (without n (held_in m).files)
  holds_cut = λ j. record { capacity = ap length p.area j; limit = table_cut j; files = files_cut j }

  pub contents_cut : held_in after ≡ contents_after (held_in m) (removed false n (held_in m))
  contents_cut = holds_cut ∙ sym (ap (contents_after (held_in m)) e.result)

  within_cut : Within (rows after) (length after.bytes.now)
  within_cut =
      let P : Place → Type 0 = λ q. end_of q ≤ length m.bytes.now in
      subst (λ z. Within z (length after.bytes.now)) (sym rows_cut) (subst (λ z. Within (remove (rows m) i) (length z)) (sym p.area)
      (All-tail P row (remove (rows m) i) (All-permutation P (rows m) _ (IsPermutation-remove (rows m) i row e.row.used row_is) r.within)))

  total_cut : after.total ≡ total (held_in after).files
  total_cut =
      let t = total_files after.bytes.now (rows after) within_cut in
      let b = ap lengths_in rows_cut in
      let s = sum_by-remove (λ (q : Place). q.file.length) (rows m) i row e.row.used in
      let o = ap (λ (q : Place). q.file.length) row_is in
      let u = total_files m.bytes.now (rows m) r.within in
      omega (arith, p.total, r.counted.1)

  pub readable_cut : Readable after
  readable_cut = record {
    counted = (let t = table_cut in omega (arith, p.count, r.counted.0), total_cut);
    sound = subst Sound (sym holds_cut) (changes_keep false (removing n) (held_in m) _ r.sound e.result).0;
    within = within_cut;
  }
