-- What the writers of whole containers answer.
use Rattle.std.proofs.Common.{◌≡◌, ℕ, ◌+◌, ◌*◌, ◌<◌, ◌≤◌, Bool, true, false, cond, leb, List, ◌++◌, length, drop, Ok, Err, Result, sym, refl, ap, ◌∙◌, zero-add, arith}
use Rattle.std.proofs.lemmas.Bool.{le-leb, lt-leb, leb-true, leb-false, cond-true, cond-false}
use Rattle.byte_parts.specs.Parts.{over}
use Rattle.wire.specs.Containers.{container, data_container, data_type, head}
use Rattle.wire.specs.Strings.{array}
use Rattle.wire.specs.Writing.{Wrote, placed, placed_in, written}
use Rattle.wire.specs.declared.fault.DatasetFault.{DatasetFault}
use Rattle.wire.specs.declared.fault.DatasetFault.TheVariants.{BufferTooShort}
use Rattle.wire.proofs.Puts.{length_numbers, length_put, put_then, put_same}

pub wrote_over : {bs xs ys : List ℕ} {n : ℕ} → Wrote 0 bs xs ys n → (n, ys) ≡ written bs xs
wrote_over {bs} {xs} {ys} {n} w =
    λ i. ((w.behind ∙ zero-add (length bs)) i, (w.is ∙ ap (λ k. bs ++ drop k xs) (zero-add (length bs))) i)

pub placed_is : {bs xs ys : List ℕ} {n : ℕ} (room : ℕ) → Wrote 0 bs xs ys n → room ≤ length xs → (Ok n, ys) ≡ placed_in room bs xs
placed_is {bs} {xs} {ys} {n} room w h =
    ap (λ p. (Ok p.0, p.1)) (wrote_over w)
    ∙ sym (cond-true (leb room (length xs)) (Ok (length bs), over bs xs) (Err BufferTooShort, xs) (le-leb room (length xs) h))

pub not_placed : (room : ℕ) (bs xs : List ℕ) → length xs < room → (Err BufferTooShort, xs) ≡ placed_in room bs xs
not_placed room bs xs h = sym (cond-false (leb room (length xs)) (Ok (length bs), over bs xs) (Err BufferTooShort, xs) (lt-leb room (length xs) h))

pub record Was (room : ℕ) (bs xs ys : List ℕ) (n : ℕ) : Type 0 where
  pub wide : room ≤ length xs
  pub wrote : Wrote 0 bs xs ys n

pub was_placed : (room : ℕ) (bs xs ys : List ℕ) (n : ℕ) → length bs ≤ room → (Ok n, ys) ≡ placed_in room bs xs → Was room bs xs ys n
was_placed room bs xs ys n h e = by (leb room (length xs)) refl e
  where
    by : (t : Bool) → leb room (length xs) ≡ t → ◌≡◌ {A = Result ℕ DatasetFault × List ℕ} (Ok n, ys) (cond t (Ok (length bs), over bs xs) (Err BufferTooShort, xs)) → Was room bs xs ys n
    by true q p =
        let a : ◌≡◌ {A = Result ℕ DatasetFault} (Ok n) (Ok (length bs)) = ap (λ r. r.0) p in
        let b : n ≡ length bs = cc in
        let l = leb-true room (length xs) q in
        record {
          wide = l;
          wrote = record {
            fits = omega arith;
            behind = omega arith;
            is = ap (λ r. r.1) p ∙ ap (λ k. bs ++ drop k xs) (sym (zero-add (length bs)));
          };
        }
    by false q p =
        let a : ◌≡◌ {A = Result ℕ DatasetFault} (Ok n) (Err BufferTooShort) = ap (λ r. r.0) p in
        absurd (cc)

pub record Refused (room : ℕ) (xs ys : List ℕ) (e : DatasetFault) : Type 0 where
  pub short : length xs < room
  pub kept : ys ≡ xs
  pub fault : e ≡ BufferTooShort

pub was_refused : (room : ℕ) (bs xs ys : List ℕ) (f : DatasetFault) → (Err f, ys) ≡ placed_in room bs xs → Refused room xs ys f
was_refused room bs xs ys f e = by (leb room (length xs)) refl e
  where
    by : (t : Bool) → leb room (length xs) ≡ t → ◌≡◌ {A = Result ℕ DatasetFault × List ℕ} (Err f, ys) (cond t (Ok (length bs), over bs xs) (Err BufferTooShort, xs)) → Refused room xs ys f
    by true q p =
        let a : ◌≡◌ {A = Result ℕ DatasetFault} (Err f) (Ok (length bs)) = ap (λ r. r.0) p in
        absurd (cc)
    by false q p =
        let a : ◌≡◌ {A = Result ℕ DatasetFault} (Err f) (Err BufferTooShort) = ap (λ r. r.0) p in
        record { short = leb-false room (length xs) q; kept = ap (λ r. r.1) p; fault = cc }

-- a head and a payload
module _ (kind code transaction : ℕ) where
  pub length_head : (len : ℕ) → length (head kind code transaction len) ≡ 12
  unfolding head
  length_head len = refl

  pub head_joins : (payload : List ℕ) → head kind code transaction (length payload) ++ payload ≡ container kind code transaction payload
  unfolding head container
  head_joins payload = refl

  pub length_container : (payload : List ℕ) → length (container kind code transaction payload) ≡ 12 + length payload
  unfolding container
  length_container payload = omega arith

pub length_array : (k : ℕ) (ns : List ℕ) → length (array k ns) ≡ 4 + k * length ns
unfolding array
length_array k ns = let a = length_numbers k ns in omega arith

-- a data container whose head is written first
module _ (code transaction len : ℕ) (payload xs ys : List ℕ) (same : len ≡ length payload) where
  room : length (data_container code transaction payload) ≡ 12 + len
  room = length_container data_type code transaction payload ∙ ap (λ n. 12 + n) (sym same)

  pub data_short : length xs < 12 + len → (Err BufferTooShort, xs) ≡ placed (data_container code transaction payload) xs
  data_short h = not_placed (length (data_container code transaction payload)) (data_container code transaction payload) xs (omega (arith, room))

  pub data_refused : (f : DatasetFault) → (Err f, ys) ≡ placed_in (12 + len) (head data_type code transaction len) xs → (Err f, ys) ≡ placed (data_container code transaction payload) xs
  data_refused f e =
      let r = was_refused (12 + len) (head data_type code transaction len) xs ys f e in
      (λ i. (Err (r.fault i), r.kept i)) ∙ data_short r.short

  module _ (n : ℕ) (e : (Ok n, ys) ≡ placed_in (12 + len) (head data_type code transaction len) xs) where
    was : Was (12 + len) (head data_type code transaction len) xs ys n
    was = was_placed (12 + len) (head data_type code transaction len) xs ys n (let l = length_head data_type code transaction len in omega arith) e

    pub data_room : n + len ≤ length ys
    data_room =
        let w = was in
        let l = length_head data_type code transaction len in
        let k = length_put w.wrote in
        omega (arith, w.wide, w.wrote.behind)

    pub data_placed : {m : ℕ} {zs : List ℕ} → Wrote n payload ys zs m → (Ok m, zs) ≡ placed (data_container code transaction payload) xs
    data_placed v =
        placed_is (length (data_container code transaction payload))
        (put_same (ap (λ k. head data_type code transaction k ++ payload) same ∙ head_joins data_type code transaction payload) (put_then was.wrote v))
        (let w = was in omega (arith, room, w.wide))
