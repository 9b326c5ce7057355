-- What cutting a part or a number off the front tells, and that numbers read back.
use Rattle.std.proofs.Common.{◌≡◌, ℕ, ◌^◌, ◌<◌, Bool, true, false, cond, leb, List, ◌++◌, length, take, drop, Some, None, sym, refl, ap, ◌∙◌, subst, arith}
use Rattle.std.proofs.ByRecursion.{All-take, All-drop}
use Rattle.std.proofs.lemmas.List.{length-append, length-take-le, take-append-drop, take_at, drop_at}
use Rattle.std.proofs.lemmas.Bool.{leb-true, le-leb, cond-true}
use Rattle.byte_parts.specs.Numbers.{Bytes, le, value, cut_number}
use Rattle.byte_parts.specs.Parts.{cut_part}
use Rattle.byte_parts.proofs.LittleEndian.{length_le, value_le, value_bound, le_value}

pub none_some : {A : Type 0} {x : A} → None ≡ Some x → ⊥
none_some e = let z : ◌≡◌ {A = ℕ} 0 1 = cc in omega arith

pub some_same : {A : Type 0} {x y : A} → Some x ≡ Some y → x ≡ y
some_same e = cc

-- a test that lets a value through
pub through : {A : Type 0} (t : Bool) (x y : A) → cond t (Some x) None ≡ Some y → (t ≡ true) × (x ≡ y)
through true x y e = (refl, some_same e)
through false x y e = absurd (none_some e)

-- the part that was cut off, and the rest
pub record Cut (k : ℕ) (xs front rest : List ℕ) : Type 0 where
  pub is : xs ≡ front ++ rest
  pub long : length front ≡ k

pub part_cut : (k : ℕ) (xs front rest : List ℕ) → cut_part k xs ≡ Some (front, rest) → Cut k xs front rest
part_cut k xs front rest e =
    let p = through (leb k (length xs)) (take k xs, drop k xs) (front, rest) e in
    let l = leb-true k (length xs) p.0 in
    let a : take k xs ≡ front = ap (λ q. q.0) p.1 in
    let b : drop k xs ≡ rest = ap (λ q. q.1) p.1 in
    record { is = sym (take-append-drop k xs) ∙ (λ i. a i ++ b i); long = sym (ap length a) ∙ length-take-le k xs l }

pub cut_front : (front rest : List ℕ) (k : ℕ) → length front ≡ k → cut_part k (front ++ rest) ≡ Some (front, rest)
cut_front front rest k e =
    let l = length-append front rest in
    cond-true _ _ _ (le-leb k (length (front ++ rest)) (omega arith))
    ∙ (λ i. Some (take_at front rest k e i, drop_at front rest k e i))

-- the number that was cut off, and the rest
pub record Number (k : ℕ) (bs : List ℕ) (n : ℕ) (rest : List ℕ) : Type 0 where
  pub is : bs ≡ le k n ++ rest
  pub fits : n < 256 ^ k
  pub bytes : Bytes rest

pub number_cut : (k : ℕ) (bs : List ℕ) (n : ℕ) (rest : List ℕ) → Bytes bs → cut_number k bs ≡ Some (n, rest) → Number k bs n rest
number_cut k bs n rest h e =
    let p = through (leb k (length bs)) (value (take k bs), drop k bs) (n, rest) e in
    let l = leb-true k (length bs) p.0 in
    let a : value (take k bs) ≡ n = ap (λ q. q.0) p.1 in
    let b : drop k bs ≡ rest = ap (λ q. q.1) p.1 in
    let long = length-take-le k bs l in
    let front = All-take (λ x. x < 256) k bs h in
    record {
      is = sym (take-append-drop k bs) ∙ (λ i. (sym (le_value (take k bs) front) ∙ (λ j. le (long j) (a j))) i ++ b i);
      fits = subst (λ m. m < 256 ^ k) a (subst (λ m. value (take k bs) < 256 ^ m) long (value_bound (take k bs) front));
      bytes = subst Bytes b (All-drop (λ x. x < 256) k bs h);
    }

pub cut_le : (k n : ℕ) (rest : List ℕ) → n < 256 ^ k → cut_number k (le k n ++ rest) ≡ Some (n, rest)
cut_le k n rest h =
    let l = length-append (le k n) rest in
    let m = length_le k n in
    cond-true _ _ _ (le-leb k (length (le k n ++ rest)) (omega arith))
    ∙ (λ i. Some ((ap value (take_at (le k n) rest k m) ∙ value_le k n h) i, drop_at (le k n) rest k m i))
