-- Writes one behind the other.
use Rattle.std.proofs.Common.{◌≡◌, ℕ, suc, ◌+◌, ◌*◌, ◌<◌, ◌≤◌, List, [], ◌∷◌, ◌++◌, length, get_or, take, drop, sym, refl, ap, ◌∙◌, subst, append_assoc, add-zero, add_assoc, mul-le-mul_left, arith, length-append, length-drop, take-append-drop, length-take}
use Rattle.std.proofs.lemmas.List.{append-nil, take_at, drop_at, drop-drop, take_more, take_all, length-take-le}
use Rattle.byte_parts.specs.Numbers.{le}
use Rattle.byte_parts.proofs.LittleEndian.{length_le}
use Rattle.object.specs.Names.{unit_bytes}
use Rattle.wire.specs.Containers.{numbers}
use Rattle.wire.specs.Strings.{string}
use Rattle.wire.specs.Writing.{Wrote}

pub length_put : {place n : ℕ} {a xs ys : List ℕ} → Wrote place a xs ys n → length ys ≡ length xs
length_put {place} {n} {a} {xs} {ys} w =
    let h = w.fits in
    ap length w.is ∙ simp (length-append, length-take, length-drop) (omega arith)

module _ {place n m : ℕ} {a b xs ys zs : List ℕ} (w : Wrote place a xs ys n) (v : Wrote n b ys zs m) where
  long : length (take place xs ++ a) ≡ n
  long = let h = w.fits in let e = w.behind in simp (length-append, length-take) (omega arith)

  whole : ys ≡ (take place xs ++ a) ++ drop (place + length a) xs
  whole = w.is ∙ sym (append_assoc (take place xs) a (drop (place + length a) xs))

  after : drop (n + length b) ys ≡ drop (place + length (a ++ b)) xs
  after =
      sym (drop-drop (length b) n ys) ∙ ap (drop (length b)) (ap (drop n) whole ∙ drop_at (take place xs ++ a) (drop (place + length a) xs) n long)
      ∙ drop-drop (length b) (place + length a) xs ∙ ap (λ k. drop k xs) (add_assoc place (length a) (length b) ∙ ap (λ k. place + k) (sym (length-append a b)))

  -- one write behind the other is a write of both
  pub put_then : Wrote place (a ++ b) xs zs m
  put_then = record {
    fits = omega (arith, w.fits, w.behind, v.fits, length_put w, length-append a b);
    behind = omega (arith, w.behind, v.behind, length-append a b);
    is =
        v.is ∙ (λ i. (ap (take n) whole ∙ take_at (take place xs ++ a) (drop (place + length a) xs) n long) i ++ (b ++ after i))
        ∙ append_assoc (take place xs) a (b ++ drop (place + length (a ++ b)) xs) ∙ ap (λ l. take place xs ++ l) (sym (append_assoc a b (drop (place + length (a ++ b)) xs)));
  }

pub put_none : (place : ℕ) (xs : List ℕ) → place ≤ length xs → Wrote place [] xs xs place
put_none place xs h =
    record {
      fits = omega arith;
      behind = omega arith;
      is = sym (ap (λ k. take place xs ++ drop k xs) (add-zero place) ∙ take-append-drop place xs);
    }

-- other words for the bytes that were put
pub put_same : {place n : ℕ} {a b xs ys : List ℕ} → a ≡ b → Wrote place a xs ys n → Wrote place b xs ys n
put_same {place} {n} {a} {b} {xs} {ys} e w = subst (λ l. Wrote place l xs ys n) e w

pub length_numbers : (k : ℕ) (ns : List ℕ) → length (numbers k ns) ≡ k * length ns
length_numbers k [] = omega arith
length_numbers k (n ∷ ns) =
    length-append (le k n) (numbers k ns) ∙ (let a = length_le k n in let b = length_numbers k ns in let c = mul_step k (length ns) in omega arith)
  where
    mul_step : (k m : ℕ) → k * suc m ≡ k + k * m
    mul_step k m = grind arith

pub numbers_append : (k : ℕ) (ns ms : List ℕ) → numbers k (ns ++ ms) ≡ numbers k ns ++ numbers k ms
numbers_append k [] ms = refl
numbers_append k (n ∷ ns) ms = ap (λ l. le k n ++ l) (numbers_append k ns ms) ∙ sym (append_assoc (le k n) (numbers k ns) (numbers k ms))

-- a loop that puts number after number
module _ (k i : ℕ) (ns : List ℕ) {place next : ℕ} {xs ys : List ℕ} (w : Wrote place (numbers k (take i ns)) xs ys next) where
  pub numbers_room : i < length ns → place + k * length ns ≤ length xs → next + k ≤ length ys
  numbers_room h room =
      let a = length_numbers k (take i ns) in
      let b = length-take-le i ns (omega arith) in
      let c = mul-le-mul_left {m = i + 1} {n = length ns} k (omega arith) in
      let d : k * (i + 1) ≡ k * i + k = grind arith in
      let e : k * length (take i ns) ≡ k * i = ap (λ m. k * m) b in
      omega (arith, w.behind, length_put w)

  pub numbers_more : {n : ℕ} {zs : List ℕ} → i < length ns → Wrote next (le k (get_or ns i 0)) ys zs n → Wrote place (numbers k (take (i + 1) ns)) xs zs n
  numbers_more h v =
      put_same (ap (λ l. numbers k (take i ns) ++ l) (sym (append-nil (le k (get_or ns i 0)))) ∙ sym (numbers_append k (take i ns) (get_or ns i 0 ∷ [])) ∙ ap (numbers k) (sym (take_more ns i 0 h)))
      (put_then w v)

  pub numbers_all : length ns ≤ i → Wrote place (numbers k ns) xs ys next
  numbers_all h = put_same (ap (numbers k) (take_all i ns h)) w

pub unit_numbers : (us : List ℕ) → unit_bytes us ≡ numbers 2 us
unit_numbers [] = refl
unit_numbers (u ∷ us) = ap (λ l. le 2 u ++ l) (unit_numbers us)

pub string_some : (us : List ℕ) → 0 < length us → string us ≡ (length us + 1) ∷ (numbers 2 us ++ (0 ∷ 0 ∷ []))
string_some [] h = absurd (omega arith)
string_some (u ∷ us) h = λ i. (let e : suc (suc (length us)) ≡ suc (length us) + 1 = omega arith in e) i ∷ (unit_numbers (u ∷ us) i ++ (0 ∷ 0 ∷ []))

pub length_string : (us : List ℕ) → 0 < length us → length (string us) ≡ 2 * length us + 3
length_string us h = ap length (string_some us h) ∙ (let a = length-append (numbers 2 us) (0 ∷ 0 ∷ []) in let b = length_numbers 2 us in omega arith)
