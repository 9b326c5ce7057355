-- Fields, heads and files: what is written is read back, and nothing else is read.
use Rattle.std.proofs.Common.{◌≡◌, ℕ, ◌%◌, ◌^◌, ◌<◌, Bool, true, false, cond, eqb, List, [], ◌∷◌, ◌++◌, length, Some, None, Option, sym, refl, ap, ◌∙◌, subst, arith}
use Rattle.std.specs.Option.{option_map}
use Rattle.std.proofs.lemmas.List.{append_assoc, append-nil, nil_from_length}
use Rattle.std.proofs.lemmas.Option.{same_Some}
use Rattle.std.proofs.lemmas.Bool.{eqb-true, eq-eqb, cond-true}
use Rattle.byte_parts.specs.Numbers.{Bytes, le, cut_number}
use Rattle.byte_parts.specs.Parts.{cut_part}
use Rattle.byte_parts.proofs.Cutting.{part_cut, cut_front, number_cut, cut_le}
use Rattle.object.specs.Formats.{format_number, formats, format_of}
use Rattle.object.specs.Numbered.{with_number}
use Rattle.object.specs.declared.format.Format.{Format}
use Rattle.object.specs.declared.format.Format.TheVariants.{Undefined, Association, Text}
use Rattle.image_format.specs.Encoded.{field}
use Rattle.image_format.specs.Parsed.{bind, cut_field, head_in}
use Rattle.image_format.specs.declared.field.Head.{Head}
use Rattle.image_format.proofs.Inverted.{bind_some, mapped_some}

bytes_left : (xs ys : List ℕ) → Bytes (xs ++ ys) → Bytes xs
bytes_left [] ys h = tt
bytes_left (x ∷ xs) ys h = (h.0, bytes_left xs ys h.1)

bytes_right : (xs ys : List ℕ) → Bytes (xs ++ ys) → Bytes ys
bytes_right [] ys h = h
bytes_right (x ∷ xs) ys h = bytes_right xs ys h.1

-- a field that was cut off, and what lies behind it
pub record Field (tag : ℕ) (bs content behind : List ℕ) : Type 0 where
  pub is : bs ≡ field tag content ++ behind
  pub content_bytes : Bytes content
  pub behind_bytes : Bytes behind

cut_some : (t tag : ℕ) (rest content behind : List ℕ) → cond (eqb t tag) (bind (cut_number 2 rest) (λ n. cut_part n.0 n.1)) None ≡ Some (content, behind)
    → (t ≡ tag) × (bind (cut_number 2 rest) (λ n. cut_part n.0 n.1) ≡ Some (content, behind))
cut_some t tag rest content behind e = by (eqb t tag) refl e
  where
    by : (u : Bool) → eqb t tag ≡ u → cond u (bind (cut_number 2 rest) (λ n. cut_part n.0 n.1)) None ≡ Some (content, behind) → (t ≡ tag) × (bind (cut_number 2 rest) (λ n. cut_part n.0 n.1) ≡ Some (content, behind))
    by true q e = (eqb-true t tag q, e)
    by false q e = cc

pub field_cut : (tag : ℕ) (bs content behind : List ℕ) → tag < 256 → Bytes bs → cut_field tag bs ≡ Some (content, behind) → Field tag bs content behind
field_cut tag bs content behind small h e =
    let a = bind_some (cut_number 1 bs) (λ t. cond (eqb t.0 tag) (bind (cut_number 2 t.1) (λ n. cut_part n.0 n.1)) None) (content, behind) e in
    let t = a.0.0 in
    let rest = a.0.1 in
    let x = number_cut 1 bs t rest h a.1 in
    let b = cut_some t tag rest content behind a.2 in
    let c = bind_some (cut_number 2 rest) (λ n. cut_part n.0 n.1) (content, behind) b.1 in
    let n = c.0.0 in
    let more = c.0.1 in
    let y = number_cut 2 rest n more x.bytes c.1 in
    let z = part_cut n more content behind c.2 in
    let joined : Bytes (content ++ behind) = subst Bytes z.is y.bytes in
    let low : t % 256 ≡ tag = omega (arith, b.0) in
    let tail : rest ≡ (le 2 (length content) ++ content) ++ behind =
    y.is ∙ (λ i. le 2 (sym z.long i) ++ z.is i) ∙ sym (append_assoc (le 2 (length content)) content behind) in
    record {
      is = x.is ∙ (λ i. low i ∷ tail i);
      content_bytes = bytes_left content behind joined;
      behind_bytes = bytes_right content behind joined;
    }

pub cut_field_of : (tag : ℕ) (content behind : List ℕ) → tag < 256 → length content < 65536 → cut_field tag (field tag content ++ behind) ≡ Some (content, behind)
cut_field_of tag content behind small short =
    let more = le 2 (length content) ++ (content ++ behind) in
    let low : tag ≡ tag % 256 = omega arith in
    let tail : (le 2 (length content) ++ content) ++ behind ≡ more = append_assoc (le 2 (length content)) content behind in
    let first : cut_number 1 (field tag content ++ behind) ≡ Some (tag, more) = (λ i. cut_number 1 (low i ∷ tail i)) ∙ cut_le 1 tag more small in
    ap (λ o. bind o (λ t. cond (eqb t.0 tag) (bind (cut_number 2 t.1) (λ n. cut_part n.0 n.1)) None)) first
    ∙ cond-true (eqb tag tag) _ _ (eq-eqb tag tag refl)
    ∙ ap (λ o. bind o (λ n. cut_part n.0 n.1)) (cut_le 2 (length content) (content ++ behind) short)
    ∙ cut_front content behind (length content) refl

-- a format has its number
numbered : {A : Type 0} (number : A → ℕ) (xs : List A) (n : ℕ) (x : A) → with_number number xs n ≡ Some x → number x ≡ n
numbered number [] n x e = cc
numbered number (y ∷ ys) n x e = by (λ r. numbered number ys n x r) (eqb n (number y)) refl e
  where
    by : (with_number number ys n ≡ Some x → number x ≡ n) → (t : Bool) → eqb n (number y) ≡ t → cond t (Some y) (with_number number ys n) ≡ Some x → number x ≡ n
    by rest true q e = ap number (sym (same_Some y x e)) ∙ sym (eqb-true n (number y) q)
    by rest false q e = rest e

format_there : (f : Format) → format_of (format_number f) ≡ Some f
format_there Undefined = refl
format_there Association = refl
format_there Text = refl

format_small : (f : Format) → format_number f < 65536
format_small Undefined = omega arith
format_small Association = omega arith
format_small Text = omega arith

abbrev format_read : ℕ → ℕ → ℕ × List ℕ → Option Head
format_read n p f = cond (eqb (length f.1) 0) (option_map (λ g. record { number = n; parent = p; format = g }) (format_of f.0)) None

abbrev parent_read : ℕ → ℕ × List ℕ → Option Head
parent_read n p = bind (cut_number 2 p.1) (format_read n p.0)

abbrev number_read : ℕ × List ℕ → Option Head
number_read n = bind (cut_number 4 n.1) (parent_read n.0)

cond_some : {A : Type 0} (t : Bool) (o : Option A) (x : A) → cond t o None ≡ Some x → (t ≡ true) × (o ≡ Some x)
cond_some true o x e = (refl, e)
cond_some false o x e = cc

pub head_read : (content : List ℕ) (h : Head) → Bytes content → head_in content ≡ Some h → content ≡ le 4 h.number ++ (le 4 h.parent ++ le 2 (format_number h.format))
head_read content h b e =
    let x = bind_some (cut_number 4 content) number_read h e in
    let n = number_cut 4 content x.0.0 x.0.1 b x.1 in
    let y = bind_some (cut_number 4 x.0.1) (parent_read x.0.0) h x.2 in
    let p = number_cut 4 x.0.1 y.0.0 y.0.1 n.bytes y.1 in
    let z = bind_some (cut_number 2 y.0.1) (format_read x.0.0 y.0.0) h y.2 in
    let f = number_cut 2 y.0.1 z.0.0 z.0.1 p.bytes z.1 in
    let c = cond_some (eqb (length z.0.1) 0) (option_map (λ g. record { number = x.0.0; parent = y.0.0; format = g }) (format_of z.0.0)) h z.2 in
    let m = mapped_some (format_of z.0.0) (λ g. record { number = x.0.0; parent = y.0.0; format = g }) h c.1 in
    let none = nil_from_length z.0.1 (eqb-true (length z.0.1) 0 c.0) in
    let fmt : z.0.0 ≡ format_number m.0 = sym (numbered format_number formats z.0.0 m.0 m.1) in
    let whole : content ≡ le 4 x.0.0 ++ (le 4 y.0.0 ++ le 2 (format_number m.0)) =
    n.is ∙ ap (λ r. le 4 x.0.0 ++ r) (p.is ∙ ap (λ r. le 4 y.0.0 ++ r) (f.is ∙ (λ i. le 2 (fmt i) ++ none i) ∙ append-nil (le 2 (format_number m.0)))) in
    subst (λ g. content ≡ le 4 g.number ++ (le 4 g.parent ++ le 2 (format_number g.format))) m.2 whole

pub head_there : (h : Head) → h.number < 256 ^ 4 → h.parent < 256 ^ 4 → head_in (le 4 h.number ++ (le 4 h.parent ++ le 2 (format_number h.format))) ≡ Some h
head_there h n p =
    ap (λ o. bind o number_read) (cut_le 4 h.number (le 4 h.parent ++ le 2 (format_number h.format)) n)
    ∙ ap (λ o. bind o (parent_read h.number)) (cut_le 4 h.parent (le 2 (format_number h.format)) p)
    ∙ ap (λ o. bind o (format_read h.number h.parent))
    (ap (cut_number 2) (sym (append-nil (le 2 (format_number h.format)))) ∙ cut_le 2 (format_number h.format) [] (format_small h.format))
    ∙ ap (option_map (λ g. record { number = h.number; parent = h.parent; format = g })) (format_there h.format)
