-- What cutting a sign off tells of the text.
use Rattle.std.proofs.Common.{◌≡◌, ℕ, Bool, true, false, cond, ◌&&◌, List, [], ◌∷◌, ◌++◌, Some, None, sym, refl, ap, ◌∙◌}
use lib.Utf8.{encode}
use Rattle.std.proofs.lemmas.List.{append-nil, append_assoc}
use Rattle.inspect.specs.declared.text.Sign.{Sign}
use Rattle.inspect.specs.Signs.{is_high, is_low, pair_code, single, front_of, cut_sign}
use Rattle.inspect.specs.Texts.{sign_text, units_text}

-- the text of a sign and of the units behind it
abbrev text_by : Sign × List ℕ → List ℕ
text_by p = sign_text p.0 ++ units_text p.1

-- the front of three or more units, by whether the first two are a pair
abbrev front : Bool → ℕ → ℕ → List ℕ → Sign × List ℕ
front t u v us = front_of (cond t (Some (pair_code u v)) None) u (v ∷ us) us

front_text : (t : Bool) (u v : ℕ) (us : List ℕ) → cond t (encode (pair_code u v) ++ units_text us) (sign_text (single u) ++ units_text (v ∷ us)) ≡ text_by (front t u v us)
front_text true u v us = refl
front_text false u v us = refl

sign_text_cut : (us : List ℕ) (p : Sign × List ℕ) → cut_sign us ≡ Some p → units_text us ≡ text_by p
sign_text_cut [] p e = cc
sign_text_cut (u ∷ []) p e = let same : (single u, []) ≡ p = cc in sym (append-nil (sign_text (single u))) ∙ ap text_by same
sign_text_cut (u ∷ v ∷ us) p e =
    let same : front (is_high u && is_low v) u v us ≡ p = cc in front_text (is_high u && is_low v) u v us ∙ ap text_by same

-- one more sign is written
pub sign_added : (old new all rest behind : List ℕ) (s : Sign) → new ≡ old ++ sign_text s → cut_sign rest ≡ Some (s, behind) → old ++ units_text rest ≡ all → new ++ units_text behind ≡ all
sign_added old new all rest behind s p e inv =
    ap (λ bs. bs ++ units_text behind) p
    ∙ append_assoc old (sign_text s) (units_text behind)
    ∙ ap (λ bs. old ++ bs) (sym (sign_text_cut rest (s, behind) e))
    ∙ inv
