-- What holds of every way through ordered checks.
use Rattle.std.proofs.Common.{◌≡◌, Bool, true, false, Ok, Err, Result, sym, refl, subst}
use Rattle.store.specs.Checks.{provided}

-- P of a result that is given, Q of a refusal
abbrev pub EitherWay : {A E : Type 0} → (A → Type 0) → (E → Type 0) → Result A E → Type 0
EitherWay P Q (Ok x) = P x
EitherWay P Q (Err e) = Q e

pub checked :
    {A E : Type 0} (P : A → Type 0) (Q : E → Type 0) (t : Bool) (fault : E) (next : Result A E)
    → Q fault → (t ≡ true → EitherWay P Q next) → EitherWay P Q (provided t fault next)
checked P Q true fault next q k = k refl
checked P Q false fault next q k = q

-- what holds of every way holds of the result that came
pub given_ok : {A E : Type 0} (P : A → Type 0) (Q : E → Type 0) {r : Result A E} {x : A} → r ≡ Ok x → EitherWay P Q r → P x
given_ok P Q e h = subst (λ r. EitherWay P Q r) e h

pub provided_true : {A E : Type 0} (t : Bool) (fault : E) (next : Result A E) → t ≡ true → provided t fault next ≡ next
provided_true t fault next e = subst (λ u. provided u fault next ≡ next) (sym e) refl
