-- What holds of every way through checks that hand on what they found.
use Rattle.std.proofs.Common.{◌≡◌, ℕ, Bool, true, false, cond, eqb, Some, None, Ok, Err, Option, Result, refl, arith}
use Rattle.std.proofs.lemmas.Bool.{eqb-false}
use Rattle.store.specs.Contents.{Contents}
use Rattle.store.specs.Faults.{store_fault_number}
use Rattle.store.specs.declared.fault.StoreFault.{StoreFault}
use Rattle.wire.specs.Faults.{dataset_fault_number}
use Rattle.wire.specs.declared.fault.DatasetFault.{DatasetFault}
use Rattle.store.proofs.Checks.{EitherWay}
use Rattle.protocol.specs.declared.fault.OperationFault.{OperationFault}
use Rattle.protocol.specs.declared.session.Session.{Session}
use Rattle.protocol.specs.Checks.{present, and_then}
use Rattle.protocol.specs.Faults.{ok, operation_fault_number, of_store, of_dataset, NumbersCarried}
use Rattle.protocol.specs.Acting.{Outcome, settled}

pub present_ways :
    {A B E : Type 0} (P : B → Type 0) (Q : E → Type 0) (o : Option A) (fault : E) (next : A → Result B E)
    → Q fault → ((x : A) → o ≡ Some x → EitherWay P Q (next x)) → EitherWay P Q (present o fault next)
present_ways P Q None fault next q k = q
present_ways P Q (Some x) fault next q k = k x refl

pub and_then_ways :
    {A B E F : Type 0} (P : B → Type 0) (Q : F → Type 0) (r : Result A E) (up : E → F) (next : A → Result B F)
    → ((e : E) → r ≡ Err e → Q (up e)) → ((x : A) → r ≡ Ok x → EitherWay P Q (next x)) → EitherWay P Q (and_then r up next)
and_then_ways P Q (Err e) up next q k = q e refl
and_then_ways P Q (Ok x) up next q k = k x refl

pub cond_ways :
    {A E : Type 0} (P : A → Type 0) (Q : E → Type 0) (t : Bool) (x y : Result A E)
    → (t ≡ true → EitherWay P Q x) → (t ≡ false → EitherWay P Q y) → EitherWay P Q (cond t x y)
cond_ways P Q true x y a b = a refl
cond_ways P Q false x y a b = b refl

-- an outcome is that of a result, or what a refusal leaves
pub settled_ways :
    (P : Outcome → Type 0) (first : Contents) (session : Session) (r : Result Outcome OperationFault)
    → EitherWay P (λ f. P (settled first session (Err f))) r → P (settled first session r)
settled_ways P first session (Ok o) h = h
settled_ways P first session (Err f) h = h

-- no refusal has the number of success
pub fault_not_ok : (f : OperationFault) → operation_fault_number f ≡ ok → ⊥
fault_not_ok f e = grind arith

-- a number is not two numbers
pub apart : {A : Type 0} {n : ℕ} (k l : ℕ) → n ≡ k → n ≡ l → eqb k l ≡ false → A
apart k l e f h = absurd (eqb-false k l h (cc))

pub numbers_carried : NumbersCarried
numbers_carried = record { stores = by_store; datasets = by_dataset }
  where
    by_store : (f : StoreFault) → operation_fault_number (of_store f) ≡ store_fault_number f
    by_store f = grind arith

    by_dataset : (f : DatasetFault) → operation_fault_number (of_dataset f) ≡ dataset_fault_number f
    by_dataset f = grind arith
