-- SendObjectInfo and DeleteObject in two steps.
use Rattle.std.proofs.Common.{◌≡◌, ℕ, Bool, true, false, List, [], Some, None, Ok, Err, Option, Result, refl}
use Rattle.store.specs.Checks.{provided}
use Rattle.store.specs.Changes.{removed}
use Rattle.protocol.specs.Faults.{of_store}
use Rattle.protocol.specs.declared.session.Session.TheVariants.{Open}
use Rattle.protocol.specs.declared.session.OpenSession.{OpenSession}
use Rattle.wire.specs.declared.command.Command.{Command}
use Rattle.protocol.specs.Acting.{settled, accepts, announced, info_sent, object_deleted}
use Rattle.protocol.specs.Checks.{present, and_then}
use Rattle.protocol.specs.Storages.{Storages}
use Rattle.responder.specs.Acts.{announcement_told, info_told, deletable}

-- what is done with what the first step gives
abbrev pub bind : {A B E : Type 0} → (A → Result B E) → Result A E → Result B E
bind next (Ok x) = next x
bind next (Err f) = Err f

bind_provided : {A B E : Type 0} (next : A → Result B E) (t : Bool) (f : E) (r : Result A E) → bind next (provided t f r) ≡ provided t f (bind next r)
bind_provided next true f r = refl
bind_provided next false f r = refl

bind_present : {A B E X : Type 0} (next : A → Result B E) (o : Option X) (f : E) (r : X → Result A E) → bind next (present o f r) ≡ present o f (λ x. bind next (r x))
bind_present next None f r = refl
bind_present next (Some x) f r = refl

bind_then : {A B E X F : Type 0} (next : A → Result B E) (v : Result X F) (up : F → E) (r : X → Result A E) → bind next (and_then v up r) ≡ and_then v up (λ x. bind next (r x))
bind_then next (Ok x) up r = refl
bind_then next (Err f) up r = refl

-- SendObjectInfo: the announcement first, then what is done with it
pub info_is : (p : Storages) (s : OpenSession) (c : Command) (host : List ℕ)
    → info_sent p s c host ≡ settled p.first (Open s) (bind (announced p s (info_told s c)) (announcement_told p s c host))
unfolding info_sent
info_is p s c host = simp (bind_provided, bind_present, bind_then)

-- DeleteObject: the checks first, then the removal
pub deleted_is : (p : Storages) (s : OpenSession) (h format : ℕ)
    → object_deleted p s h format ≡ settled p.first (Open s) (bind (λ _. and_then (removed p.locked h p.first) of_store (λ c. accepts [] c (Open s))) (deletable p h format))
unfolding object_deleted
deleted_is p s h format = simp (bind_provided, bind_present)
