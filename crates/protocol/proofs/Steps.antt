-- What each call comes to, by the law of its operation. All that is said of runs rests on this.
use Rattle.std.proofs.Common.{◌≡◌, ℕ, suc, ◌≤◌, Bool, true, false, cond, not, ◌&&◌, ◌||◌, eqb, leb, ◌⊎◌, List, [], ◌∷◌, length, Some, None, Ok, Err, Option, Result, sym, refl, ap, ◌∙◌, subst, inl, inr, arith}
use Rattle.std.specs.List.{AllByRecursion}
use Rattle.std.proofs.lemmas.Bool.{eqb-true, eqb-false, or_cases, cond_both}
use Rattle.byte_parts.proofs.Cutting.{none_some}
use Rattle.object.specs.Formats.{is_folder}
use Rattle.store.specs.Contents.{Contents}
use Rattle.store.specs.Sound.{last_number}
use Rattle.store.proofs.Checks.{EitherWay, checked}
use Rattle.wire.specs.declared.command.Command.{Command}
use Rattle.wire.specs.declared.operation.Operation.{Operation}
use Rattle.wire.specs.Operations.{get_device_info, open_session, close_session, get_storage_ids, get_storage_info, get_object_handles, get_object_info, get_object, delete_object, send_object_info, send_object, get_partial_object, operation_of}
use Rattle.datasets.specs.DeviceInfos.{device_info}
use Rattle.protocol.specs.declared.fault.OperationFault.{OperationFault}
use Rattle.protocol.specs.declared.fault.OperationFault.TheVariants.{GeneralError, SessionNotOpen, InvalidTransaction, OperationNotSupported, ParameterNotSupported, InvalidStorage, InvalidHandle, FormatNotSupported, NoObjectInfo, InvalidParent, InvalidParameter, SessionAlreadyOpen, TransactionCancelled}
use Rattle.protocol.specs.declared.session.OpenSession.{OpenSession}
use Rattle.protocol.specs.declared.session.Session.{Session}
use Rattle.protocol.specs.declared.session.Session.TheVariants.{Closed, Open}
use Rattle.protocol.specs.declared.session.Transfer.{Transfer}
use Rattle.protocol.specs.Faults.{ok}
use Rattle.protocol.specs.Commands.{parameter}
use Rattle.protocol.specs.Storages.{Storages, first_storage, every_storage, root, is_storage, storage_of, object_at}
use Rattle.protocol.specs.Looking.{Shown, device_shown, storage_shown, handles_shown, names, info_shown, object_shown, part_shown}
use Rattle.protocol.specs.Acting.{Outcome, given_next, at_rest}
use Rattle.protocol.specs.Invariant.{OpenFits}
use Rattle.protocol.specs.Machine.{Answer, Task, looks, acts, Row, tasks, task_in, task_of, moved, Gate, stops, passes_open, known_open, known_closed, for_closed, gate, has_surplus, refused, data_of, looked, acted, performed, performed_closed, served, spared, answered, cancelled}
use Rattle.protocol.proofs.Ways.{present_ways, cond_ways, apart}
use Rattle.protocol.proofs.Effects.{acceptance, opened, Plain, Later, InfoFault, info_plain, handles_told, Deletes, Gives, Brings, open_law, close_law, delete_law, info_law, send_law}

-- a command that an open session lets through
pub record Timely (s : OpenSession) (c : Command) : Type 0 where
  pub no_opening : c.code ≡ open_session → ⊥
  pub in_turn : c.transaction ≡ s.expected

-- the session's own steps refuse, and leave this session
pub data Stopped (s : OpenSession) (c : Command) : OperationFault → OpenSession → Type 0 where
  held : c.code ≡ open_session → Stopped s c (SessionAlreadyOpen s.id) s
  untimely : (c.code ≡ open_session → ⊥) → (c.transaction ≡ s.expected → ⊥) → Stopped s c InvalidTransaction s
  unknown : Timely s c → operation_of c.code ≡ None → Stopped s c OperationNotSupported (moved s)

-- the look that gave what is told
pub record Told (p : Storages) (c : Command) (x : Shown) : Type 0 where
  pub look : Storages → Command → Result Shown OperationFault
  pub task : task_of c.code ≡ Some (looks look)
  pub gave : look p c ≡ Ok x
  pub plain : (c.code ≡ get_partial_object → ⊥) → x.parameters ≡ []

abbrev pub telling : Shown → Storages → Session → Command → Answer
telling x p s c = record {
  reply = record { code = ok; transaction = c.transaction; parameters = x.parameters; sent = data_of c x.payload };
  state = record { storages = p; session = s };
}

-- the refusals of SendObject before an announcement is looked at, and those of SendObjectInfo
abbrev pub Early : OperationFault → Type 0
Early f = (f ≡ ParameterNotSupported) ⊎ (f ≡ NoObjectInfo)

abbrev pub InfoRefusal : OperationFault → Type 0
InfoRefusal f = (f ≡ ParameterNotSupported) ⊎ InfoFault f

-- what a command comes to in an open session
pub data Went (p : Storages) (s : OpenSession) (c : Command) (host : List ℕ) : Answer → Type 0 where
  stopped : (f : OperationFault) (t : OpenSession) → Stopped s c f t → Went p s c host (refused f p (Open t) c)
  refuses : (f : OperationFault) → Timely s c → Plain f → (c.code ≡ send_object → Early f) → (c.code ≡ send_object_info → InfoRefusal f)
      → Went p s c host (refused f p (Open (moved s)) c)
  ends : (f : OperationFault) → Timely s c → c.code ≡ send_object → Plain f → Later f → Went p s c host (refused f p (Open (at_rest (moved s))) c)
  tells : (x : Shown) → Timely s c → Told p c x → Went p s c host (telling x p (Open (moved s)) c)
  closes : Timely s c → c.code ≡ close_session → Went p s c host (acted p c (acceptance [] p.first Closed))
  deletes : Timely s c → c.code ≡ delete_object → (d : Contents) → Deletes p (parameter 1 c) d
      → Went p s c host (acted p c (acceptance [] d (Open (moved s))))
  gives : Timely s c → c.code ≡ send_object_info → (d : Contents) (t : Transfer) → s.next ≤ last_number → Gives p (moved s) c host d t
      → Went p s c host (acted p c (acceptance (handles_told (moved s) c) d (Open (given_next (moved s) t))))
  brings : Timely s c → c.code ≡ send_object → (d : Contents) → Brings p (moved s) c host d
      → Went p s c host (acted p c (acceptance [] d (Open (at_rest (moved s)))))

-- what a command comes to on a closed responder
pub data WentClosed (p : Storages) (c : Command) : Answer → Type 0 where
  refuses : (f : OperationFault) → Plain f → (c.code ≡ send_object_info → f ≡ SessionNotOpen) → WentClosed p c (refused f p Closed c)
  tells : c.code ≡ get_device_info → WentClosed p c (telling (record { parameters = []; payload = device_info }) p Closed c)
  opens : c.code ≡ open_session → 1 ≤ parameter 1 c → WentClosed p c (acted p c (acceptance [] p.first (Open (opened p (parameter 1 c)))))

-- what a cancel comes to
pub data Spared (p : Storages) (c : Command) : Session → Answer → Type 0 where
  closed : (f : OperationFault) → Plain f → Spared p c Closed (refused f p Closed c)
  stopped : (s : OpenSession) (f : OperationFault) (t : OpenSession) → Stopped s c f t → Spared p c (Open s) (refused f p (Open t) c)
  passed : (s : OpenSession) → Timely s c → Spared p c (Open s) (refused TransactionCancelled p (Open (moved s)) c)

-- the looks: their refusals are plain, and so are their parameters, but for a partial read
abbrev Bare : Shown → Type 0
Bare x = x.parameters ≡ []

abbrev Any : Shown → Type 0
Any x = Unit {0}

storage_bare : (p : Storages) (n : ℕ) → EitherWay Bare Plain (storage_shown p n)
unfolding storage_shown
storage_bare p n = checked Bare Plain (is_storage n) InvalidStorage _ refl λ _. cond_ways Bare Plain (eqb n first_storage) _ _ (λ _. refl) (λ _. refl)

handles_bare : (p : Storages) (n format folder : ℕ) → EitherWay Bare Plain (handles_shown p n format folder)
unfolding handles_shown
handles_bare p n format folder =
    checked Bare Plain (eqb n every_storage || is_storage n) InvalidStorage _ refl λ _.
    checked Bare Plain (eqb format 0) FormatNotSupported _ refl λ _.
    cond_ways Bare Plain (eqb folder 0) _ _ (λ _. refl) λ _.
    cond_ways Bare Plain (eqb folder root) _ _ (λ _. refl) λ _.
    present_ways Bare Plain (object_at p folder) InvalidHandle _ refl λ f _.
    checked Bare Plain (is_folder f.format && names n (storage_of folder)) InvalidParent _ refl λ _. refl

info_bare : (p : Storages) (h : ℕ) → EitherWay Bare Plain (info_shown p h)
unfolding info_shown
info_bare p h = present_ways Bare Plain (object_at p h) InvalidHandle _ refl λ f _. refl

object_bare : (p : Storages) (h : ℕ) → EitherWay Bare Plain (object_shown p h)
unfolding object_shown
object_bare p h =
    present_ways Bare Plain (object_at p h) InvalidHandle _ refl λ f _.
    checked Bare Plain (not (is_folder f.format)) InvalidHandle _ refl λ _. refl

part_any : (p : Storages) (h offset maximum : ℕ) → EitherWay Any Plain (part_shown p h offset maximum)
unfolding part_shown
part_any p h offset maximum =
    present_ways Any Plain (object_at p h) InvalidHandle _ refl λ f _.
    checked Any Plain (not (is_folder f.format)) InvalidHandle _ refl λ _.
    checked Any Plain (leb offset (length f.bytes)) InvalidParameter _ refl λ _. tt

-- a result with what its law says of it
known : {A E : Type 0} (P : A → Type 0) (Q : E → Type 0) (R : A → Type 0) (r : Result A E)
    → EitherWay P Q r → ((x : A) → r ≡ Ok x → P x → R x) → EitherWay R Q r
known P Q R (Ok x) h k = k x refl h
known P Q R (Err e) h k = h

-- the operation that goes with a code, by the rows of the table
by_rows : (P : Option Task → Type 0) (code : ℕ) (rs : List Row)
    → AllByRecursion (λ (r : Row). code ≡ r.code → P (Some r.task)) rs
    → (AllByRecursion (λ (r : Row). code ≡ r.code → ⊥) rs → P None)
    → P (task_in rs code)
by_rows P code [] each none = none tt
by_rows P code (r ∷ rs) each none = by (λ n. by_rows P code rs each.1 n) (eqb r.code code) refl
  where
    by : ((AllByRecursion (λ (r : Row). code ≡ r.code → ⊥) rs → P None) → P (task_in rs code)) → (t : Bool) → eqb r.code code ≡ t
        → P (cond t (Some r.task) (task_in rs code))
    by rest true q = each.0 (sym (eqb-true r.code code q))
    by rest false q = rest (λ m. none ((λ e. eqb-false r.code code q (sym e)), m))

known_send : operation_of send_object ≡ None → ⊥
unfolding operation_of
known_send e = none_some (sym e)

known_info : operation_of send_object_info ≡ None → ⊥
unfolding operation_of
known_info e = none_some (sym e)

pub unknown_send : (c : Command) → operation_of c.code ≡ None → c.code ≡ send_object → ⊥
unknown_send c e q = known_send (subst (λ n. operation_of n ≡ None) q e)

pub unknown_info : (c : Command) → operation_of c.code ≡ None → c.code ≡ send_object_info → ⊥
unknown_info c e q = known_info (subst (λ n. operation_of n ≡ None) q e)

-- in an open session
module _ (p : Storages) (s : OpenSession) (c : Command) (host : List ℕ) (room : ℕ) (timely : Timely s c) where
  plain_refusal : (f : OperationFault) → Plain f → (c.code ≡ send_object → ⊥) → (c.code ≡ send_object_info → ⊥) → Went p s c host (refused f p (Open (moved s)) c)
  plain_refusal f h a b = refuses f timely h (λ e. absurd (a e)) (λ e. absurd (b e))

  -- a look
  looked_went : (c.code ≡ send_object → ⊥) → (c.code ≡ send_object_info → ⊥) → (r : Result Shown OperationFault)
      → EitherWay (Told p c) Plain r → Went p s c host (looked p (Open (moved s)) c room r)
  looked_went a b (Err f) h = plain_refusal f h a b
  looked_went a b (Ok x) h = by (leb (length (data_of c x.payload)) room)
    where
      by : (t : Bool) → Went p s c host (cond t (telling x p (Open (moved s)) c) (refused GeneralError p (Open (moved s)) c))
      by true = tells x timely h
      by false = plain_refusal GeneralError refl a b

  -- a row of the table that only looks, with what its law says
  look_row : (k : ℕ) (look : Storages → Command → Result Shown OperationFault) (P : Shown → Type 0)
      → eqb k send_object ≡ false → eqb k send_object_info ≡ false → EitherWay P Plain (look p c)
      → ((x : Shown) → c.code ≡ k → P x → (c.code ≡ get_partial_object → ⊥) → x.parameters ≡ [])
      → c.code ≡ k → task_of c.code ≡ Some (looks look) → Went p s c host (looked p (Open (moved s)) c room (look p c))
  look_row k look P a b h plain e q =
      looked_went (λ g. apart k send_object e g a) (λ g. apart k send_object_info e g b) (look p c)
      (known P Plain (Told p c) (look p c) h λ x r y. record { look = look; task = q; gave = r; plain = plain x e y })

  bare_row : (k : ℕ) (look : Storages → Command → Result Shown OperationFault)
      → eqb k send_object ≡ false → eqb k send_object_info ≡ false → EitherWay Bare Plain (look p c)
      → c.code ≡ k → task_of c.code ≡ Some (looks look) → Went p s c host (looked p (Open (moved s)) c room (look p c))
  bare_row k look a b h = look_row k look Bare a b h (λ _ _ y _. y)

  abbrev Performs : Option Task → Type 0
  Performs t = task_of c.code ≡ t → Went p s c host (performed t p (moved s) c host room)

  abbrev Acts : Outcome → Type 0
  Acts o = Went p s c host (acted p c o)

  close_went : c.code ≡ close_session → Performs (Some (acts (λ p s c host. Rattle.protocol.specs.Acting.session_closed p)))
  close_went e _ = close_law Acts p (closes timely e)

  delete_went : c.code ≡ delete_object → Performs (Some (acts (λ p s c host. Rattle.protocol.specs.Acting.object_deleted p s (parameter 1 c) (parameter 2 c))))
  delete_went e _ =
      delete_law Acts p (moved s) (parameter 1 c) (parameter 2 c)
      (λ f h. plain_refusal f h (λ g. apart delete_object send_object e g refl) (λ g. apart delete_object send_object_info e g refl))
      (λ d q. deletes timely e d q)

  info_went : OpenFits p (moved s) → c.code ≡ send_object_info → Performs (Some (acts (λ p s c host. Rattle.protocol.specs.Acting.info_sent p s c host)))
  info_went fits e _ =
      info_law Acts p (moved s) c host fits
      (λ f h. refuses f timely (info_plain f h) (λ g. apart send_object_info send_object e g refl) (λ _. inr h))
      (λ d t l g. gives timely e d t l g)

  send_went : c.code ≡ send_object → Performs (Some (acts (λ p s c host. Rattle.protocol.specs.Acting.object_sent p s c host)))
  send_went e _ =
      send_law Acts p (moved s) c host
      (refuses NoObjectInfo timely refl (λ _. inr refl) (λ g. apart send_object send_object_info e g refl))
      (λ f h l. ends f timely e h l)
      (λ d b. brings timely e d b)

  task_went : OpenFits p (moved s) → Performs (task_of c.code)
  unfolding task_of
  task_went fits =
      by_rows Performs c.code tasks (
        bare_row get_device_info _ refl refl refl,
        (
          close_went,
          (
            bare_row get_storage_ids _ refl refl refl,
            (
              bare_row get_storage_info _ refl refl (storage_bare p (parameter 1 c)),
              (
                bare_row get_object_handles _ refl refl (handles_bare p (parameter 1 c) (parameter 2 c) (parameter 3 c)),
                (
                  bare_row get_object_info _ refl refl (info_bare p (parameter 1 c)),
                  (
                    bare_row get_object _ refl refl (object_bare p (parameter 1 c)),
                    (
                      delete_went,
                      (
                        info_went fits,
                        (
                          send_went,
                          (
                            look_row get_partial_object _ Any refl refl (part_any p (parameter 1 c) (parameter 2 c) (parameter 3 c)) (λ _ e _ n. absurd (n e)),
                            tt,
                          ),
                        ),
                      ),
                    ),
                  ),
                ),
              ),
            ),
          ),
        ),
      )
      λ n _. plain_refusal OperationNotSupported refl n.1.1.1.1.1.1.1.1.1.0 n.1.1.1.1.1.1.1.1.0

  served_went : OpenFits p (moved s) → (o : Operation) → Went p s c host (served (passes_open o (moved s)) p c host room)
  served_went fits o = by (has_surplus o c)
    where
      by : (t : Bool) → Went p s c host (cond t (refused ParameterNotSupported p (Open (moved s)) c) (performed (task_of c.code) p (moved s) c host room))
      by true = refuses ParameterNotSupported timely refl (λ _. inl refl) (λ _. inl refl)
      by false = task_went fits refl

  known_went : OpenFits p (moved s) → (o : Option Operation) → operation_of c.code ≡ o → Went p s c host (served (known_open o (moved s)) p c host room)
  known_went fits None e = stopped OperationNotSupported (moved s) (unknown timely e)
  known_went fits (Some o) e = served_went fits o

-- the session's own steps
gate_ways : (P : Gate → Type 0) (s : OpenSession) (c : Command)
    → (c.code ≡ open_session → P (stops (SessionAlreadyOpen s.id) (Open s)))
    → ((c.code ≡ open_session → ⊥) → (c.transaction ≡ s.expected → ⊥) → P (stops InvalidTransaction (Open s)))
    → (Timely s c → P (known_open (operation_of c.code) (moved s)))
    → P (gate (Open s) c)
gate_ways P s c a b d =
    cond_both (eqb c.code open_session) _ _ P
    (λ e. a (eqb-true c.code open_session e)) λ n.
    let no : c.code ≡ open_session → ⊥ = eqb-false c.code open_session n in
    cond_both (eqb c.transaction s.expected) _ _ P
    (λ e. d (record { no_opening = no; in_turn = eqb-true c.transaction s.expected e }))
    (λ e. b no (eqb-false c.transaction s.expected e))

pub fits_moved : (p : Storages) (s : OpenSession) → OpenFits p s → OpenFits p (moved s)
fits_moved p s fits = record {
  id_positive = fits.id_positive;
  expected_positive = cond_both (eqb s.expected 0xFFFFFFFE) 1 (suc s.expected) (λ n. 1 ≤ n) (λ _. omega arith) (λ _. omega arith);
  expected_bound = cond_both (eqb s.expected 0xFFFFFFFE) 1 (suc s.expected) (λ n. n ≤ 0xFFFFFFFE) (λ _. omega arith) (λ e. bound (eqb-false s.expected 0xFFFFFFFE e));
  next_positive = fits.next_positive;
  next_bound = fits.next_bound;
  next_above = fits.next_above;
  transfer_fits = fits.transfer_fits;
}
  where
    bound : (s.expected ≡ 0xFFFFFFFE → ⊥) → suc s.expected ≤ 0xFFFFFFFE
    bound n = omega (arith, fits.expected_bound, n)

pub open_went : (p : Storages) (s : OpenSession) (c : Command) (host : List ℕ) (room : ℕ) → OpenFits p s
    → Went p s c host (answered (record { storages = p; session = Open s }) c host room)
unfolding answered
open_went p s c host room fits =
    gate_ways (λ g. Went p s c host (served g p c host room)) s c
    (λ e. stopped (SessionAlreadyOpen s.id) s (held e))
    (λ n m. stopped InvalidTransaction s (untimely n m))
    (λ t. known_went p s c host room t (fits_moved p s fits) (operation_of c.code) refl)

pub cancel_went : (p : Storages) (c : Command) (s : Session) → Spared p c s (cancelled (record { storages = p; session = s }) c)
unfolding cancelled
cancel_went p c Closed = by (operation_of c.code)
  where
    by : (o : Option Operation) → Spared p c Closed (spared (known_closed o c) p c)
    by None = closed OperationNotSupported refl
    by (Some o) =
        cond_both (for_closed c.code) _ _ (λ g. Spared p c Closed (spared g p c))
        (λ _. cond_both (eqb c.transaction 0) _ _ (λ g. Spared p c Closed (spared g p c)) (λ _. closed TransactionCancelled refl) (λ _. closed InvalidTransaction refl))
        (λ _. closed SessionNotOpen refl)
cancel_went p c (Open s) =
    gate_ways (λ g. Spared p c (Open s) (spared g p c)) s c
    (λ e. stopped s (SessionAlreadyOpen s.id) s (held e))
    (λ n m. stopped s InvalidTransaction s (untimely n m))
    (λ t. by t (operation_of c.code) refl)
  where
    by : Timely s c → (o : Option Operation) → operation_of c.code ≡ o → Spared p c (Open s) (spared (known_open o (moved s)) p c)
    by t None e = stopped s OperationNotSupported (moved s) (unknown t e)
    by t (Some o) e = passed s t

-- on a closed responder
module _ (p : Storages) (c : Command) (room : ℕ) where
  no_send : c.code ≡ get_device_info → c.code ≡ send_object_info → ⊥
  no_send e g = apart get_device_info send_object_info e g refl

  performed_went : for_closed c.code ≡ true → WentClosed p c (performed_closed p c room)
  performed_went t =
      cond_both (eqb c.code open_session) _ _ (WentClosed p c)
      (λ e.
      let q = eqb-true c.code open_session e in
      open_law (λ o. WentClosed p c (acted p c o)) p (parameter 1 c) (refuses InvalidParameter refl (λ g. apart open_session send_object_info q g refl)) (λ l. opens q l))
      (λ n. device (or_cases (eqb c.code get_device_info) (eqb c.code open_session) t) n)
    where
      told : c.code ≡ get_device_info → WentClosed p c (looked p Closed c room device_shown)
      told e = cond_both (leb (length (data_of c device_info)) room) _ _ (WentClosed p c) (λ _. tells e) (λ _. refuses GeneralError refl (λ g. absurd (no_send e g)))

      device : (eqb c.code get_device_info ≡ true) ⊎ (eqb c.code open_session ≡ true) → eqb c.code open_session ≡ false → WentClosed p c (looked p Closed c room device_shown)
      device (inl e) n = told (eqb-true c.code get_device_info e)
      device (inr e) n = absurd (eqb-false c.code open_session n (eqb-true c.code open_session e))

  no_info : for_closed c.code ≡ true → c.code ≡ send_object_info → ⊥
  no_info t e = by (or_cases (eqb c.code get_device_info) (eqb c.code open_session) t)
    where
      by : (eqb c.code get_device_info ≡ true) ⊎ (eqb c.code open_session ≡ true) → ⊥
      by (inl q) = no_send (eqb-true c.code get_device_info q) e
      by (inr q) = apart open_session send_object_info (eqb-true c.code open_session q) e refl

  pub closed_went : (host : List ℕ) → WentClosed p c (answered (record { storages = p; session = Closed }) c host room)
  unfolding answered
  closed_went host = by (operation_of c.code) refl
    where
      by : (o : Option Operation) → operation_of c.code ≡ o → WentClosed p c (served (known_closed o c) p c host room)
      by None e = refuses OperationNotSupported refl (λ g. absurd (unknown_info c e g))
      by (Some o) e =
          cond_both (for_closed c.code) _ _ (λ g. WentClosed p c (served g p c host room))
          (λ t.
          cond_both (eqb c.transaction 0) _ _ (λ g. WentClosed p c (served g p c host room))
          (λ _. cond_both (has_surplus o c) _ _ (WentClosed p c) (λ _. refuses ParameterNotSupported refl (λ g. absurd (no_info t g))) (λ _. performed_went t))
          (λ _. refuses InvalidTransaction refl (λ g. absurd (no_info t g))))
          (λ _. refuses SessionNotOpen refl (λ _. refl))

-- what was told, by the code of the command
module _ (p : Storages) (c : Command) (x : Shown) (t : Told p c x) where
  told_as : (k : ℕ) (look : Storages → Command → Result Shown OperationFault) → c.code ≡ k → task_of k ≡ Some (looks look) → look p c ≡ Ok x
  told_as k look e q =
      let z : t.look ≡ look = looks_same (sym t.task ∙ ap task_of e ∙ q) in
      ap (λ (l : Storages → Command → Result Shown OperationFault). l p c) (sym z) ∙ t.gave
    where
      looks_same : {f g : Storages → Command → Result Shown OperationFault} → Some (looks f) ≡ Some (looks g) → f ≡ g
      looks_same e = cc

  told_not : (k : ℕ) (act : Storages → OpenSession → Command → List ℕ → Outcome) → c.code ≡ k → task_of k ≡ Some (acts act) → ⊥
  told_not k act e q = apart_tasks (sym t.task ∙ ap task_of e ∙ q)
    where
      apart_tasks : {f : Storages → Command → Result Shown OperationFault} {g : Storages → OpenSession → Command → List ℕ → Outcome} → Some (looks f) ≡ Some (acts g) → ⊥
      apart_tasks e = let z : ◌≡◌ {A = ℕ} 0 1 = cc in omega arith

  pub told_no_close : c.code ≡ close_session → ⊥
  unfolding task_of
  told_no_close e = told_not close_session _ e refl

  pub told_no_delete : c.code ≡ delete_object → ⊥
  unfolding task_of
  told_no_delete e = told_not delete_object _ e refl

  pub told_no_info : c.code ≡ send_object_info → ⊥
  unfolding task_of
  told_no_info e = told_not send_object_info _ e refl

  pub told_no_object : c.code ≡ send_object → ⊥
  unfolding task_of
  told_no_object e = told_not send_object _ e refl

  pub told_handles : c.code ≡ get_object_handles → handles_shown p (parameter 1 c) (parameter 2 c) (parameter 3 c) ≡ Ok x
  unfolding task_of
  told_handles e = told_as get_object_handles (λ p c. handles_shown p (parameter 1 c) (parameter 2 c) (parameter 3 c)) e refl

  pub told_info : c.code ≡ get_object_info → info_shown p (parameter 1 c) ≡ Ok x
  unfolding task_of
  told_info e = told_as get_object_info (λ p c. info_shown p (parameter 1 c)) e refl

  pub told_object : c.code ≡ get_object → object_shown p (parameter 1 c) ≡ Ok x
  unfolding task_of
  told_object e = told_as get_object (λ p c. object_shown p (parameter 1 c)) e refl

  pub told_part : c.code ≡ get_partial_object → part_shown p (parameter 1 c) (parameter 2 c) (parameter 3 c) ≡ Ok x
  unfolding task_of
  told_part e = told_as get_partial_object (λ p c. part_shown p (parameter 1 c) (parameter 2 c) (parameter 3 c)) e refl
