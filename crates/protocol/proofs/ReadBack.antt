-- What GetObjectInfo sends is read back, in every list of calls.
use Rattle.std.proofs.Common.{◌≡◌, ℕ, List, refl, ap, ◌∙◌}
use Rattle.wire.specs.declared.command.Command.{Command}
use Rattle.wire.specs.Operations.{get_device_info, open_session, close_session, delete_object, get_object_info, send_object_info, send_object}
use Rattle.datasets.specs.ObjectInfos.{object_info_in}
use Rattle.protocol.specs.declared.session.OpenSession.{OpenSession}
use Rattle.protocol.specs.declared.session.Session.{Session}
use Rattle.protocol.specs.declared.session.Session.TheVariants.{Closed, Open}
use Rattle.protocol.specs.Faults.{ok}
use Rattle.protocol.specs.Commands.{parameter}
use Rattle.protocol.specs.Storages.{Storages, SoundStorages}
use Rattle.protocol.specs.Looking.{Shown, info_of}
use Rattle.protocol.specs.Invariant.{StateFits}
use Rattle.protocol.specs.Machine.{Answer, answered, state_after, fresh}
use Rattle.protocol.specs.ReadBack.{ReadsBack, InfosReadBack}
use Rattle.protocol.proofs.Ways.{apart, fault_not_ok}
use Rattle.protocol.proofs.Steps as steps
use Rattle.protocol.proofs.Steps.{Told, Went, WentClosed, open_went, closed_went, told_info}
use Rattle.protocol.proofs.Looks.{info_look}
use Rattle.protocol.proofs.Reading.{info_back}
use Rattle.protocol.proofs.Found.{fine_at, info_fits, info_tells}
use Rattle.protocol.proofs.Staying.{reached}

told_back : (p : Storages) (s : Session) (c : Command) (x : Shown) → SoundStorages p → c.code ≡ get_object_info → Told p c x → ReadsBack p c (steps.telling x p s c).reply
told_back p s c x k e t =
    let l = info_look p (parameter 1 c) x (told_info p c x t e) in
    record {
      payload = x.payload;
      sends = refl;
      info = info_of (parameter 1 c) l.file;
      read = ap object_info_in l.payload_is ∙ info_back (info_of (parameter 1 c) l.file) (info_fits (parameter 1 c) l.file (fine_at p k (parameter 1 c) l.file l.there));
      tells = info_tells p (parameter 1 c) l.file l.there;
    }

went_back : (p : Storages) (s : OpenSession) (c : Command) (host : List ℕ) (a : Answer) → SoundStorages p → c.code ≡ get_object_info → Went p s c host a
    → a.reply.code ≡ ok → ReadsBack p c a.reply
went_back p s c host _ k e (steps.stopped f _ _) q = absurd (fault_not_ok f q)
went_back p s c host _ k e (steps.refuses f _ _ _ _) q = absurd (fault_not_ok f q)
went_back p s c host _ k e (steps.ends f _ _ _ _) q = absurd (fault_not_ok f q)
went_back p s c host _ k e (steps.tells x _ t) q = told_back p Closed c x k e t
went_back p s c host _ k e (steps.closes _ g) q = apart get_object_info close_session e g refl
went_back p s c host _ k e (steps.deletes _ g _ _) q = apart get_object_info delete_object e g refl
went_back p s c host _ k e (steps.gives _ g _ _ _ _) q = apart get_object_info send_object_info e g refl
went_back p s c host _ k e (steps.brings _ g _ _) q = apart get_object_info send_object e g refl

closed_back : (p : Storages) (c : Command) (a : Answer) → c.code ≡ get_object_info → WentClosed p c a → a.reply.code ≡ ok → ReadsBack p c a.reply
closed_back p c _ e (steps.WentClosed.refuses f _ _) q = absurd (fault_not_ok f q)
closed_back p c _ e (steps.WentClosed.tells g) q = apart get_object_info get_device_info e g refl
closed_back p c _ e (steps.WentClosed.opens g _) q = apart get_object_info open_session e g refl

back : (p : Storages) (s : Session) (c : Command) (host : List ℕ) (room : ℕ) → SoundStorages p → StateFits (record { storages = p; session = s }) → c.code ≡ get_object_info
    → (answered (record { storages = p; session = s }) c host room).reply.code ≡ ok → ReadsBack p c (answered (record { storages = p; session = s }) c host room).reply
back p Closed c host room k f e q = closed_back p c _ e (closed_went p c room host) q
back p (Open s) c host room k f e q = went_back p s c host _ k e (open_went p s c host room f) q

pub infos_read_back : InfosReadBack
infos_read_back p k calls c host room e q =
    let b = state_after (fresh p) calls in
    let r = reached p k calls in
    back b.storages b.session c host room r.kept.sound r.fits e q
