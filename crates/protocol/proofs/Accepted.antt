-- What accepted operations do, in every list of calls.
use Rattle.std.proofs.Common.{◌≡◌, ℕ, List, [], refl, inl, inr}
use Rattle.store.specs.Contents.{Contents}
use Rattle.store.specs.Changes.{adding, removing}
use Rattle.store.proofs.Kept.{changes_keep}
use Rattle.store.proofs.Told.{past_is}
use Rattle.wire.specs.declared.command.Command.{Command}
use Rattle.wire.specs.Operations.{open_session, close_session, get_device_info, delete_object, send_object_info, send_object}
use Rattle.protocol.specs.declared.session.OpenSession.{OpenSession}
use Rattle.protocol.specs.declared.session.Session.{Session}
use Rattle.protocol.specs.declared.session.Session.TheVariants.{Closed, Open}
use Rattle.protocol.specs.declared.session.Transfer.{Transfer}
use Rattle.protocol.specs.declared.session.Transfer.TheVariants.{Idle, Announced}
use Rattle.protocol.specs.Accepted.{OpensSession, ClosesSession, DeletesObject, AnnouncesObject, SendsObject, Does, AcceptedDo}
use Rattle.protocol.specs.Commands.{parameter}
use Rattle.protocol.specs.Faults.{ok}
use Rattle.protocol.specs.Storages.{Storages, SoundStorages}
use Rattle.protocol.specs.Acting.{given_next, at_rest, file_of, parent_told}
use Rattle.protocol.specs.Invariant.{StateFits}
use Rattle.protocol.specs.Machine.{State, Answer, moved, acted, answered, state_after, fresh}
use Rattle.protocol.proofs.Ways.{apart, fault_not_ok}
use Rattle.protocol.proofs.Effects.{acceptance, handles_told, Gives, a_folder, a_file, opened, parent_tells}
use Rattle.protocol.proofs.Steps as steps
use Rattle.protocol.proofs.Steps.{Went, WentClosed, open_went, closed_went, told_no_close, told_no_delete, told_no_info, told_no_object}
use Rattle.protocol.proofs.Staying.{reached}

-- what a command does that has one of these codes, as the others are not its own
module _ (b : State) (c : Command) (host : List ℕ) (a : Answer) where
  does_open : c.code ≡ open_session → OpensSession b c a → Does b c host a
  does_open e x = record {
    opens = λ _. x;
    closes = λ g. apart open_session close_session e g refl;
    deletes = λ g. apart open_session delete_object e g refl;
    announces = λ g. apart open_session send_object_info e g refl;
    sends = λ g. apart open_session send_object e g refl;
    looks = λ n. absurd (n (record { one = inl e }));
  }

  does_close : c.code ≡ close_session → ClosesSession b a → Does b c host a
  does_close e x = record {
    opens = λ g. apart close_session open_session e g refl;
    closes = λ _. x;
    deletes = λ g. apart close_session delete_object e g refl;
    announces = λ g. apart close_session send_object_info e g refl;
    sends = λ g. apart close_session send_object e g refl;
    looks = λ n. absurd (n (record { one = inr (inl e) }));
  }

  does_delete : c.code ≡ delete_object → DeletesObject b c a → Does b c host a
  does_delete e x = record {
    opens = λ g. apart delete_object open_session e g refl;
    closes = λ g. apart delete_object close_session e g refl;
    deletes = λ _. x;
    announces = λ g. apart delete_object send_object_info e g refl;
    sends = λ g. apart delete_object send_object e g refl;
    looks = λ n. absurd (n (record { one = inr (inr (inl e)) }));
  }

  does_announce : c.code ≡ send_object_info → AnnouncesObject b c host a → Does b c host a
  does_announce e x = record {
    opens = λ g. apart send_object_info open_session e g refl;
    closes = λ g. apart send_object_info close_session e g refl;
    deletes = λ g. apart send_object_info delete_object e g refl;
    announces = λ _. x;
    sends = λ g. apart send_object_info send_object e g refl;
    looks = λ n. absurd (n (record { one = inr (inr (inr (inl e))) }));
  }

  does_send : c.code ≡ send_object → SendsObject b c host a → Does b c host a
  does_send e x = record {
    opens = λ g. apart send_object open_session e g refl;
    closes = λ g. apart send_object close_session e g refl;
    deletes = λ g. apart send_object delete_object e g refl;
    announces = λ g. apart send_object send_object_info e g refl;
    sends = λ _. x;
    looks = λ n. absurd (n (record { one = inr (inr (inr (inr e))) }));
  }

gives_does : (p : Storages) (s : OpenSession) (c : Command) (host : List ℕ) (d : Contents) (t : Transfer) → SoundStorages p → Gives p (moved s) c host d t
    → AnnouncesObject (record { storages = p; session = Open s }) c host (acted p c (acceptance (handles_told (moved s) c) d (Open (given_next (moved s) t))))
gives_does p s c host _ _ k (a_folder a d n from u e) = record {
  session = s;
  later = given_next (moved s) Idle;
  announcement = a;
  was_open = refl;
  is_open = refl;
  announces = from;
  number_is = n;
  next_is = refl;
  told = (parent_told (parameter 2 c), parent_tells c, refl);
  does = inl (u, refl, (changes_keep p.locked (adding s.next (file_of a [])) p.first d k.first_sound e).1);
}
gives_does p s c host _ _ k (a_file a n from u w) = record {
  session = s;
  later = given_next (moved s) (Announced a);
  announcement = a;
  was_open = refl;
  is_open = refl;
  announces = from;
  number_is = n;
  next_is = refl;
  told = (parent_told (parameter 2 c), parent_tells c, refl);
  does = inr (u, refl, refl);
}

went_does : (p : Storages) (s : OpenSession) (c : Command) (host : List ℕ) (a : Answer) → SoundStorages p → Went p s c host a → a.reply.code ≡ ok
    → Does (record { storages = p; session = Open s }) c host a
went_does p s c host _ k (steps.stopped f _ _) q = absurd (fault_not_ok f q)
went_does p s c host _ k (steps.refuses f _ _ _ _) q = absurd (fault_not_ok f q)
went_does p s c host _ k (steps.ends f _ _ _ _) q = absurd (fault_not_ok f q)
went_does p s c host _ k (steps.tells x w t) q = record {
  opens = λ e. absurd (w.no_opening e);
  closes = λ e. absurd (told_no_close p c x t e);
  deletes = λ e. absurd (told_no_delete p c x t e);
  announces = λ e. absurd (told_no_info p c x t e);
  sends = λ e. absurd (told_no_object p c x t e);
  looks = λ _. refl;
}
went_does p s c host _ k (steps.closes _ e) q = does_close _ c host _ e (record { is_closed = refl; same_storages = refl })
went_does p s c host _ k (steps.deletes _ e d x) q =
    does_delete _ c host _ e (record {
      file = x.file;
      was_there = x.there;
      unprotected = x.unprotected;
      change = (changes_keep p.locked (removing (parameter 1 c)) p.first d k.first_sound x.change).1;
    })
went_does p s c host _ k (steps.gives _ e d t _ g) q = does_announce _ c host _ e (gives_does p s c host d t k g)
went_does p s c host _ k (steps.brings _ e d b) q =
    does_send _ c host _ e (record {
      session = s;
      later = at_rest (moved s);
      announcement = b.announcement;
      payload = b.payload;
      was_open = refl;
      is_open = refl;
      was_announced = b.stood;
      received = b.received;
      sized = b.sized;
      change = (changes_keep p.locked (adding b.announcement.number (file_of b.announcement b.payload)) p.first d k.first_sound b.change).1;
      idle = refl;
    })

closed_does : (p : Storages) (c : Command) (host : List ℕ) (a : Answer) → SoundStorages p → WentClosed p c a → a.reply.code ≡ ok
    → Does (record { storages = p; session = Closed }) c host a
closed_does p c host _ k (steps.WentClosed.refuses f _ _) q = absurd (fault_not_ok f q)
closed_does p c host _ k (steps.WentClosed.tells e) q = record {
  opens = λ g. apart get_device_info open_session e g refl;
  closes = λ g. apart get_device_info close_session e g refl;
  deletes = λ g. apart get_device_info delete_object e g refl;
  announces = λ g. apart get_device_info send_object_info e g refl;
  sends = λ g. apart get_device_info send_object e g refl;
  looks = λ _. refl;
}
closed_does p c host _ k (steps.WentClosed.opens e l) q =
    does_open _ c host _ e (record {
      session = opened p (parameter 1 c);
      was_closed = refl;
      is_open = refl;
      id_is = refl;
      expected_is = refl;
      next_is = past_is p.first k.first_sound;
      idle = refl;
      same_storages = refl;
    })

does : (p : Storages) (s : Session) (c : Command) (host : List ℕ) (room : ℕ) → SoundStorages p → StateFits (record { storages = p; session = s })
    → (answered (record { storages = p; session = s }) c host room).reply.code ≡ ok
    → Does (record { storages = p; session = s }) c host (answered (record { storages = p; session = s }) c host room)
does p Closed c host room k f q = closed_does p c host _ k (closed_went p c room host) q
does p (Open s) c host room k f q = went_does p s c host _ k (open_went p s c host room f) q

pub accepted_do : AcceptedDo
accepted_do p k calls c host room q =
    let b = state_after (fresh p) calls in
    let r = reached p k calls in
    does b.storages b.session c host room r.kept.sound r.fits q
