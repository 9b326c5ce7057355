-- What a refusal and a cancel leave, in every list of calls.
use Rattle.std.proofs.Common.{◌≡◌, ℕ, eqb, ◌⊎◌, List, sym, refl, ap, ◌∙◌, subst, inl, inr, arith}
use Rattle.std.proofs.lemmas.Bool.{cases_eq, eq-eqb, ne_eqb, cond-true, cond-false}
use Rattle.wire.specs.declared.command.Command.{Command}
use Rattle.wire.specs.Operations.{open_session, send_object_info, send_object}
use Rattle.protocol.specs.declared.fault.OperationFault.{OperationFault}
use Rattle.protocol.specs.declared.fault.OperationFault.TheVariants.{InvalidTransaction, OperationNotSupported, TransactionCancelled}
use Rattle.protocol.specs.declared.session.OpenSession.{OpenSession}
use Rattle.protocol.specs.declared.session.Session.{Session}
use Rattle.protocol.specs.declared.session.Session.TheVariants.{Closed, Open}
use Rattle.protocol.specs.Faults.{ok, operation_fault_number}
use Rattle.protocol.specs.Storages.{Storages}
use Rattle.protocol.specs.Objects.{In}
use Rattle.protocol.specs.Acting.{given_next, at_rest}
use Rattle.protocol.specs.Invariant.{StateFits}
use Rattle.protocol.specs.Machine.{Reply, Answer, after, moved, refused, answered, state_after, fresh}
use Rattle.protocol.specs.Refusals.{Follows, Turned, PastAnnouncement, SparedOpen, Quiet, InSession, Refusal, Cancel, RefusalsLeave, SameTransaction, info_answers, InfosAnswered}
use Rattle.protocol.proofs.Ways.{apart, fault_not_ok}
use Rattle.protocol.proofs.Effects.{Plain, InfoFault, no_storage, read_only, incomplete, bad_dataset, bad_format, bad_parent, too_large, full}
use Rattle.protocol.proofs.Steps as steps
use Rattle.protocol.proofs.Steps.{Timely, Stopped, held, untimely, unknown, Early, Went, WentClosed, Spared, open_went, closed_went, cancel_went, unknown_send, unknown_info}
use Rattle.protocol.proofs.Staying.{reached}

follows_after : (t : ℕ) → Follows t (after t)
follows_after t = by (cases_eq t 0xFFFFFFFE)
  where
    by : (t ≡ 0xFFFFFFFE) ⊎ (t ≡ 0xFFFFFFFE → ⊥) → Follows t (after t)
    by (inl e) = inl (e, cond-true (eqb t 0xFFFFFFFE) _ _ (eq-eqb t 0xFFFFFFFE e))
    by (inr n) = inr (n, cond-false (eqb t 0xFFFFFFFE) _ _ (ne_eqb t 0xFFFFFFFE n))

turned_moved : (s t : OpenSession) (c : Command) → Timely s c → t.expected ≡ after s.expected → Turned c s t
turned_moved s t c w e = record {
  moves = λ _ _. subst (λ n. Follows s.expected n) (sym e) (follows_after s.expected);
  held = λ q. absurd (w.no_opening q);
  untimely = λ n. absurd (n w.in_turn);
}

turned_stopped : (s : OpenSession) (c : Command) (f : OperationFault) (t : OpenSession) → Stopped s c f t → Turned c s t
turned_stopped s c _ _ (held e) = record { moves = λ n _. absurd (n e); held = λ _. refl; untimely = λ _. refl }
turned_stopped s c _ _ (untimely n m) = record { moves = λ _ q. absurd (m q); held = λ _. refl; untimely = λ _. refl }
turned_stopped s c _ _ (unknown w e) = turned_moved s (moved s) c w refl

same_stopped : (s : OpenSession) (c : Command) (f : OperationFault) (t : OpenSession) → Stopped s c f t → SparedOpen c s t
same_stopped s c _ _ (held e) = record { same_id = refl; same_next = refl; turned = turned_stopped s c _ s (held e); same_transfer = refl }
same_stopped s c _ _ (untimely n m) = record { same_id = refl; same_next = refl; turned = turned_stopped s c _ s (untimely n m); same_transfer = refl }
same_stopped s c _ _ (unknown w e) = record { same_id = refl; same_next = refl; turned = turned_stopped s c _ (moved s) (unknown w e); same_transfer = refl }

-- the session's own steps refuse before an announcement is looked at
early_stopped : (s : OpenSession) (c : Command) (f : OperationFault) (t : OpenSession) (r : Reply) → r.code ≡ operation_fault_number f → Stopped s c f t → PastAnnouncement c r → ⊥
early_stopped s c _ _ r q (held e) p = apart open_session send_object e p.sends refl
early_stopped s c _ _ r q (untimely n m) p = p.timely q
early_stopped s c _ _ r q (unknown w e) p = unknown_send c e p.sends

quiet_plain : (f : OperationFault) (p : Storages) (before after : Session) (c : Command) → Plain f → Quiet (record { storages = p; session = before }) (refused f p after c)
quiet_plain f p before after c h = record { no_data = refl; only_id = inl h; same_storages = refl }

quiet_stopped : (p : Storages) (s : OpenSession) (c : Command) (f : OperationFault) (t : OpenSession) → Stopped s c f t → Quiet (record { storages = p; session = Open s }) (refused f p (Open t) c)
quiet_stopped p s c _ _ (held e) = record { no_data = refl; only_id = inr (s, refl, refl, refl); same_storages = refl }
quiet_stopped p s c _ _ (untimely n m) = quiet_plain InvalidTransaction p (Open s) (Open s) c refl
quiet_stopped p s c _ _ (unknown w e) = quiet_plain OperationNotSupported p (Open s) (Open (moved s)) c refl

went_refusal : (p : Storages) (s : OpenSession) (c : Command) (host : List ℕ) (a : Answer) → Went p s c host a → (a.reply.code ≡ ok → ⊥) → Refusal (record { storages = p; session = Open s }) c a
went_refusal p s c host _ (steps.stopped f t w) n =
    let k = same_stopped s c f t w in
    record {
      quiet = quiet_stopped p s c f t w;
      session = record { same_id = k.same_id; same_next = k.same_next; turned = k.turned; ended = λ q. absurd (early_stopped s c f t _ refl w q); kept = λ _. k.same_transfer };
    }
went_refusal p s c host _ (steps.refuses f w h early _) n = record {
  quiet = quiet_plain f p (Open s) (Open (moved s)) c h;
  session = record { same_id = refl; same_next = refl; turned = turned_moved s (moved s) c w refl; ended = λ q. absurd (not_past q (early q.sends)); kept = λ _. refl };
}
  where
    not_past : PastAnnouncement c (refused f p (Open (moved s)) c).reply → Early f → ⊥
    not_past q (inl e) = q.no_surplus (ap operation_fault_number e)
    not_past q (inr e) = q.announced (ap operation_fault_number e)
went_refusal p s c host _ (steps.ends f w e h later) n = record {
  quiet = quiet_plain f p (Open s) (Open (at_rest (moved s))) c h;
  session = record {
    same_id = refl;
    same_next = refl;
    turned = turned_moved s (at_rest (moved s)) c w refl;
    ended = λ _. refl;
    kept = λ q. absurd (q (record { sends = e; timely = later.0; no_surplus = later.1; announced = later.2 }));
  };
}
went_refusal p s c host _ (steps.tells x _ _) n = absurd (n refl)
went_refusal p s c host _ (steps.closes _ _) n = absurd (n refl)
went_refusal p s c host _ (steps.deletes _ _ _ _) n = absurd (n refl)
went_refusal p s c host _ (steps.gives _ _ _ _ _ _) n = absurd (n refl)
went_refusal p s c host _ (steps.brings _ _ _ _) n = absurd (n refl)

closed_refusal : (p : Storages) (c : Command) (a : Answer) → WentClosed p c a → (a.reply.code ≡ ok → ⊥) → Refusal (record { storages = p; session = Closed }) c a
closed_refusal p c _ (steps.WentClosed.refuses f h _) n = record { quiet = quiet_plain f p Closed Closed c h; session = tt }
closed_refusal p c _ (steps.WentClosed.tells e) n = absurd (n refl)
closed_refusal p c _ (steps.WentClosed.opens e l) n = absurd (n refl)

spared_cancel : (p : Storages) (s : Session) (c : Command) (a : Answer) → Spared p c s a → Cancel (record { storages = p; session = s }) c a
spared_cancel p _ c _ (steps.Spared.closed f h) = record { refused = fault_not_ok f; quiet = quiet_plain f p Closed Closed c h; session = tt }
spared_cancel p _ c _ (steps.Spared.stopped s f t w) = record { refused = fault_not_ok f; quiet = quiet_stopped p s c f t w; session = same_stopped s c f t w }
spared_cancel p _ c _ (steps.Spared.passed s w) = record {
  refused = fault_not_ok TransactionCancelled;
  quiet = quiet_plain TransactionCancelled p (Open s) (Open (moved s)) c refl;
  session = record { same_id = refl; same_next = refl; turned = turned_moved s (moved s) c w refl; same_transfer = refl };
}

-- accepted or not, the expected transaction moves as it should
open_same : {s t : OpenSession} → Open s ≡ Open t → s ≡ t
open_same e = cc

in_turn : (s t : OpenSession) (c : Command) (a : Answer) → Timely s c → a.state.session ≡ Open t → t.expected ≡ after s.expected → InSession s c a
in_turn s t c a w e q = record {
  turned = λ u g. turned_moved s u c w (ap (λ (v : OpenSession). v.expected) (open_same (sym g ∙ e)) ∙ q);
  no_second = λ g. absurd (w.no_opening g);
  out_of_turn = λ _ n. absurd (n w.in_turn);
}

second_stopped : (s : OpenSession) (c : Command) (f : OperationFault) (t : OpenSession) → Stopped s c f t → c.code ≡ open_session → operation_fault_number f ≡ 0x201E
second_stopped s c _ _ (held _) e = refl
second_stopped s c _ _ (untimely n m) e = absurd (n e)
second_stopped s c _ _ (unknown v _) e = absurd (v.no_opening e)

out_stopped : (s : OpenSession) (c : Command) (f : OperationFault) (t : OpenSession) → Stopped s c f t
    → (c.code ≡ open_session → ⊥) → (c.transaction ≡ s.expected → ⊥) → operation_fault_number f ≡ 0x2004
out_stopped s c _ _ (held e) n m = absurd (n e)
out_stopped s c _ _ (untimely _ _) n m = refl
out_stopped s c _ _ (unknown v _) n m = absurd (m v.in_turn)

stopped_session : (p : Storages) (s : OpenSession) (c : Command) (f : OperationFault) (t : OpenSession) → Stopped s c f t → InSession s c (refused f p (Open t) c)
stopped_session p s c f t w = record {
  turned = λ u g. subst (λ v. Turned c s v) (open_same g) (turned_stopped s c f t w);
  no_second = second_stopped s c f t w;
  out_of_turn = out_stopped s c f t w;
}

went_session : (p : Storages) (s : OpenSession) (c : Command) (host : List ℕ) (a : Answer) → Went p s c host a → InSession s c a
went_session p s c host _ (steps.stopped f t w) = stopped_session p s c f t w
went_session p s c host _ (steps.refuses f w _ _ _) = in_turn s (moved s) c _ w refl refl
went_session p s c host _ (steps.ends f w _ _ _) = in_turn s (at_rest (moved s)) c _ w refl refl
went_session p s c host _ (steps.tells x w _) = in_turn s (moved s) c _ w refl refl
went_session p s c host _ (steps.closes w _) = record {
  turned = λ u g. absurd (let z : ◌≡◌ {A = ℕ} 0 1 = cc in omega arith);
  no_second = λ g. absurd (w.no_opening g);
  out_of_turn = λ _ n. absurd (n w.in_turn);
}
went_session p s c host _ (steps.deletes w _ _ _) = in_turn s (moved s) c _ w refl refl
went_session p s c host _ (steps.gives w _ _ t _ _) = in_turn s (given_next (moved s) t) c _ w refl refl
went_session p s c host _ (steps.brings w _ _ _) = in_turn s (at_rest (moved s)) c _ w refl refl

-- the reply's transaction
went_transaction : (p : Storages) (s : OpenSession) (c : Command) (host : List ℕ) (a : Answer) → Went p s c host a → a.reply.transaction ≡ c.transaction
went_transaction p s c host _ (steps.stopped _ _ _) = refl
went_transaction p s c host _ (steps.refuses _ _ _ _ _) = refl
went_transaction p s c host _ (steps.ends _ _ _ _ _) = refl
went_transaction p s c host _ (steps.tells _ _ _) = refl
went_transaction p s c host _ (steps.closes _ _) = refl
went_transaction p s c host _ (steps.deletes _ _ _ _) = refl
went_transaction p s c host _ (steps.gives _ _ _ _ _ _) = refl
went_transaction p s c host _ (steps.brings _ _ _ _) = refl

closed_transaction : (p : Storages) (c : Command) (a : Answer) → WentClosed p c a → a.reply.transaction ≡ c.transaction
closed_transaction p c _ (steps.WentClosed.refuses _ _ _) = refl
closed_transaction p c _ (steps.WentClosed.tells _) = refl
closed_transaction p c _ (steps.WentClosed.opens _ _) = refl

spared_transaction : (p : Storages) (s : Session) (c : Command) (a : Answer) → Spared p c s a → a.reply.transaction ≡ c.transaction
spared_transaction p _ c _ (steps.Spared.closed _ _) = refl
spared_transaction p _ c _ (steps.Spared.stopped _ _ _ _) = refl
spared_transaction p _ c _ (steps.Spared.passed _ _) = refl

-- SendObjectInfo
info_number : (f : OperationFault) → InfoFault f → In (operation_fault_number f) info_answers
info_number _ no_storage = inr (inr (inr (inr (inr (inl refl)))))
info_number _ read_only = inr (inr (inr (inr (inr (inr (inr (inr (inl refl))))))))
info_number _ incomplete = inr (inr (inr (inr (inl refl))))
info_number _ bad_dataset = inr (inr (inr (inr (inr (inr (inr (inr (inr (inr (inl refl))))))))))
info_number _ bad_format = inr (inr (inr (inr (inr (inr (inl refl))))))
info_number _ bad_parent = inr (inr (inr (inr (inr (inr (inr (inr (inr (inl refl)))))))))
info_number _ too_large = inr (inr (inr (inr (inr (inr (inr (inr (inr (inr (inr (inl refl)))))))))))
info_number _ full = inr (inr (inr (inr (inr (inr (inr (inl refl)))))))

info_refusal_number : (f : OperationFault) → steps.InfoRefusal f → In (operation_fault_number f) info_answers
info_refusal_number f (inl e) = subst (λ g. In (operation_fault_number g) info_answers) (sym e) (inr (inr (inr (inl refl))))
info_refusal_number f (inr h) = info_number f h

stopped_number : (s : OpenSession) (c : Command) (f : OperationFault) (t : OpenSession) → c.code ≡ send_object_info → Stopped s c f t → In (operation_fault_number f) info_answers
stopped_number s c _ _ e (held q) = apart send_object_info open_session e q refl
stopped_number s c _ _ e (untimely _ _) = inr (inr (inl refl))
stopped_number s c _ _ e (unknown _ q) = absurd (unknown_info c q e)

went_number : (p : Storages) (s : OpenSession) (c : Command) (host : List ℕ) (a : Answer) → c.code ≡ send_object_info → Went p s c host a → In a.reply.code info_answers
went_number p s c host _ e (steps.stopped f t w) = stopped_number s c f t e w
went_number p s c host _ e (steps.refuses f _ _ _ h) = info_refusal_number f (h e)
went_number p s c host _ e (steps.ends f _ q _ _) = apart send_object_info send_object e q refl
went_number p s c host _ e (steps.tells x _ _) = inl refl
went_number p s c host _ e (steps.closes _ _) = inl refl
went_number p s c host _ e (steps.deletes _ _ _ _) = inl refl
went_number p s c host _ e (steps.gives _ _ _ _ _ _) = inl refl
went_number p s c host _ e (steps.brings _ _ _ _) = inl refl

closed_number : (p : Storages) (c : Command) (a : Answer) → c.code ≡ send_object_info → WentClosed p c a → In a.reply.code info_answers
closed_number p c _ e (steps.WentClosed.refuses f _ h) = inr (inl (sym (ap operation_fault_number (h e))))
closed_number p c _ e (steps.WentClosed.tells _) = inl refl
closed_number p c _ e (steps.WentClosed.opens _ _) = inl refl

-- what holds of every answer, given a way for each kind of session
by_session : (P : Storages → Session → Command → Answer → Type 0)
    → ((p : Storages) (c : Command) (a : Answer) → WentClosed p c a → P p Closed c a)
    → ((p : Storages) (s : OpenSession) (c : Command) (host : List ℕ) (a : Answer) → Went p s c host a → P p (Open s) c a)
    → (p : Storages) (s : Session) (c : Command) (host : List ℕ) (room : ℕ) → StateFits (record { storages = p; session = s })
    → P p s c (answered (record { storages = p; session = s }) c host room)
by_session P a b p Closed c host room f = a p c _ (closed_went p c room host)
by_session P a b p (Open s) c host room f = b p s c host _ (open_went p s c host room f)

pub refusals_leave : RefusalsLeave
refusals_leave = record {
  answers = λ p k calls c host room.
      let b = state_after (fresh p) calls in
      by_session (λ p s c a. (a.reply.code ≡ ok → ⊥) → Refusal (record { storages = p; session = s }) c a) closed_refusal went_refusal b.storages b.session c host room (reached p k calls).fits;
  cancels = λ p k calls c.
      let b = state_after (fresh p) calls in
      spared_cancel b.storages b.session c _ (cancel_went b.storages c b.session);
  in_session = λ p k calls c host room s e.
      let b = state_after (fresh p) calls in
      by_session (λ p s c a. (t : OpenSession) → s ≡ Open t → InSession t c a)
      (λ p c a w t q. absurd (let z : ◌≡◌ {A = ℕ} 0 1 = cc in omega arith))
      (λ p s c host a w t q. subst (λ v. InSession v c a) (open_same q) (went_session p s c host a w))
      b.storages b.session c host room (reached p k calls).fits s e;
}

pub same_transaction : SameTransaction
same_transaction = record {
  answers = λ p k calls c host room.
      let b = state_after (fresh p) calls in
      by_session (λ p s c a. a.reply.transaction ≡ c.transaction) closed_transaction went_transaction b.storages b.session c host room (reached p k calls).fits;
  cancels = λ p k calls c.
      let b = state_after (fresh p) calls in
      spared_transaction b.storages b.session c _ (cancel_went b.storages c b.session);
}

pub infos_answered : InfosAnswered
infos_answered p k calls c host room e =
    let b = state_after (fresh p) calls in
    by_session (λ p s c a. c.code ≡ send_object_info → In a.reply.code info_answers)
    (λ p c a w q. closed_number p c a q w) (λ p s c host a w q. went_number p s c host a q w)
    b.storages b.session c host room (reached p k calls).fits e
