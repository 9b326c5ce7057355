-- Each call of a session is fair to what went before, and keeps the session true to it.
use Rattle.std.proofs.Common.{◌≡◌, ℕ, suc, ◌+◌, ◌-◌, ◌<◌, ◌≤◌, Bool, true, false, cond, eqb, ltb, ◌⊎◌, List, [], ◌∷◌, ◌++◌, Some, None, Option, sym, refl, ap, ◌∙◌, subst, inl, inr, zero-add, arith}
use mathlib.Core.List.{cons≢nil, head-eq_of_cons-eq, tail-eq_of_cons-eq}
use Rattle.std.specs.List.{AllByRecursion}
use Rattle.std.proofs.lemmas.Bool.{eq-eqb, ne_eqb, ltb-false, cases_eq, cond-true, cond-false, true≢false}
use Rattle.byte_parts.proofs.Cutting.{none_some, some_same}
use Rattle.object.specs.Formats.{is_folder}
use Rattle.store.specs.Contents.{File, Contents, lookup}
use Rattle.store.specs.Sound.{last_number}
use Rattle.store.specs.Changes.{adding, removing}
use Rattle.store.specs.Laws.{DiffersAt}
use Rattle.store.proofs.Kept.{changes_keep}
use Rattle.wire.specs.declared.command.Command.{Command}
use Rattle.wire.specs.Containers.{payload_in}
use Rattle.wire.specs.Operations.{open_session, get_device_info, get_object, get_partial_object, delete_object, send_object_info, send_object}
use Rattle.protocol.specs.declared.fault.OperationFault.{OperationFault}
use Rattle.protocol.specs.declared.session.OpenSession.{OpenSession}
use Rattle.protocol.specs.declared.session.Session.{Session}
use Rattle.protocol.specs.declared.session.Session.TheVariants.{Closed, Open}
use Rattle.protocol.specs.declared.session.Transfer.{Transfer}
use Rattle.protocol.specs.declared.session.Transfer.TheVariants.{Idle, Announced}
use Rattle.protocol.specs.Faults.{ok, operation_fault_number}
use Rattle.protocol.specs.Commands.{parameter}
use Rattle.protocol.specs.Storages.{Storages, SoundStorages, second_base, object_at}
use Rattle.protocol.specs.Looking.{Shown}
use Rattle.protocol.specs.Acting.{given_next, at_rest, file_of}
use Rattle.protocol.specs.Invariant.{OpenFits, StateFits}
use Rattle.protocol.specs.Machine.{State, Reply, Answer, Call, answer, cancel, unplug, Event, answers, event, history, moved, with_first, refused, acted, next_state, state_after, fresh, answered}
use Rattle.protocol.specs.Keeping.{Binding, bound_on, bound_at_opening, Seen, at_opening, handle_given, binds, seen_by, seen_with, seen, Bound, Unbound, Once, Justified, Fair, Ends, Unended, HandlesKeepBytes}
use Rattle.protocol.proofs.Ways.{apart, fault_not_ok}
use Rattle.protocol.proofs.Effects.{acceptance, opened, handles_told, Gives, a_folder, a_file, Brings}
use Rattle.protocol.proofs.Steps as steps
use Rattle.protocol.proofs.Steps.{Stopped, held, untimely, unknown, Told, telling, Went, WentClosed, Spared, open_went, closed_went, cancel_went, told_no_info, told_no_object, told_object, told_part}
use Rattle.protocol.proofs.Looks.{object_look, part_look}
use Rattle.protocol.proofs.Staying.{Leads, call_leads, reached, fits_opened}
use Rattle.protocol.proofs.Bindings.{Apart, apart_more, below_more, apart_unbound, below_not_among, bound_found, bound_left, bound_right, once_both, apart_both}

-- an announcement is of the handle given last, which has no bytes yet
abbrev Awaits : Transfer → List ℕ → List Binding → Type 0
Awaits Idle given bs = Unit {0}
Awaits (Announced a) [] bs = ⊥
Awaits (Announced a) (h ∷ hs) bs = (h ≡ a.number) × Unbound h bs

-- each file of the storages has its bytes bound, but for folders that came later
pub record FilesBound (p : Storages) (bs : List Binding) : Type 0 where
  pub first : (n : ℕ) (f : File) → lookup n p.first.files ≡ Some f → is_folder f.format ≡ false → Bound n f.bytes bs
  pub second : (n : ℕ) (f : File) → lookup n p.second.files ≡ Some f → Bound (second_base + n) f.bytes bs

-- what holds between a session's state and what it has seen
pub record TrueTo (o : Storages) (sn : Seen) (p : Storages) (s : OpenSession) : Type 0 where
  pub sound : SoundStorages p
  pub fits : OpenFits p s
  pub files : FilesBound p sn.bindings
  pub bindings_apart : Apart s.next sn.bindings
  pub opening_apart : Apart s.next (bound_at_opening o)
  pub given_below : AllByRecursion (λ h. h < s.next) sn.given
  pub once : Once sn.bindings
  pub awaits : Awaits s.transfer sn.given sn.bindings

abbrev Holds : Storages → Seen → State → Type 0
Holds o sn b = by b.session
  where
    by : Session → Type 0
    by Closed = ⊥
    by (Open s) = TrueTo o sn b.storages s

-- the opening
true_opening : (p : Storages) (id : ℕ) → SoundStorages p → 1 ≤ id → TrueTo p (at_opening p) p (opened p id)
true_opening p id k l =
    let fits = fits_opened p id k l in
    let up = k.first_sound.ascending in
    let apart = apart_both (opened p id).next 0 p.first.files p.second.files up fits.next_above in
    record {
      sound = k;
      fits = fits;
      files = record {
        first = λ n f e _. bound_left n f.bytes (bound_on 0 p.first.files) (bound_on second_base p.second.files)
            (subst (λ m. Bound m f.bytes (bound_on 0 p.first.files)) (zero-add n) (bound_found 0 n f p.first.files e));
        second = λ n f e. bound_right (second_base + n) f.bytes (bound_on 0 p.first.files) (bound_on second_base p.second.files) (bound_found second_base n f p.second.files e);
      };
      bindings_apart = apart;
      opening_apart = apart;
      given_below = tt;
      once = once_both 0 p.first.files p.second.files up (λ n f e. let h = k.first_sound.numbers n f e in omega arith) k.second_sound.ascending;
      awaits = tt;
    }

-- a state that differs in nothing that matters here
true_same : (o : Storages) (sn : Seen) (p : Storages) (s t : OpenSession) → TrueTo o sn p s → OpenFits p t → t.next ≡ s.next
    → Awaits t.transfer sn.given sn.bindings → TrueTo o sn p t
true_same o sn p s t i fits e w = record {
  sound = i.sound;
  fits = fits;
  files = i.files;
  bindings_apart = subst (λ n. Apart n sn.bindings) (sym e) i.bindings_apart;
  opening_apart = subst (λ n. Apart n (bound_at_opening o)) (sym e) i.opening_apart;
  given_below = subst (λ n. AllByRecursion (λ h. h < n) sn.given) (sym e) i.given_below;
  once = i.once;
  awaits = w;
}

-- what is found after a change was found before, or is what was added
found_differs : (n m : ℕ) (f g : File) (c d : Contents) → DiffersAt n (Some f) c d → lookup m d.files ≡ Some g → ((m ≡ n) × (g ≡ f)) ⊎ (lookup m c.files ≡ Some g)
found_differs n m f g c d diff e = by (cases_eq m n)
  where
    by : (m ≡ n) ⊎ (m ≡ n → ⊥) → ((m ≡ n) × (g ≡ f)) ⊎ (lookup m c.files ≡ Some g)
    by (inl q) = inl (q, some_same (sym e ∙ ap (λ k. lookup k d.files) q ∙ diff.here))
    by (inr q) = inr (sym (diff.elsewhere m q) ∙ e)

-- files after a removal
files_removed : (p : Storages) (bs : List Binding) (n : ℕ) (d : Contents) → DiffersAt n None p.first d → FilesBound p bs → FilesBound (with_first p d) bs
files_removed p bs n d diff i = record { first = λ m f e. i.first m f (by m f e (cases_eq m n)); second = i.second }
  where
    by : (m : ℕ) (f : File) → lookup m d.files ≡ Some f → (m ≡ n) ⊎ (m ≡ n → ⊥) → lookup m p.first.files ≡ Some f
    by m f e (inl q) = absurd (none_some (sym diff.here ∙ ap (λ k. lookup k d.files) (sym q) ∙ e))
    by m f e (inr q) = sym (diff.elsewhere m q) ∙ e

-- files after a folder was added
files_folder : (p : Storages) (bs : List Binding) (n : ℕ) (f : File) (d : Contents) → is_folder f.format ≡ true → DiffersAt n (Some f) p.first d
    → FilesBound p bs → FilesBound (with_first p d) bs
files_folder p bs n f d u diff i = record { first = λ m g e v. by m g v (found_differs n m f g p.first d diff e); second = i.second }
  where
    by : (m : ℕ) (g : File) → is_folder g.format ≡ false → ((m ≡ n) × (g ≡ f)) ⊎ (lookup m p.first.files ≡ Some g) → Bound m g.bytes bs
    by m g v (inl (q, r)) = absurd (true≢false (sym u ∙ ap (λ (x : File). is_folder x.format) (sym r) ∙ v))
    by m g v (inr e) = i.first m g e v

-- files after the announced one was added
files_sent : (p : Storages) (bs : List Binding) (h n : ℕ) (f : File) (d : Contents) → h ≡ n → DiffersAt n (Some f) p.first d
    → FilesBound p bs → FilesBound (with_first p d) (record { handle = h; bytes = f.bytes } ∷ bs)
files_sent p bs h n f d same diff i = record { first = λ m g e v. by m g v (found_differs n m f g p.first d diff e); second = λ m g e. inr (i.second m g e) }
  where
    by : (m : ℕ) (g : File) → is_folder g.format ≡ false → ((m ≡ n) × (g ≡ f)) ⊎ (lookup m p.first.files ≡ Some g)
        → Bound m g.bytes (record { handle = h; bytes = f.bytes } ∷ bs)
    by m g v (inl (q, r)) = inl (same ∙ sym q, ap (λ (x : File). x.bytes) (sym r))
    by m g v (inr e) = inr (i.first m g e v)

-- a file that is found has its bytes bound
found_bound : (p : Storages) (bs : List Binding) (h : ℕ) (f : File) → FilesBound p bs → object_at p h ≡ Some f → is_folder f.format ≡ false → Bound h f.bytes bs
unfolding object_at
found_bound p bs h f i e u = by (ltb h second_base) refl e
  where
    by : (t : Bool) → ltb h second_base ≡ t → cond t (lookup h p.first.files) (lookup (h - second_base) p.second.files) ≡ Some f → Bound h f.bytes bs
    by true q e = i.first h f e u
    by false q e = subst (λ m. Bound m f.bytes bs) (let l : second_base ≤ h = ltb-false h second_base q in omega arith) (i.second (h - second_base) f e)

-- how what was seen goes on, by the code
seen_other : (c : Command) (host : List ℕ) (r : Reply) (sn : Seen) → (c.code ≡ send_object_info → ⊥) → (c.code ≡ send_object → ⊥) → seen_by c.code c host r sn ≡ sn
seen_other c host r sn a b = cond-false _ _ _ (ne_eqb c.code send_object_info a) ∙ cond-false _ _ _ (ne_eqb c.code send_object b)

abbrev with_given : Seen → ℕ → Seen
with_given sn h = record { bindings = sn.bindings; given = h ∷ sn.given }

seen_info : (c : Command) (host : List ℕ) (r : Reply) (sn : Seen) → c.code ≡ send_object_info → seen_by c.code c host r sn ≡ with_given sn (handle_given r)
seen_info c host r sn e = cond-true _ _ _ (eq-eqb c.code send_object_info e)

seen_sent : (c : Command) (host : List ℕ) (r : Reply) (sn : Seen) → c.code ≡ send_object
    → seen_by c.code c host r sn ≡ record { bindings = binds sn.given (payload_in c.code c.transaction host) sn.bindings; given = sn.given }
seen_sent c host r sn e = cond-false _ _ _ (ne_eqb c.code send_object_info (λ g. apart send_object send_object_info e g refl)) ∙ cond-true _ _ _ (eq-eqb c.code send_object e)

-- a command that is neither a read nor brings anything
justified_other : (o : Storages) (sn : Seen) (c : Command) (r : Reply) (k : ℕ) → c.code ≡ k → eqb k get_object ≡ false → eqb k get_partial_object ≡ false
    → eqb k send_object_info ≡ false → eqb k send_object ≡ false → Justified o sn c r
justified_other o sn c r k e x y z w = record {
  whole = λ g. apart k get_object e g x;
  partial = λ g. apart k get_partial_object e g y;
  new = λ g. apart k send_object_info e g z;
  follows = λ g. apart k send_object e g w;
}

-- a step is good: an accepted one is justified, and the state after is true to what is then seen
abbrev Good : Storages → Seen → Command → List ℕ → Answer → Type 0
Good o sn c host a = (a.reply.code ≡ ok → Justified o sn c a.reply) × Holds o (seen_with sn (answers c host a.reply)) a.state

module _ (o : Storages) (sn : Seen) (p : Storages) (s : OpenSession) (c : Command) (host : List ℕ) (i : TrueTo o sn p s) where
  good_refusal : (f : OperationFault) (t : OpenSession) → TrueTo o sn p t → Good o sn c host (refused f p (Open t) c)
  good_refusal f t h = (
    (λ e. absurd (fault_not_ok f e)),
    subst (λ (z : Seen). TrueTo o z p t) (sym (cond-false (eqb (operation_fault_number f) ok) _ _ (ne_eqb (operation_fault_number f) ok (fault_not_ok f)))) h,
  )

  same_stopped : (f : OperationFault) (t : OpenSession) → OpenFits p t → Stopped s c f t → TrueTo o sn p t
  same_stopped _ _ fits (held e) = i
  same_stopped _ _ fits (untimely n m) = i
  same_stopped _ _ fits (unknown t e) = true_same o sn p s (moved s) i fits refl i.awaits

  told_justified : (x : Shown) → Told p c x → Justified o sn c (telling x p (Open (moved s)) c).reply
  told_justified x t = record {
    whole = λ e.
        let l = object_look p (parameter 1 c) x (told_object p c x t e) in
        (l.file.bytes, found_bound p sn.bindings (parameter 1 c) l.file i.files l.there l.no_folder, ap (Rattle.protocol.specs.Machine.data_of c) l.payload_is);
    partial = λ e.
        let l = part_look p (parameter 1 c) (parameter 2 c) (parameter 3 c) x (told_part p c x t e) in
        (l.file.bytes, found_bound p sn.bindings (parameter 1 c) l.file i.files l.there l.no_folder, l.within, ap (Rattle.protocol.specs.Machine.data_of c) l.payload_is, l.count_is);
    new = λ e. absurd (told_no_info p c x t e);
    follows = λ e. absurd (told_no_object p c x t e);
  }

  info_justified : c.code ≡ send_object_info → s.next ≤ last_number → Justified o sn c (acted p c (acceptance (handles_told (moved s) c) p.first Closed)).reply
  info_justified e l = record {
    whole = λ g. apart send_object_info get_object e g refl;
    partial = λ g. apart send_object_info get_partial_object e g refl;
    new = λ _. (apart_unbound s.next (bound_at_opening o) (omega arith) i.opening_apart, below_not_among s.next sn.given i.given_below);
    follows = λ g. apart send_object_info send_object e g refl;
  }

  -- after a number was given
  true_given : (d : Contents) (t : Transfer) → SoundStorages (with_first p d) → OpenFits (with_first p d) (given_next (moved s) t) → s.next ≤ last_number
      → Gives p (moved s) c host d t → TrueTo o (with_given sn s.next) (with_first p d) (given_next (moved s) t)
  true_given _ _ k fits l (a_folder a d _ _ u e) = record {
    sound = k;
    fits = fits;
    files = files_folder p sn.bindings s.next (file_of a []) d u (changes_keep p.locked (adding s.next (file_of a [])) p.first d i.sound.first_sound e).1 i.files;
    bindings_apart = apart_more s.next (suc s.next) sn.bindings (omega arith) i.bindings_apart;
    opening_apart = apart_more s.next (suc s.next) (bound_at_opening o) (omega arith) i.opening_apart;
    given_below = (omega arith, below_more s.next (suc s.next) sn.given (omega arith) i.given_below);
    once = i.once;
    awaits = tt;
  }
  true_given _ _ k fits l (a_file a n _ _ w) = record {
    sound = k;
    fits = fits;
    files = i.files;
    bindings_apart = apart_more s.next (suc s.next) sn.bindings (omega arith) i.bindings_apart;
    opening_apart = apart_more s.next (suc s.next) (bound_at_opening o) (omega arith) i.opening_apart;
    given_below = (omega arith, below_more s.next (suc s.next) sn.given (omega arith) i.given_below);
    once = i.once;
    awaits = (sym n, apart_unbound s.next sn.bindings (omega arith) i.bindings_apart);
  }

-- an accepted SendObject binds the handle given last
sent_good : (o : Storages) (sn : Seen) (p : Storages) (s : OpenSession) (c : Command) (host : List ℕ) → TrueTo o sn p s → c.code ≡ send_object
    → (d : Contents) → Leads p (record { storages = with_first p d; session = Open (at_rest (moved s)) }) → Brings p (moved s) c host d
    → Good o sn c host (acted p c (acceptance [] d (Open (at_rest (moved s)))))
sent_good o sn p s c host i e d leads b =
    by sn.given (subst (λ t. Awaits t sn.given sn.bindings) b.stood i.awaits) i.given_below
  where
    by : (gs : List ℕ) → Awaits (Announced b.announcement) gs sn.bindings → AllByRecursion (λ h. h < s.next) gs
        → Good o (record { bindings = sn.bindings; given = gs }) c host (acted p c (acceptance [] d (Open (at_rest (moved s)))))
    by [] w g = absurd w
    by (h ∷ hs) w g = (
      (λ _. record {
        whole = λ x. apart send_object get_object e x refl;
        partial = λ x. apart send_object get_partial_object e x refl;
        new = λ x. apart send_object send_object_info e x refl;
        follows = λ _ x. cons≢nil x;
      }),
      subst (λ (z : Seen). TrueTo o z (with_first p d) (at_rest (moved s)))
          (sym (seen_sent c host (record { code = ok; transaction = c.transaction; parameters = []; sent = [] }) (record { bindings = sn.bindings; given = h ∷ hs }) e
          ∙ ap {B = Seen} (λ (q : Option (List ℕ)). record { bindings = binds (h ∷ hs) q sn.bindings; given = h ∷ hs }) b.received))
          (record {
            sound = leads.sound;
            fits = leads.fits;
            files = files_sent p sn.bindings h b.announcement.number (file_of b.announcement b.payload) d w.0
                (changes_keep p.locked (adding b.announcement.number (file_of b.announcement b.payload)) p.first d i.sound.first_sound b.change).1 i.files;
            bindings_apart = (inl g.0, i.bindings_apart);
            opening_apart = i.opening_apart;
            given_below = g;
            once = (w.1, i.once);
            awaits = tt;
          }),
    )

went_good : (o : Storages) (sn : Seen) (p : Storages) (s : OpenSession) (c : Command) (host : List ℕ) (a : Answer) → TrueTo o sn p s → Leads p a.state
    → Went p s c host a → (Ends (answers c host a.reply) → ⊥) → Good o sn c host a
went_good o sn p s c host _ i l (steps.stopped f t w) ne = good_refusal o sn p s c host i f t (same_stopped o sn p s c host i f t l.fits w)
went_good o sn p s c host _ i l (steps.refuses f _ _ _ _) ne = good_refusal o sn p s c host i f (moved s) (true_same o sn p s (moved s) i l.fits refl i.awaits)
went_good o sn p s c host _ i l (steps.ends f _ _ _ _) ne = good_refusal o sn p s c host i f (at_rest (moved s)) (true_same o sn p s (at_rest (moved s)) i l.fits refl tt)
went_good o sn p s c host _ i l (steps.tells x _ t) ne = (
  (λ _. told_justified o sn p s c host i x t),
  subst (λ (z : Seen). TrueTo o z p (moved s)) (sym (seen_other c host (telling x p (Open (moved s)) c).reply sn (told_no_info p c x t) (told_no_object p c x t)))
      (true_same o sn p s (moved s) i l.fits refl i.awaits),
)
went_good o sn p s c host _ i l (steps.closes _ e) ne = absurd (ne (refl, e))
went_good o sn p s c host _ i l (steps.deletes _ e d q) ne = (
  (λ _. justified_other o sn c _ delete_object e refl refl refl refl),
  subst (λ (z : Seen). TrueTo o z (with_first p d) (moved s))
      (sym (seen_other c host (record { code = ok; transaction = c.transaction; parameters = []; sent = [] }) sn (λ g. apart delete_object send_object_info e g refl) (λ g. apart delete_object send_object e g refl)))
      (record {
        sound = l.sound;
        fits = l.fits;
        files = files_removed p sn.bindings (parameter 1 c) d (changes_keep p.locked (removing (parameter 1 c)) p.first d i.sound.first_sound q.change).1 i.files;
        bindings_apart = i.bindings_apart;
        opening_apart = i.opening_apart;
        given_below = i.given_below;
        once = i.once;
        awaits = i.awaits;
      }),
)
went_good o sn p s c host _ i l (steps.gives _ e d t m g) ne = (
  (λ _. info_justified o sn p s c host i e m),
  subst (λ (z : Seen). TrueTo o z (with_first p d) (given_next (moved s) t))
      (sym (seen_info c host (record { code = ok; transaction = c.transaction; parameters = handles_told (moved s) c; sent = [] }) sn e))
      (true_given o sn p s c host i d t l.sound l.fits m g),
)
went_good o sn p s c host _ i l (steps.brings _ e d b) ne = sent_good o sn p s c host i e d l b

spared_good : (o : Storages) (sn : Seen) (p : Storages) (c : Command) (s : OpenSession) (x : Session) (a : Answer) → x ≡ Open s → TrueTo o sn p s → Leads p a.state
    → Spared p c x a → Holds o sn a.state
spared_good o sn p c s _ _ q i l (steps.Spared.closed f _) = absurd (let z : ◌≡◌ {A = ℕ} 0 1 = cc in omega arith)
spared_good o sn p c s _ _ q i l (steps.Spared.stopped t f u w) =
    same_stopped o sn p t c [] (subst (λ v. TrueTo o sn p v) (sym (let z : t ≡ s = cc in z)) i) f u l.fits w
spared_good o sn p c s _ _ q i l (steps.Spared.passed t _) =
    true_same o sn p s (moved t) i l.fits (ap (λ (v : OpenSession). v.next) (let z : t ≡ s = cc in z))
    (subst (λ (v : OpenSession). Awaits v.transfer sn.given sn.bindings) (sym (let z : t ≡ s = cc in z)) i.awaits)

step : (o : Storages) (sn : Seen) (p : Storages) (s : OpenSession) (x : Call) → TrueTo o sn p s → (Ends (event (record { storages = p; session = Open s }) x) → ⊥)
    → Fair o sn (event (record { storages = p; session = Open s }) x)
    × Holds o (seen_with sn (event (record { storages = p; session = Open s }) x)) (next_state (record { storages = p; session = Open s }) x)
step o sn p s (answer c host room) i ne =
    went_good o sn p s c host _ i (call_leads p (Open s) (answer c host room) i.sound i.fits) (open_went p s c host room i.fits) ne
step o sn p s (cancel c) i ne = (tt, spared_good o sn p c s (Open s) _ refl i (call_leads p (Open s) (cancel c) i.sound i.fits) (cancel_went p c (Open s)))
step o sn p s unplug i ne = absurd (ne tt)

-- over a whole session
abbrev Right : Storages → Seen → List Event → Type 0
Right o sn es = Once (seen sn es).bindings × ((before : List Event) (e : Event) (later : List Event) → before ++ (e ∷ later) ≡ es → Fair o (seen sn before) e)

right_none : (o : Storages) (sn : Seen) (p : Storages) (s : Session) → Holds o sn (record { storages = p; session = s }) → Right o sn []
right_none o sn p Closed h = absurd h
right_none o sn p (Open s) i = (i.once, no)
  where
    no : (before : List Event) (e : Event) (later : List Event) → before ++ (e ∷ later) ≡ [] → Fair o (seen sn before) e
    no [] e later q = absurd (cons≢nil q)
    no (x ∷ xs) e later q = absurd (cons≢nil q)

right_more : (o : Storages) (sn : Seen) (x : Event) (es : List Event) → Fair o sn x → Right o (seen_with sn x) es → Right o sn (x ∷ es)
right_more o sn x es f r = (r.0, by)
  where
    by : (before : List Event) (e : Event) (later : List Event) → before ++ (e ∷ later) ≡ x ∷ es → Fair o (seen sn before) e
    by [] e later q = subst (λ y. Fair o sn y) (sym (head-eq_of_cons-eq q)) f
    by (y ∷ ys) e later q = subst (λ z. Fair o (seen (seen_with sn z) ys) e) (sym (head-eq_of_cons-eq q)) (r.1 ys e later (tail-eq_of_cons-eq q))

right : (o : Storages) (sn : Seen) (p : Storages) (s : Session) (calls : List Call) → Holds o sn (record { storages = p; session = s })
    → Unended (history (record { storages = p; session = s }) calls) → Right o sn (history (record { storages = p; session = s }) calls)
right o sn p s [] h u = right_none o sn p s h
right o sn p Closed (x ∷ xs) h u = absurd h
right o sn p (Open s) (x ∷ xs) h u =
    let b : State = record { storages = p; session = Open s } in
    let k = step o sn p s x h u.0 in
    right_more o sn _ _ k.0 (right o (seen_with sn (event b x)) (next_state b x).storages (next_state b x).session xs k.1 u.1)

-- an accepted OpenSession begins a session that is true to what was on the stores
abbrev Begins : Storages → Answer → Type 0
Begins p a = a.reply.code ≡ ok → Holds p (at_opening p) a.state

begins_closed : (p : Storages) (c : Command) (a : Answer) → SoundStorages p → c.code ≡ open_session → WentClosed p c a → Begins p a
begins_closed p c _ k e (steps.WentClosed.refuses f _ _) q = absurd (fault_not_ok f q)
begins_closed p c _ k e (steps.WentClosed.tells g) q = apart open_session get_device_info e g refl
begins_closed p c _ k e (steps.WentClosed.opens _ l) q = true_opening p (parameter 1 c) k l

begins_open : (p : Storages) (s : OpenSession) (c : Command) (host : List ℕ) (a : Answer) → c.code ≡ open_session → Went p s c host a → Begins p a
begins_open p s c host _ e (steps.stopped f _ _) q = absurd (fault_not_ok f q)
begins_open p s c host _ e (steps.refuses f _ _ _ _) q = absurd (fault_not_ok f q)
begins_open p s c host _ e (steps.ends f _ _ _ _) q = absurd (fault_not_ok f q)
begins_open p s c host _ e (steps.tells _ t _) q = absurd (t.no_opening e)
begins_open p s c host _ e (steps.closes t _) q = absurd (t.no_opening e)
begins_open p s c host _ e (steps.deletes t _ _ _) q = absurd (t.no_opening e)
begins_open p s c host _ e (steps.gives t _ _ _ _ _) q = absurd (t.no_opening e)
begins_open p s c host _ e (steps.brings t _ _ _) q = absurd (t.no_opening e)

begins : (p : Storages) (s : Session) (c : Command) (host : List ℕ) (room : ℕ) → SoundStorages p → StateFits (record { storages = p; session = s }) → c.code ≡ open_session
    → Begins p (answered (record { storages = p; session = s }) c host room)
begins p Closed c host room k f e = begins_closed p c _ k e (closed_went p c room host)
begins p (Open s) c host room k f e = begins_open p s c host _ e (open_went p s c host room f)

pub handles_keep_bytes : HandlesKeepBytes
handles_keep_bytes p k before (answer c host room) within o u =
    let b : State = state_after (fresh p) before in
    let w = reached p k before in
    let a : Answer = answered b c host room in
    let r = right b.storages (at_opening b.storages) a.state.storages a.state.session within
    (begins b.storages b.session c host room w.kept.sound w.fits o.1 o.0) u in
    record { once = r.0; fair = r.1 }
handles_keep_bytes p k before (cancel c) within o u = absurd o
handles_keep_bytes p k before unplug within o u = absurd o
