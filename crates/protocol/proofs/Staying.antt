-- Every call keeps the stores sound and the session fit.
use Rattle.std.proofs.Common.{◌≡◌, ℕ, suc, ◌<◌, ◌≤◌, ◌⊎◌, List, [], ◌∷◌, length, Some, None, Ok, Option, sym, refl, ap, ◌∙◌, subst, inl, inr, arith}
use Rattle.std.proofs.lemmas.Bool.{cases_eq}
use Rattle.byte_parts.proofs.Cutting.{none_some}
use Rattle.store.specs.Contents.{File, Contents, total, lookup}
use Rattle.store.specs.Sound.{Sound, last_number}
use Rattle.store.specs.Changes.{removed, adding, removing, past_last}
use Rattle.store.specs.Laws.{Below, DiffersAt}
use Rattle.store.proofs.Kept.{changes_keep, removed_ok}
use Rattle.store.proofs.Lookups.{sizes_without}
use Rattle.store.proofs.Told.{past_is}
use Rattle.wire.specs.declared.command.Command.{Command}
use Rattle.protocol.specs.declared.fault.OperationFault.{OperationFault}
use Rattle.protocol.specs.declared.session.Announcement.{Announcement}
use Rattle.protocol.specs.declared.session.OpenSession.{OpenSession}
use Rattle.protocol.specs.declared.session.Session.{Session}
use Rattle.protocol.specs.declared.session.Session.TheVariants.{Closed, Open}
use Rattle.protocol.specs.declared.session.Transfer.{Transfer}
use Rattle.protocol.specs.declared.session.Transfer.TheVariants.{Idle, Announced}
use Rattle.protocol.specs.Commands.{parameter}
use Rattle.protocol.specs.Storages.{Storages, SoundStorages}
use Rattle.protocol.specs.Acting.{given_next, at_rest, file_of}
use Rattle.protocol.specs.Invariant.{Stands, TransferFits, OpenFits, SessionFits, StateFits, SessionsFit}
use Rattle.protocol.specs.Machine.{State, Answer, Call, answer, cancel, unplug, moved, with_first, next_state, state_after, fresh, unplugged}
use Rattle.protocol.specs.Staying.{Kept, StoresKept, OneNumber, OneAtATime}
use Rattle.protocol.proofs.Effects.{opened, Gives, a_folder, a_file, Brings}
use Rattle.protocol.proofs.Steps as steps
use Rattle.protocol.proofs.Steps.{Stopped, held, untimely, unknown, Went, WentClosed, Spared, fits_moved, open_went, closed_went, cancel_went}

-- what a call leads to, from these storages
pub record Leads (before : Storages) (later : State) : Type 0 where
  pub sound : SoundStorages later.storages
  pub fits : StateFits later
  pub same_second : later.storages.second ≡ before.second
  pub same_lock : later.storages.locked ≡ before.locked
  pub one_number : OneNumber before.first later.storages.first

pub still : (p : Storages) (s : Session) → SoundStorages p → SessionFits p s → Leads p (record { storages = p; session = s })
still p s k f = record { sound = k; fits = f; same_second = refl; same_lock = refl; one_number = inl refl }

changes : (p : Storages) (d : Contents) (s : Session) (n : ℕ) (o : Option File) → SoundStorages p → Sound d → DiffersAt n o p.first d
    → SessionFits (with_first p d) s → Leads p (record { storages = with_first p d; session = s })
changes p d s n o k sd diff f = record {
  sound = record { first_sound = sd; second_sound = k.second_sound };
  fits = f;
  same_second = refl;
  same_lock = refl;
  one_number = inr (n, o, diff);
}

fits_rest : (p : Storages) (s : OpenSession) → OpenFits p s → OpenFits p (at_rest s)
fits_rest p s f = record {
  id_positive = f.id_positive;
  expected_positive = f.expected_positive;
  expected_bound = f.expected_bound;
  next_positive = f.next_positive;
  next_bound = f.next_bound;
  next_above = f.next_above;
  transfer_fits = tt;
}

-- below a bound but for one number
below_differs : (n b : ℕ) (f : File) (c d : Contents) → DiffersAt n (Some f) c d → Below b c.files → (b' : ℕ) → n < b' → b ≤ b' → Below b' d.files
below_differs n b f c d diff low b' l m k g e = by (cases_eq k n)
  where
    by : (k ≡ n) ⊎ (k ≡ n → ⊥) → k < b'
    by (inl q) = omega arith
    by (inr q) = let h = low k g (sym (diff.elsewhere k q) ∙ e) in omega arith

-- after a removal
module _ (p : Storages) (s : OpenSession) (n : ℕ) (d : Contents) (k : SoundStorages p) (fits : OpenFits p s) (e : removed p.locked n p.first ≡ Ok d) where
  kept : Sound d × DiffersAt n None p.first d
  kept = changes_keep p.locked (removing n) p.first d k.first_sound e

  less : (length d.files ≤ length p.first.files) × (total d.files ≤ total p.first.files)
  less =
      subst (λ (c : Contents). (length c.files ≤ length p.first.files) × (total c.files ≤ total p.first.files)) (sym (removed_ok p.locked n p.first d e).is)
      (sizes_without n p.first.files)

  transfer_less : (t : Transfer) → TransferFits p s.next t → TransferFits (with_first p d) s.next t
  transfer_less Idle f = tt
  transfer_less (Announced a) f = record {
    positive = f.positive;
    below_next = f.below_next;
    new = by (cases_eq a.number n);
    short = f.short;
    no_folder = f.no_folder;
    parent_below = f.parent_below;
    unlocked = f.unlocked;
    free_place = omega (arith, less.0, f.free_place, kept.1.same_limit);
    free_bytes = omega (arith, less.1, f.free_bytes, kept.1.same_capacity);
  }
    where
      by : (a.number ≡ n) ⊎ (a.number ≡ n → ⊥) → lookup a.number d.files ≡ None
      by (inl q) = ap (λ m. lookup m d.files) q ∙ kept.1.here
      by (inr q) = kept.1.elsewhere a.number q ∙ f.new

  below_less : Below s.next d.files
  below_less m f q = by (cases_eq m n)
    where
      by : (m ≡ n) ⊎ (m ≡ n → ⊥) → m < s.next
      by (inl r) = absurd (none_some (sym kept.1.here ∙ ap (λ i. lookup i d.files) (sym r) ∙ q))
      by (inr r) = fits.next_above m f (sym (kept.1.elsewhere m r) ∙ q)

  removed_leads : Leads p (record { storages = with_first p d; session = Open s })
  removed_leads = changes p d (Open s) n None k kept.0 kept.1 (record {
    id_positive = fits.id_positive;
    expected_positive = fits.expected_positive;
    expected_bound = fits.expected_bound;
    next_positive = fits.next_positive;
    next_bound = fits.next_bound;
    next_above = below_less;
    transfer_fits = transfer_less s.transfer fits.transfer_fits;
  })

-- after a number is given
gives_leads : (p : Storages) (s : OpenSession) (c : Command) (host : List ℕ) (d : Contents) (t : Transfer) → SoundStorages p → OpenFits p s → s.next ≤ last_number → Gives p s c host d t
    → Leads p (record { storages = with_first p d; session = Open (given_next s t) })
gives_leads p s c host _ _ k fits l (a_folder a d _ _ u e) =
    let r = changes_keep p.locked (adding s.next (file_of a [])) p.first d k.first_sound e in
    changes p d (Open (given_next s Idle)) s.next (Some (file_of a [])) k r.0 r.1 (record {
      id_positive = fits.id_positive;
      expected_positive = fits.expected_positive;
      expected_bound = fits.expected_bound;
      next_positive = omega arith;
      next_bound = omega arith;
      next_above = below_differs s.next s.next (file_of a []) p.first d r.1 fits.next_above (suc s.next) (omega arith) (omega arith);
      transfer_fits = tt;
    })
gives_leads p s c host _ _ k fits l (a_file a _ _ _ f) = still p (Open (given_next s (Announced a))) k (record {
  id_positive = fits.id_positive;
  expected_positive = fits.expected_positive;
  expected_bound = fits.expected_bound;
  next_positive = omega arith;
  next_bound = omega arith;
  next_above = λ m g e. let h = fits.next_above m g e in omega arith;
  transfer_fits = f;
})

-- the announcement that stood
pub stood : (p : Storages) (s : OpenSession) (a : Announcement) → OpenFits p s → s.transfer ≡ Announced a → Stands p s.next a
stood p s a fits e = subst (λ t. TransferFits p s.next t) e fits.transfer_fits

-- after the bytes are there
brings_leads : (p : Storages) (s : OpenSession) (c : Command) (host : List ℕ) (d : Contents) → SoundStorages p → OpenFits p s → Brings p s c host d
    → Leads p (record { storages = with_first p d; session = Open (at_rest s) })
brings_leads p s c host d k fits b =
    let r = changes_keep p.locked (adding b.announcement.number _) p.first d k.first_sound b.change in
    let a = stood p s b.announcement fits b.stood in
    changes p d (Open (at_rest s)) b.announcement.number _ k r.0 r.1 (record {
      id_positive = fits.id_positive;
      expected_positive = fits.expected_positive;
      expected_bound = fits.expected_bound;
      next_positive = fits.next_positive;
      next_bound = fits.next_bound;
      next_above = below_differs b.announcement.number s.next _ p.first d r.1 fits.next_above s.next a.below_next (omega arith);
      transfer_fits = tt;
    })

fits_stopped : (p : Storages) (s : OpenSession) (c : Command) (f : OperationFault) (t : OpenSession) → OpenFits p s → Stopped s c f t → OpenFits p t
fits_stopped p s c _ _ fits (held e) = fits
fits_stopped p s c _ _ fits (untimely n m) = fits
fits_stopped p s c _ _ fits (unknown t e) = fits_moved p s fits

went_leads : (p : Storages) (s : OpenSession) (c : Command) (host : List ℕ) (a : Answer) → SoundStorages p → OpenFits p s → Went p s c host a → Leads p a.state
went_leads p s c host _ k fits (steps.stopped f t w) = still p (Open t) k (fits_stopped p s c f t fits w)
went_leads p s c host _ k fits (steps.refuses f _ _ _ _) = still p (Open (moved s)) k (fits_moved p s fits)
went_leads p s c host _ k fits (steps.ends f _ _ _ _) = still p (Open (at_rest (moved s))) k (fits_rest p (moved s) (fits_moved p s fits))
went_leads p s c host _ k fits (steps.tells x _ _) = still p (Open (moved s)) k (fits_moved p s fits)
went_leads p s c host _ k fits (steps.closes _ _) = still p Closed k tt
went_leads p s c host _ k fits (steps.deletes _ _ d e) = removed_leads p (moved s) (parameter 1 c) d k (fits_moved p s fits) e.change
went_leads p s c host _ k fits (steps.gives _ _ d t l g) = gives_leads p (moved s) c host d t k (fits_moved p s fits) l g
went_leads p s c host _ k fits (steps.brings _ _ d b) = brings_leads p (moved s) c host d k (fits_moved p s fits) b

-- a session that opens
past_small : (c : Contents) → Sound c → (1 ≤ past_last 1 c.files) × (past_last 1 c.files ≤ 0x7FFFFFFF)
past_small c k = by (past_is c k).least
  where
    by : (past_last 1 c.files ≡ 1) ⊎ ((m : ℕ) × (f : File) × (past_last 1 c.files ≡ suc m) × (lookup m c.files ≡ Some f))
        → (1 ≤ past_last 1 c.files) × (past_last 1 c.files ≤ 0x7FFFFFFF)
    by (inl e) = (omega arith, omega arith)
    by (inr (m, f, e, l)) = let h = k.numbers m f l in (omega arith, omega arith)

pub fits_opened : (p : Storages) (id : ℕ) → SoundStorages p → 1 ≤ id → OpenFits p (opened p id)
fits_opened p id k l = record {
  id_positive = l;
  expected_positive = omega arith;
  expected_bound = omega arith;
  next_positive = (past_small p.first k.first_sound).0;
  next_bound = (past_small p.first k.first_sound).1;
  next_above = (past_is p.first k.first_sound).above;
  transfer_fits = tt;
}

closed_leads : (p : Storages) (c : Command) (a : Answer) → SoundStorages p → WentClosed p c a → Leads p a.state
closed_leads p c _ k (steps.WentClosed.refuses f _ _) = still p Closed k tt
closed_leads p c _ k (steps.WentClosed.tells e) = still p Closed k tt
closed_leads p c _ k (steps.WentClosed.opens e l) = still p (Open (opened p (parameter 1 c))) k (fits_opened p (parameter 1 c) k l)

spared_leads : (p : Storages) (c : Command) (s : Session) (a : Answer) → SoundStorages p → SessionFits p s → Spared p c s a → Leads p a.state
spared_leads p c _ _ k fits (steps.Spared.closed f _) = still p Closed k tt
spared_leads p c _ _ k fits (steps.Spared.stopped s f t w) = still p (Open t) k (fits_stopped p s c f t fits w)
spared_leads p c _ _ k fits (steps.Spared.passed s _) = still p (Open (moved s)) k (fits_moved p s fits)

pub call_leads : (p : Storages) (s : Session) (x : Call) → SoundStorages p → SessionFits p s → Leads p (next_state (record { storages = p; session = s }) x)
unfolding unplugged
call_leads p Closed (answer c host room) k fits = closed_leads p c _ k (closed_went p c room host)
call_leads p (Open s) (answer c host room) k fits = went_leads p s c host _ k fits (open_went p s c host room fits)
call_leads p s (cancel c) k fits = spared_leads p c s _ k fits (cancel_went p c s)
call_leads p s unplug k fits = still p Closed k tt

-- over a list of calls
pub record Reached (before : Storages) (b : State) : Type 0 where
  pub kept : Kept before b.storages
  pub fits : StateFits b

capacity_one : (c d : Contents) → OneNumber c d → (d.capacity ≡ c.capacity) × (d.limit ≡ c.limit)
capacity_one c d (inl e) = (ap (λ (x : Contents). x.capacity) e, ap (λ (x : Contents). x.limit) e)
capacity_one c d (inr (n, o, diff)) = (diff.same_capacity, diff.same_limit)

reached_after : (p : Storages) (b : State) (calls : List Call) → Reached p b → Reached p (state_after b calls)
reached_after p b [] r = r
reached_after p b (x ∷ xs) r =
    let l = call_leads b.storages b.session x r.kept.sound r.fits in
    let same = capacity_one b.storages.first (next_state b x).storages.first l.one_number in
    reached_after p (next_state b x) xs (record {
      kept = record {
        sound = l.sound;
        same_second = l.same_second ∙ r.kept.same_second;
        same_lock = l.same_lock ∙ r.kept.same_lock;
        same_capacity = same.0 ∙ r.kept.same_capacity;
        same_limit = same.1 ∙ r.kept.same_limit;
      };
      fits = l.fits;
    })

pub reached : (p : Storages) → SoundStorages p → (calls : List Call) → Reached p (state_after (fresh p) calls)
reached p k calls = reached_after p (fresh p) calls (record { kept = record { sound = k; same_second = refl; same_lock = refl; same_capacity = refl; same_limit = refl }; fits = tt })

pub stores_kept : StoresKept
stores_kept p k calls = (reached p k calls).kept

pub sessions_fit : SessionsFit
sessions_fit p k calls = (reached p k calls).fits

pub one_at_a_time : OneAtATime
one_at_a_time p k calls x =
    let b = state_after (fresh p) calls in
    let r = reached p k calls in
    (call_leads b.storages b.session x r.kept.sound r.fits).one_number
