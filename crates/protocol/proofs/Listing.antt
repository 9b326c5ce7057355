-- The handles that an accepted GetObjectHandles sends.
use Rattle.std.proofs.Common.{◌≡◌, ℕ, ◌+◌, ◌-◌, ◌<◌, ◌≤◌, Bool, true, false, cond, ◌&&◌, ◌||◌, eqb, ltb, ◌⊎◌, List, [], ◌∷◌, ◌++◌, Some, Ok, sym, refl, ap, ◌∙◌, subst, inl, inr, zero-add, arith}
use Rattle.std.proofs.lemmas.Bool.{and_parts, or_cases, or_left, or_right, eqb-true, eqb-false, eq-eqb, lt-ltb, le-ltb, ltb-false, cases_eq, cond-true, cond-false, both_ways}
use Rattle.byte_parts.proofs.Cutting.{none_some, some_same}
use Rattle.object.specs.Formats.{is_folder}
use Rattle.store.specs.Contents.{File, Entry, lookup}
use Rattle.store.specs.Sound.{Ascending}
use Rattle.store.proofs.Checks.{EitherWay, checked, given_ok}
use Rattle.store.proofs.Lookups.{lookup_here, lookup_past, found_above}
use Rattle.wire.specs.declared.command.Command.{Command}
use Rattle.wire.specs.Operations.{get_device_info, open_session, close_session, delete_object, get_object_handles, send_object_info, send_object}
use Rattle.wire.specs.Strings.{array}
use Rattle.protocol.specs.declared.fault.OperationFault.{OperationFault}
use Rattle.protocol.specs.declared.fault.OperationFault.TheVariants.{InvalidStorage, InvalidHandle, FormatNotSupported, InvalidParent}
use Rattle.protocol.specs.declared.session.OpenSession.{OpenSession}
use Rattle.protocol.specs.declared.session.Session.{Session}
use Rattle.protocol.specs.declared.session.Session.TheVariants.{Closed, Open}
use Rattle.protocol.specs.Faults.{ok}
use Rattle.protocol.specs.Commands.{parameter}
use Rattle.protocol.specs.Storages.{Storages, SoundStorages, first_storage, second_storage, every_storage, root, is_storage, second_base, storage_of, number_of, object_at}
use Rattle.protocol.specs.Looking.{Shown, handles_on, names, handles_in, handles_shown}
use Rattle.protocol.specs.Objects.{Handle, Holds, Object, In}
use Rattle.protocol.specs.Listing.{Names, LiesIn, Rising, Lists, Listed, ListingsRight}
use Rattle.protocol.specs.Invariant.{StateFits}
use Rattle.protocol.specs.Machine.{Answer, answered, state_after, fresh, data_of}
use Rattle.protocol.proofs.Ways.{present_ways, cond_ways, apart, fault_not_ok}
use Rattle.protocol.proofs.Steps as steps
use Rattle.protocol.proofs.Steps.{Told, Went, WentClosed, open_went, closed_went, told_handles}
use Rattle.protocol.proofs.Found.{fine_lookup}
use Rattle.protocol.proofs.Staying.{reached}

-- what a test picks of one store
pub record Picked (base : ℕ) (test : File → Bool) (es : List Entry) (h : ℕ) : Type 0 where
  pub number : ℕ
  pub file : File
  pub handle : h ≡ base + number
  pub there : lookup number es ≡ Some file
  pub passes : test file ≡ true

picked_rest : (base : ℕ) (test : File → Bool) (x : Entry) (es : List Entry) (h : ℕ) → Ascending x.number es → Picked base test es h → Picked base test (x ∷ es) h
picked_rest base test x es h a k =
    let l = found_above x.number k.number k.file es a k.there in
    record { number = k.number; file = k.file; handle = k.handle; there = lookup_past x es k.number (λ e. omega arith) ∙ k.there; passes = k.passes }

listed_picked : (base : ℕ) (test : File → Bool) (lo : ℕ) (es : List Entry) (h : ℕ) → Ascending lo es → In h (handles_on base test es) → Picked base test es h
listed_picked base test lo [] h a i = absurd i
listed_picked base test lo (x ∷ es) h a i = by (λ j. picked_rest base test x es h a.1 (listed_picked base test x.number es h a.1 j)) (test x.file) refl i
  where
    by : (In h (handles_on base test es) → Picked base test (x ∷ es) h) → (t : Bool) → test x.file ≡ t
        → In h (cond t ((base + x.number) ∷ handles_on base test es) (handles_on base test es)) → Picked base test (x ∷ es) h
    by rest true q (inl e) = record { number = x.number; file = x.file; handle = sym e; there = lookup_here x es x.number refl; passes = q }
    by rest true q (inr j) = rest j
    by rest false q j = rest j

picked_listed : (base : ℕ) (test : File → Bool) (es : List Entry) (n : ℕ) (f : File) → lookup n es ≡ Some f → test f ≡ true → In (base + n) (handles_on base test es)
picked_listed base test [] n f e t = absurd (none_some e)
picked_listed base test (x ∷ es) n f e t = by (λ r. picked_listed base test es n f r t) (test x.file) refl (cases_eq x.number n)
  where
    by : (lookup n es ≡ Some f → In (base + n) (handles_on base test es)) → (u : Bool) → test x.file ≡ u → (x.number ≡ n) ⊎ (x.number ≡ n → ⊥)
        → In (base + n) (cond u ((base + x.number) ∷ handles_on base test es) (handles_on base test es))
    by rest true q (inl r) = inl (ap (λ m. base + m) r)
    by rest true q (inr r) = inr (rest (sym (lookup_past x es n r) ∙ e))
    by rest false q (inl r) = absurd (both_ways (test x.file) q (ap test (some_same (sym (lookup_here x es n r) ∙ e)) ∙ t))
    by rest false q (inr r) = rest (sym (lookup_past x es n r) ∙ e)

rising_less : (a b : ℕ) (hs : List ℕ) → a ≤ b → Rising b hs → Rising a hs
rising_less a b [] l k = tt
rising_less a b (h ∷ hs) l k = (omega (arith, k.0), k.1)

rising_on : (base : ℕ) (test : File → Bool) (lo : ℕ) (es : List Entry) → Ascending lo es → Rising (base + lo) (handles_on base test es)
rising_on base test lo [] a = tt
rising_on base test lo (x ∷ es) a = by (rising_on base test x.number es a.1) (test x.file)
  where
    by : Rising (base + x.number) (handles_on base test es) → (t : Bool) → Rising (base + lo) (cond t ((base + x.number) ∷ handles_on base test es) (handles_on base test es))
    by rest true = (omega (arith, a.0), rest)
    by rest false = rising_less (base + lo) (base + x.number) (handles_on base test es) (omega (arith, a.0)) rest

rising_append : (a m : ℕ) (xs ys : List ℕ) → Rising a xs → a ≤ m → ((h : ℕ) → In h xs → h ≤ m) → Rising m ys → Rising a (xs ++ ys)
rising_append a m [] ys r l low k = rising_less a m ys l k
rising_append a m (x ∷ xs) ys r l low k = (r.0, rising_append x m xs ys r.1 (low x (inl refl)) (λ h i. low h (inr i)) k)

in_left : (h : ℕ) (xs ys : List ℕ) → In h xs → In h (xs ++ ys)
in_left h [] ys i = absurd i
in_left h (x ∷ xs) ys (inl e) = inl e
in_left h (x ∷ xs) ys (inr i) = inr (in_left h xs ys i)

in_right : (h : ℕ) (xs ys : List ℕ) → In h ys → In h (xs ++ ys)
in_right h [] ys i = i
in_right h (x ∷ xs) ys i = inr (in_right h xs ys i)

in_either : (h : ℕ) (xs ys : List ℕ) → In h (xs ++ ys) → In h xs ⊎ In h ys
in_either h [] ys i = inr i
in_either h (x ∷ xs) ys (inl e) = inl (inl e)
in_either h (x ∷ xs) ys (inr i) = by (in_either h xs ys i)
  where
    by : In h xs ⊎ In h ys → In h (x ∷ xs) ⊎ In h ys
    by (inl j) = inl (inr j)
    by (inr j) = inr j

-- a storage is named
names_true : (n st : ℕ) → names n st ≡ true → Names n st
names_true n st e = by (or_cases (eqb n every_storage) (eqb n st) e)
  where
    by : (eqb n every_storage ≡ true) ⊎ (eqb n st ≡ true) → Names n st
    by (inl q) = inl (eqb-true n every_storage q)
    by (inr q) = inr (eqb-true n st q)

true_names : (n st : ℕ) → Names n st → names n st ≡ true
true_names n st (inl e) = or_left (eqb n every_storage) (eqb n st) (eq-eqb n every_storage e)
true_names n st (inr e) = or_right (eqb n every_storage) (eqb n st) (eq-eqb n st e)

-- a list under a test
in_cond : (h : ℕ) (t : Bool) (xs : List ℕ) → In h (cond t xs []) → (t ≡ true) × In h xs
in_cond h true xs i = (refl, i)
in_cond h false xs i = absurd i

cond_in : (h : ℕ) (t : Bool) (xs : List ℕ) → t ≡ true → In h xs → In h (cond t xs [])
cond_in h t xs e i = subst (λ u. In h (cond u xs [])) (sym e) i

rising_cond : (n : ℕ) (t : Bool) (xs : List ℕ) → Rising n xs → Rising n (cond t xs [])
rising_cond n true xs r = r
rising_cond n false xs r = tt

-- the handles of a listing: those of the objects on a named storage that pass the test
pub record Picks (p : Storages) (storage : ℕ) (test : File → Bool) (hs : List ℕ) : Type 0 where
  pub ascends : Rising 0 hs
  pub just : (h : ℕ) → In h hs → (st : ℕ) × (f : File) × Object p h st f × Names storage st × (test f ≡ true)
  pub all : (h st : ℕ) (f : File) → Object p h st f → Names storage st → test f ≡ true → In h hs

module _ (p : Storages) (k : SoundStorages p) (storage : ℕ) (test : File → Bool) where
  abbrev ones : List ℕ
  ones = handles_on 0 test p.first.files

  abbrev twos : List ℕ
  twos = handles_on second_base test p.second.files

  low_first : (h : ℕ) → In h (cond (names storage first_storage) ones []) → h ≤ second_base
  low_first h i =
      let q = listed_picked 0 test 0 p.first.files h k.first_sound.ascending (in_cond h (names storage first_storage) ones i).1 in
      let l = k.first_sound.numbers q.number q.file q.there in
      omega (arith, q.handle)

  just_listed : (h : ℕ) → In h (handles_in p storage test) → (st : ℕ) × (f : File) × Object p h st f × Names storage st × (test f ≡ true)
  just_listed h i = by (in_either h (cond (names storage first_storage) ones []) (cond (names storage second_storage) twos []) i)
    where
      by : In h (cond (names storage first_storage) ones []) ⊎ In h (cond (names storage second_storage) twos [])
          → (st : ℕ) × (f : File) × Object p h st f × Names storage st × (test f ≡ true)
      by (inl j) =
          let c = in_cond h (names storage first_storage) ones j in
          let q = listed_picked 0 test 0 p.first.files h k.first_sound.ascending c.1 in
          (first_storage, q.file, record { number = q.number; handle = inl (refl, q.handle ∙ zero-add q.number); held = inl (refl, q.there) }, names_true storage first_storage c.0, q.passes)
      by (inr j) =
          let c = in_cond h (names storage second_storage) twos j in
          let q = listed_picked second_base test 0 p.second.files h k.second_sound.ascending c.1 in
          (second_storage, q.file, record { number = q.number; handle = inr (refl, q.handle); held = inr (refl, q.there) }, names_true storage second_storage c.0, q.passes)

  all_listed : (h st : ℕ) (f : File) → Object p h st f → Names storage st → test f ≡ true → In h (handles_in p storage test)
  all_listed h st f o n t = by o.handle o.held
    where
      by : Handle st o.number h → Holds p st o.number f → In h (handles_in p storage test)
      by (inl (e, q)) (inl (_, l)) =
          in_left h (cond (names storage first_storage) ones []) (cond (names storage second_storage) twos [])
          (cond_in h (names storage first_storage) ones (true_names storage first_storage (subst (λ s. Names storage s) e n))
          (subst (λ m. In m ones) (zero-add o.number ∙ sym q) (picked_listed 0 test p.first.files o.number f l t)))
      by (inl (e, q)) (inr (d, l)) = apart first_storage second_storage e d refl
      by (inr (e, q)) (inl (d, l)) = apart second_storage first_storage e d refl
      by (inr (e, q)) (inr (_, l)) =
          in_right h (cond (names storage first_storage) ones []) (cond (names storage second_storage) twos [])
          (cond_in h (names storage second_storage) twos (true_names storage second_storage (subst (λ s. Names storage s) e n))
          (subst (λ m. In m twos) (sym q) (picked_listed second_base test p.second.files o.number f l t)))

  picks : Picks p storage test (handles_in p storage test)
  picks = record {
    ascends = rising_append 0 second_base (cond (names storage first_storage) ones []) (cond (names storage second_storage) twos [])
        (rising_cond 0 (names storage first_storage) ones (rising_less 0 (0 + 0) ones (omega arith) (rising_on 0 test 0 p.first.files k.first_sound.ascending)))
        (omega arith) low_first
        (rising_cond second_base (names storage second_storage) twos (rising_less second_base (second_base + 0) twos (omega arith) (rising_on second_base test 0 p.second.files k.second_sound.ascending)));
    just = just_listed;
    all = all_listed;
  }

-- a listing by a test is one by a folder, if the test says where a file lies
lists_by : (p : Storages) (storage folder : ℕ) (test : File → Bool) (hs : List ℕ) → Picks p storage test hs
    → ((h st : ℕ) (f : File) → Object p h st f → test f ≡ true → LiesIn st folder f)
    → ((h st : ℕ) (f : File) → Object p h st f → LiesIn st folder f → test f ≡ true)
    → Lists p storage folder hs
lists_by p storage folder test hs k to from = record {
  ascends = k.ascends;
  just = λ h i. let q = k.just h i in (q.0, q.1, q.2, q.3, to h q.0 q.1 q.2 q.4);
  all = λ h st f o n l. k.all h st f o n (from h st f o l);
}

-- a parent of a held file is below the second storage's handles
parent_low : (p : Storages) → SoundStorages p → (st n : ℕ) (f : File) → Holds p st n f → f.parent < second_base
parent_low p k st n f (inl (_, e)) = (fine_lookup p.first k.first_sound n f e).parent_low
parent_low p k st n f (inr (_, e)) = (fine_lookup p.second k.second_sound n f e).parent_low

-- the storage of an object is one of the two
held_on : (p : Storages) (st n : ℕ) (f : File) → Holds p st n f → (st ≡ first_storage) ⊎ (st ≡ second_storage)
held_on p st n f (inl (e, _)) = inl e
held_on p st n f (inr (e, _)) = inr e

-- the handle of a folder tells its storage and its number
handle_tells : (st n folder : ℕ) → n < second_base → Handle st n folder → (st ≡ storage_of folder) × (n ≡ number_of folder)
handle_tells st n folder l (inl (e, q)) =
    let t : ltb folder second_base ≡ true = lt-ltb folder second_base (omega arith) in
    (e ∙ sym (cond-true (ltb folder second_base) _ _ t), sym q ∙ sym (cond-true (ltb folder second_base) _ _ t))
handle_tells st n folder l (inr (e, q)) =
    let t : ltb folder second_base ≡ false = le-ltb folder second_base (omega arith) in
    (e ∙ sym (cond-false (ltb folder second_base) _ _ t), (let z : n ≡ folder - second_base = omega arith in z) ∙ sym (cond-false (ltb folder second_base) _ _ t))

storage_handle : (folder : ℕ) → Handle (storage_of folder) (number_of folder) folder
storage_handle folder = by (ltb folder second_base) refl
  where
    by : (t : Bool) → ltb folder second_base ≡ t → Handle (cond t first_storage second_storage) (cond t folder (folder - second_base)) folder
    by true e = inl (refl, refl)
    by false e = inr (refl, (let l = ltb-false folder second_base e in omega arith))

storage_of_one : (folder : ℕ) → storage_of folder ≡ 0xFFFFFFFF → ⊥
storage_of_one folder e = by (ltb folder second_base) e
  where
    by : (t : Bool) → cond t first_storage second_storage ≡ 0xFFFFFFFF → ⊥
    by true e = omega arith
    by false e = omega arith

-- what an accepted listing shows
pub record HandlesShown (p : Storages) (storage folder : ℕ) (x : Shown) : Type 0 where
  pub handles : List ℕ
  pub payload_is : x.payload ≡ array 4 handles
  pub lists : Lists p storage folder handles

abbrev Any : OperationFault → Type 0
Any f = Unit {0}

module _ (p : Storages) (k : SoundStorages p) (storage folder : ℕ) where
  abbrev P : Shown → Type 0
  P = HandlesShown p storage folder

  every_object : folder ≡ 0 → Lists p storage folder (handles_in p storage (λ f. true))
  every_object e = lists_by p storage folder (λ f. true) (handles_in p storage (λ f. true)) (picks p k storage (λ f. true)) (λ _ _ _ _ _. inl e) (λ _ _ _ _ _. refl)

  at_root : (folder ≡ 0 → ⊥) → folder ≡ root → Lists p storage folder (handles_in p storage (λ f. eqb f.parent 0))
  at_root n e =
      lists_by p storage folder (λ f. eqb f.parent 0) (handles_in p storage (λ f. eqb f.parent 0)) (picks p k storage (λ f. eqb f.parent 0))
      (λ _ _ f _ t. inr (inl (e, eqb-true f.parent 0 t))) from
    where
      from : (h st : ℕ) (f : File) → Object p h st f → LiesIn st folder f → eqb f.parent 0 ≡ true
      from h st f o (inl q) = absurd (n q)
      from h st f o (inr (inl (_, q))) = eq-eqb f.parent 0 q
      from h st f o (inr (inr (_, q, _))) = absurd (q e)

  children : (folder ≡ 0 → ⊥) → (folder ≡ root → ⊥) → names storage (storage_of folder) ≡ true
      → Lists p storage folder (handles_in p (storage_of folder) (λ g. eqb g.parent (number_of folder)))
  children n m named =
      let q = picks p k (storage_of folder) (λ g. eqb g.parent (number_of folder)) in
      record {
        ascends = q.ascends;
        just = λ h i.
            let r = q.just h i in
            let s : storage_of folder ≡ r.0 = same_storage r.0 r.3 in
            (r.0, r.1, r.2, subst (λ st. Names storage st) s (names_true storage (storage_of folder) named), lies r.0 r.1 s (eqb-true r.1.parent (number_of folder) r.4));
        all = λ h st f o _ l. under h st f o l;
      }
    where
      same_storage : (st : ℕ) → Names (storage_of folder) st → storage_of folder ≡ st
      same_storage st (inl e) = absurd (storage_of_one folder e)
      same_storage st (inr e) = e

      lies : (st : ℕ) (f : File) → storage_of folder ≡ st → f.parent ≡ number_of folder → LiesIn st folder f
      lies st f s e = inr (inr (n, m, subst (λ u. Handle u f.parent folder) s (subst (λ u. Handle (storage_of folder) u folder) (sym e) (storage_handle folder))))

      under : (h st : ℕ) (f : File) → Object p h st f → LiesIn st folder f → In h (handles_in p (storage_of folder) (λ g. eqb g.parent (number_of folder)))
      under h st f o (inl e) = absurd (n e)
      under h st f o (inr (inl (e, _))) = absurd (m e)
      under h st f o (inr (inr (_, _, w))) =
          let t = handle_tells st f.parent folder (parent_low p k st o.number f o.held) w in
          (picks p k (storage_of folder) (λ g. eqb g.parent (number_of folder))).all h st f o (inr (sym t.0)) (eq-eqb f.parent (number_of folder) t.1)

  handles_ways : (format : ℕ) → EitherWay P Any (handles_shown p storage format folder)
  unfolding handles_shown
  handles_ways format =
      checked P Any (eqb storage every_storage || is_storage storage) InvalidStorage _ tt λ _.
      checked P Any (eqb format 0) FormatNotSupported _ tt λ _.
      cond_ways P Any (eqb folder 0) _ _
      (λ e. record { handles = handles_in p storage (λ f. true); payload_is = refl; lists = every_object (eqb-true folder 0 e) }) λ n.
      cond_ways P Any (eqb folder root) _ _
      (λ e. record { handles = handles_in p storage (λ f. eqb f.parent 0); payload_is = refl; lists = at_root (eqb-false folder 0 n) (eqb-true folder root e) }) λ m.
      present_ways P Any (object_at p folder) InvalidHandle _ tt λ f _.
      checked P Any (is_folder f.format && names storage (storage_of folder)) InvalidParent _ tt λ t.
      record {
        handles = handles_in p (storage_of folder) (λ g. eqb g.parent (number_of folder));
        payload_is = refl;
        lists = children (eqb-false folder 0 n) (eqb-false folder root m) (and_parts (is_folder f.format) (names storage (storage_of folder)) t).1;
      }

  pub handles_look : (format : ℕ) (x : Shown) → handles_shown p storage format folder ≡ Ok x → HandlesShown p storage folder x
  handles_look format x e = given_ok P Any e (handles_ways format)

-- over lists of calls
told_listed : (p : Storages) (s : Session) (c : Command) (x : Shown) → SoundStorages p → c.code ≡ get_object_handles → Told p c x → Listed p c (steps.telling x p s c).reply
told_listed p s c x k e t =
    let l = handles_look p k (parameter 1 c) (parameter 3 c) (parameter 2 c) x (told_handles p c x t e) in
    record { handles = l.handles; sends = ap (data_of c) l.payload_is; lists = l.lists }

went_listed : (p : Storages) (s : OpenSession) (c : Command) (host : List ℕ) (a : Answer) → SoundStorages p → c.code ≡ get_object_handles → Went p s c host a
    → a.reply.code ≡ ok → Listed p c a.reply
went_listed p s c host _ k e (steps.stopped f _ _) q = absurd (fault_not_ok f q)
went_listed p s c host _ k e (steps.refuses f _ _ _ _) q = absurd (fault_not_ok f q)
went_listed p s c host _ k e (steps.ends f _ _ _ _) q = absurd (fault_not_ok f q)
went_listed p s c host _ k e (steps.tells x _ t) q = told_listed p Closed c x k e t
went_listed p s c host _ k e (steps.closes _ g) q = apart get_object_handles close_session e g refl
went_listed p s c host _ k e (steps.deletes _ g _ _) q = apart get_object_handles delete_object e g refl
went_listed p s c host _ k e (steps.gives _ g _ _ _ _) q = apart get_object_handles send_object_info e g refl
went_listed p s c host _ k e (steps.brings _ g _ _) q = apart get_object_handles send_object e g refl

closed_listed : (p : Storages) (c : Command) (a : Answer) → c.code ≡ get_object_handles → WentClosed p c a → a.reply.code ≡ ok → Listed p c a.reply
closed_listed p c _ e (steps.WentClosed.refuses f _ _) q = absurd (fault_not_ok f q)
closed_listed p c _ e (steps.WentClosed.tells g) q = apart get_object_handles get_device_info e g refl
closed_listed p c _ e (steps.WentClosed.opens g _) q = apart get_object_handles open_session e g refl

listed : (p : Storages) (s : Session) (c : Command) (host : List ℕ) (room : ℕ) → SoundStorages p → StateFits (record { storages = p; session = s }) → c.code ≡ get_object_handles
    → (answered (record { storages = p; session = s }) c host room).reply.code ≡ ok → Listed p c (answered (record { storages = p; session = s }) c host room).reply
listed p Closed c host room k f e q = closed_listed p c _ e (closed_went p c room host) q
listed p (Open s) c host room k f e q = went_listed p s c host _ k e (open_went p s c host room f) q

pub listings_right : ListingsRight
listings_right p k calls c host room e q =
    let b = state_after (fresh p) calls in
    let r = reached p k calls in
    listed b.storages b.session c host room r.kept.sound r.fits e q
