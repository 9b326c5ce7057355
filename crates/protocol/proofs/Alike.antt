-- What a new responder tells of its storages, and that it tells all.
use Rattle.std.proofs.Common.{◌≡◌, ℕ, ◌+◌, ◌-◌, ◌*◌, ◌^◌, ◌<◌, ◌≤◌, Bool, true, false, cond, not, eqb, ltb, leb, ◌⊎◌, List, [], ◌∷◌, length, get_or, drop, Some, None, Err, Option, Result, sym, refl, ap, ◌∙◌, inl, inr, arith}
use Rattle.std.proofs.lemmas.List.{length-append, nil_from_length}
use Rattle.std.proofs.lemmas.Bool.{le-leb, cond-true, cases_lt, eqb-true, true≢false}
use Rattle.byte_parts.specs.Numbers.{le, value}
use Rattle.byte_parts.proofs.LittleEndian.{value_le}
use Rattle.byte_parts.proofs.Cutting.{some_same}
use Rattle.object.specs.Formats.{is_folder, format_number, format_of}
use Rattle.object.specs.Names.{units_of, unit_bytes}
use Rattle.object.specs.declared.format.Format.{Format}
use Rattle.object.specs.declared.format.Format.TheVariants.{Undefined, Association, Text}
use Rattle.object.proofs.Stored.{units_short}
use Rattle.store.specs.Checks.{provided}
use Rattle.store.specs.Contents.{File, Entry, Contents, lookup}
use Rattle.store.specs.Sound.{Sound}
use Rattle.store.proofs.Lookups.{same_files}
use Rattle.wire.specs.declared.command.Command.{Command}
use Rattle.wire.specs.Containers.{number_at, container}
use Rattle.wire.specs.Strings.{string}
use Rattle.wire.specs.Operations.{open_session, get_storage_info, get_object_info, get_object, operation_of}
use Rattle.datasets.specs.declared.info.ObjectInfo.{ObjectInfo}
use Rattle.datasets.specs.declared.info.StorageKind.{StorageKind}
use Rattle.datasets.specs.declared.info.StorageKind.TheVariants.{Programs, Handbook}
use Rattle.datasets.specs.ObjectInfos.{object_info, object_info_in}
use Rattle.datasets.specs.StorageInfos.{storage_info}
use Rattle.protocol.specs.declared.fault.OperationFault.{OperationFault}
use Rattle.protocol.specs.declared.fault.OperationFault.TheVariants.{InvalidHandle}
use Rattle.protocol.specs.declared.session.Session.TheVariants.{Open}
use Rattle.protocol.specs.Checks.{present}
use Rattle.protocol.specs.Faults.{ok}
use Rattle.protocol.specs.Storages.{Storages, SoundStorages, first_storage, second_storage, second_base, object_at}
use Rattle.protocol.specs.Looking.{Shown, shows, storage_info_of, storage_shown, info_of, info_shown, object_shown, parent_handle}
use Rattle.protocol.specs.Acting.{session_opened}
use Rattle.protocol.specs.Machine.{Reply, Answer, Call, answer, moved, looked, data_of, answered, task_of, replies, fresh}
use Rattle.protocol.specs.Alike.{RealCommand, Real, Alike, RepliesTellContents}
use Rattle.protocol.proofs.Ways.{fault_not_ok}
use Rattle.protocol.proofs.Effects.{opened}
use Rattle.protocol.proofs.Reading.{info_back}
use Rattle.protocol.proofs.Found.{at_first, at_second, Fine, fine_at, info_fits}

abbrev ask : ℕ → ℕ → ℕ → Command
ask code transaction n = record { code = code; transaction = transaction; parameters = n ∷ 0 ∷ 0 ∷ 0 ∷ 0 ∷ [] }

abbrev room : ℕ
room = 65536

-- open a session, then ask one thing
abbrev asking : ℕ → ℕ → List Call
asking code n = answer (ask open_session 0 1) [] 0 ∷ answer (ask code 1 n) [] room ∷ []

ask_real : (code transaction n : ℕ) → code < 2 ^ 16 → transaction < 2 ^ 32 → n < 2 ^ 32 → RealCommand (ask code transaction n)
ask_real code transaction n a b c = record { code_fits = a; transaction_fits = b; five = refl; parameters_fit = (c, (omega arith, (omega arith, (omega arith, (omega arith, tt))))) }

asking_real : (code n : ℕ) → code < 2 ^ 16 → n < 2 ^ 32 → Real (asking code n)
asking_real code n h g = (
  (ask_real open_session 0 1 (omega arith) (omega arith) (omega arith), tt, omega arith, omega arith),
  ((ask_real code 1 n h (omega arith) g, tt, omega arith, omega arith), tt),
)

abbrev nothing : Reply
nothing = record { code = 0; transaction = 0; parameters = []; sent = [] }

-- the reply to a look in the first session
abbrev look_reply : Storages → Command → Result Shown OperationFault → Reply
look_reply p c r = (looked p (Open (moved (opened p 1))) c room r).reply

module _ (p q : Storages) (alike : Alike p q) (n : ℕ) (small : n < 2 ^ 32) where
  storage_told : look_reply p (ask get_storage_info 1 n) (storage_shown p n) ≡ look_reply q (ask get_storage_info 1 n) (storage_shown q n)
  unfolding answered operation_of task_of session_opened
  storage_told = ap (λ (rs : List Reply). get_or rs 1 nothing) (alike (asking get_storage_info n) (asking_real get_storage_info n (omega arith) small))

  info_told : look_reply p (ask get_object_info 1 n) (info_shown p n) ≡ look_reply q (ask get_object_info 1 n) (info_shown q n)
  unfolding answered operation_of task_of session_opened
  info_told = ap (λ (rs : List Reply). get_or rs 1 nothing) (alike (asking get_object_info n) (asking_real get_object_info n (omega arith) small))

  object_told : look_reply p (ask get_object 1 n) (object_shown p n) ≡ look_reply q (ask get_object 1 n) (object_shown q n)
  unfolding answered operation_of task_of session_opened
  object_told = ap (λ (rs : List Reply). get_or rs 1 nothing) (alike (asking get_object n) (asking_real get_object n (omega arith) small))

-- what is told fits the buffer, and can be read back
length_data : (c : Command) (xs : List ℕ) → length (data_of c xs) ≡ 12 + length xs
unfolding container
length_data c xs = omega arith

same_payload : (c : Command) (xs ys : List ℕ) → data_of c xs ≡ data_of c ys → xs ≡ ys
unfolding container
same_payload c xs ys e = ap (λ (bs : List ℕ). drop 12 bs) e

shown_reply : (p : Storages) (c : Command) (xs : List ℕ) → 12 + length xs ≤ room
    → look_reply p c (shows xs) ≡ record { code = ok; transaction = c.transaction; parameters = []; sent = data_of c xs }
shown_reply p c xs h =
    ap (λ (a : Answer). a.reply) (cond-true (leb (length (data_of c xs)) room) _ _ (le-leb (length (data_of c xs)) room (omega (arith, length_data c xs))))

same_shown : (p q : Storages) (c : Command) (xs ys : List ℕ) → 12 + length xs ≤ room → 12 + length ys ≤ room
    → look_reply p c (shows xs) ≡ look_reply q c (shows ys) → xs ≡ ys
same_shown p q c xs ys h g e = same_payload c xs ys (ap (λ (r : Reply). r.sent) (sym (shown_reply p c xs h) ∙ e ∙ shown_reply q c ys g))

never_shown : (p q : Storages) (c : Command) (xs : List ℕ) (f : OperationFault) → 12 + length xs ≤ room
    → look_reply p c (shows xs) ≡ look_reply q c (Err f) → ⊥
never_shown p q c xs f h e = fault_not_ok f (sym (ap (λ (r : Reply). r.code) (sym (shown_reply p c xs h) ∙ e)))

-- a storage
length_storage : (kind : StorageKind) (writable : Bool) (c : Contents) → length (storage_info (storage_info_of kind writable c)) ≡ 46
unfolding storage_info
length_storage Programs writable c = refl
length_storage Handbook writable c = refl

same_number : (k a b : ℕ) → a < 256 ^ k → b < 256 ^ k → value (le k a) ≡ value (le k b) → a ≡ b
same_number k a b h g e = sym (value_le k a h) ∙ e ∙ value_le k b g

flag_small : (t : Bool) → cond t 0 1 < 2
flag_small true = omega arith
flag_small false = omega arith

same_flag : (t u : Bool) → cond {A = ℕ} (not t) 0 1 ≡ cond (not u) 0 1 → t ≡ u
same_flag true true e = refl
same_flag true false e = absurd (omega arith)
same_flag false true e = absurd (omega arith)
same_flag false false e = refl

module _ (kind : StorageKind) (a b : Bool) (c d : Contents) (sc : Sound c) (sd : Sound d)
    (e : storage_info (storage_info_of kind a c) ≡ storage_info (storage_info_of kind b d)) where
  same_access : cond {A = ℕ} a 0 1 ≡ cond b 0 1
  unfolding storage_info
  same_access =
      let x = flag_small a in
      let y = flag_small b in
      same_number 2 (cond a 0 1) (cond b 0 1) (omega arith) (omega arith) (ap (λ (xs : List ℕ). number_at 2 4 xs) e)

  same_capacity : c.capacity ≡ d.capacity
  unfolding storage_info
  same_capacity = same_number 8 c.capacity d.capacity (omega (arith, sc.capacity_bound)) (omega (arith, sd.capacity_bound)) (ap (λ (xs : List ℕ). number_at 8 6 xs) e)

  same_places : c.limit - length c.files ≡ d.limit - length d.files
  unfolding storage_info
  same_places =
      same_number 4 (c.limit - length c.files) (d.limit - length d.files) (omega (arith, sc.limit_bound)) (omega (arith, sd.limit_bound))
      (ap (λ (xs : List ℕ). number_at 4 22 xs) e)

  same_contents : c.files ≡ d.files → c ≡ d
  same_contents g =
      let l : length c.files ≡ length d.files = ap (λ (es : List Entry). length es) g in
      let m : c.limit ≡ d.limit = omega (arith, sc.count_fits, sd.count_fits, same_places) in
      λ i. record { capacity = same_capacity i; limit = m i; files = g i }

-- an object
length_units : (us : List ℕ) → length (unit_bytes us) ≡ 2 * length us
length_units [] = refl
length_units (u ∷ us) = let h = length_units us in omega arith

length_string : (us : List ℕ) → length (string us) ≤ 3 + 2 * length us
length_string [] = omega arith
length_string (u ∷ us) = omega (arith, length-append (unit_bytes (u ∷ us)) (0 ∷ 0 ∷ []), length_units us)

length_info : (i : ObjectInfo) → 12 + length (object_info i) ≤ room
unfolding object_info
length_info i =
    omega (arith, length-append (string (units_of i.name)) (0 ∷ 0 ∷ 0 ∷ []), length_string (units_of i.name), units_short i.name)

format_back : (f : Format) → format_of (format_number f) ≡ Some f
format_back Undefined = refl
format_back Association = refl
format_back Text = refl

same_format : (f g : Format) → format_number f ≡ format_number g → f ≡ g
same_format f g e = some_same (sym (format_back f) ∙ ap format_of e ∙ format_back g)

-- a parent's handle tells the parent
same_parent : (h a b : ℕ) → a < second_base → b < second_base → parent_handle h a ≡ parent_handle h b → a ≡ b
same_parent h a b la lb e = by (ltb h second_base) (eqb a 0) (eqb b 0) refl refl e
  where
    by : (t u v : Bool) → eqb a 0 ≡ u → eqb b 0 ≡ v → cond t a (cond u 0 (second_base + a)) ≡ cond t b (cond v 0 (second_base + b)) → a ≡ b
    by true u v x y e = e
    by false true true x y e = eqb-true a 0 x ∙ sym (eqb-true b 0 y)
    by false true false x y e = absurd (omega arith)
    by false false true x y e = absurd (omega arith)
    by false false false x y e = omega arith

-- what GetObject shows of a file
abbrev bytes_result : Bool → List ℕ → Result Shown OperationFault
bytes_result folder xs = provided (not folder) InvalidHandle (shows xs)

-- two files of which the same is told
module _ (p q : Storages) (h : ℕ) (f g : File) (ff : Fine f) (fg : Fine g) where
  same_bytes : f.format ≡ g.format
      → look_reply p (ask get_object 1 h) (bytes_result (is_folder f.format) f.bytes)
      ≡ look_reply q (ask get_object 1 h) (bytes_result (is_folder g.format) g.bytes)
      → f.bytes ≡ g.bytes
  same_bytes e o = by (is_folder f.format) refl (is_folder g.format) refl o
    where
      by : (t : Bool) → is_folder f.format ≡ t → (u : Bool) → is_folder g.format ≡ u
          → look_reply p (ask get_object 1 h) (bytes_result t f.bytes)
          ≡ look_reply q (ask get_object 1 h) (bytes_result u g.bytes)
          → f.bytes ≡ g.bytes
      by true x true y o = nil_from_length f.bytes (ff.folder_empty x) ∙ sym (nil_from_length g.bytes (fg.folder_empty y))
      by true x false y o = absurd (true≢false (sym x ∙ ap is_folder e ∙ y))
      by false x true y o = absurd (true≢false (sym y ∙ ap is_folder (sym e) ∙ x))
      by false x false y o = same_shown p q (ask get_object 1 h) f.bytes g.bytes (omega (arith, ff.short)) (omega (arith, fg.short)) o

  same_file : look_reply p (ask get_object_info 1 h) (shows (object_info (info_of h f))) ≡ look_reply q (ask get_object_info 1 h) (shows (object_info (info_of h g)))
      → look_reply p (ask get_object 1 h) (bytes_result (is_folder f.format) f.bytes)
      ≡ look_reply q (ask get_object 1 h) (bytes_result (is_folder g.format) g.bytes)
      → f ≡ g
  same_file i o =
      let w : object_info (info_of h f) ≡ object_info (info_of h g) =
      same_shown p q (ask get_object_info 1 h) (object_info (info_of h f)) (object_info (info_of h g)) (length_info (info_of h f)) (length_info (info_of h g)) i in
      let e : info_of h f ≡ info_of h g =
      some_same (sym (info_back (info_of h f) (info_fits h f ff)) ∙ ap object_info_in w ∙ info_back (info_of h g) (info_fits h g fg)) in
      let e₁ : f.format ≡ g.format = same_format f.format g.format (ap (λ (j : ObjectInfo). j.format) e) in
      let e₂ : f.protection ≡ g.protection = ap (λ (j : ObjectInfo). j.protection) e in
      let e₃ : f.parent ≡ g.parent = same_parent h f.parent g.parent ff.parent_low fg.parent_low (ap (λ (j : ObjectInfo). j.parent) e) in
      let e₄ : f.name ≡ g.name = ap (λ (j : ObjectInfo). j.name) e in
      let e₅ : f.bytes ≡ g.bytes = same_bytes e₁ o in
      λ i. record { format = e₁ i; protection = e₂ i; parent = e₃ i; name = e₄ i; bytes = e₅ i }

-- what is told of a handle
abbrev info_result : ℕ → Option File → Result Shown OperationFault
info_result h o = present o InvalidHandle (λ f. shows (object_info (info_of h f)))

abbrev object_result : Option File → Result Shown OperationFault
object_result o = present o InvalidHandle (λ f. bytes_result (is_folder f.format) f.bytes)

same_option : (p q : Storages) (h : ℕ) (x y : Option File) → ((f : File) → x ≡ Some f → Fine f) → ((f : File) → y ≡ Some f → Fine f)
    → look_reply p (ask get_object_info 1 h) (info_result h x) ≡ look_reply q (ask get_object_info 1 h) (info_result h y)
    → look_reply p (ask get_object 1 h) (object_result x) ≡ look_reply q (ask get_object 1 h) (object_result y)
    → x ≡ y
same_option p q h None None fx fy i o = refl
same_option p q h None (Some g) fx fy i o = absurd (never_shown q p (ask get_object_info 1 h) (object_info (info_of h g)) InvalidHandle (length_info (info_of h g)) (sym i))
same_option p q h (Some f) None fx fy i o = absurd (never_shown p q (ask get_object_info 1 h) (object_info (info_of h f)) InvalidHandle (length_info (info_of h f)) i)
same_option p q h (Some f) (Some g) fx fy i o = ap Some (same_file p q h f g (fx f refl) (fy g refl) i o)

none_high : (c : Contents) → Sound c → (n : ℕ) → second_base ≤ n → lookup n c.files ≡ None
none_high c s n h = by (lookup n c.files) refl
  where
    by : (o : Option File) → lookup n c.files ≡ o → o ≡ None
    by None e = refl
    by (Some f) e = absurd (omega (arith, s.numbers n f e))

module _ (p q : Storages) (sp : SoundStorages p) (sq : SoundStorages q) (alike : Alike p q) where
  same_at : (h : ℕ) → h < 2 ^ 32 → object_at p h ≡ object_at q h
  unfolding info_shown object_shown
  same_at h l = same_option p q h (object_at p h) (object_at q h) (λ f e. fine_at p sp h f e) (λ f e. fine_at q sq h f e) (info_told p q alike h l) (object_told p q alike h l)

  finds_first : (n : ℕ) → lookup n p.first.files ≡ lookup n q.first.files
  finds_first n = by (cases_lt n second_base)
    where
      by : (n < second_base) ⊎ (second_base ≤ n) → lookup n p.first.files ≡ lookup n q.first.files
      by (inl l) = sym (at_first p n l) ∙ same_at n (omega arith) ∙ at_first q n l
      by (inr l) = none_high p.first sp.first_sound n l ∙ sym (none_high q.first sq.first_sound n l)

  finds_second : (n : ℕ) → lookup n p.second.files ≡ lookup n q.second.files
  finds_second n = by (cases_lt n second_base)
    where
      by : (n < second_base) ⊎ (second_base ≤ n) → lookup n p.second.files ≡ lookup n q.second.files
      by (inl l) = sym (at_second p n) ∙ same_at (second_base + n) (omega arith) ∙ at_second q n
      by (inr l) = none_high p.second sp.second_sound n l ∙ sym (none_high q.second sq.second_sound n l)

  first_told : storage_info (storage_info_of Programs (not p.locked) p.first) ≡ storage_info (storage_info_of Programs (not q.locked) q.first)
  unfolding storage_shown
  first_told =
      same_shown p q (ask get_storage_info 1 first_storage) _ _
      (omega (arith, length_storage Programs (not p.locked) p.first)) (omega (arith, length_storage Programs (not q.locked) q.first))
      (storage_told p q alike first_storage (omega arith))

  second_told : storage_info (storage_info_of Handbook false p.second) ≡ storage_info (storage_info_of Handbook false q.second)
  unfolding storage_shown
  second_told =
      same_shown p q (ask get_storage_info 1 second_storage) _ _
      (omega (arith, length_storage Handbook false p.second)) (omega (arith, length_storage Handbook false q.second))
      (storage_told p q alike second_storage (omega arith))

  same_storages : p ≡ q
  same_storages =
      let a : p.first ≡ q.first =
      same_contents Programs _ _ p.first q.first sp.first_sound sq.first_sound first_told
      (same_files 0 p.first.files q.first.files sp.first_sound.ascending sq.first_sound.ascending finds_first) in
      let b : p.second ≡ q.second =
      same_contents Handbook false false p.second q.second sp.second_sound sq.second_sound second_told
      (same_files 0 p.second.files q.second.files sp.second_sound.ascending sq.second_sound.ascending finds_second) in
      let c : p.locked ≡ q.locked =
      same_flag p.locked q.locked (same_access Programs (not p.locked) (not q.locked) p.first q.first sp.first_sound sq.first_sound first_told) in
      λ i. record { first = a i; locked = c i; second = b i }

pub replies_tell_contents : RepliesTellContents
replies_tell_contents = record {
  equal_alike = λ p q _ _ e calls _. ap (λ (r : Storages). replies (fresh r) calls) e;
  alike_equal = λ p q sp sq alike. same_storages p q sp sq alike;
}
