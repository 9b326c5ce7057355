-- One law for each operation that acts: its refusals, and what it does when it is accepted.
use Rattle.std.proofs.Common.{◌≡◌, ℕ, suc, ◌+◌, ◌<◌, ◌≤◌, Bool, true, false, cond, not, ◌&&◌, ◌||◌, eqb, ltb, leb, ◌⊎◌, List, [], ◌∷◌, length, Some, None, Ok, Err, Option, sym, refl, ap, ◌∙◌, subst, inl, inr, arith}
use Rattle.std.proofs.lemmas.Bool.{and_parts, eqb-true, eqb-false, leb-true, ltb-true, not-true, or_cases, both_ways, true≢false, cond-true}
use Rattle.byte_parts.proofs.Cutting.{none_some, some_same}
use Rattle.object.specs.Formats.{is_folder, format_of, format_number, formats}
use Rattle.object.specs.Numbered.{with_number}
use Rattle.object.specs.declared.format.Format.{Format}
use Rattle.object.specs.declared.protection.Protection.{Protection}
use Rattle.object.specs.declared.protection.Protection.TheVariants.{Unprotected, ReadOnly}
use Rattle.store.specs.declared.fault.StoreFault.{StoreFault}
use Rattle.store.specs.Checks.{provided}
use Rattle.store.specs.Contents.{File, Contents, total, lookup}
use Rattle.store.specs.Sound.{is_parent, folder_there, last_number, max_length}
use Rattle.store.specs.Changes.{added, removed, inserted, with_files, has_room, past_last}
use Rattle.store.specs.Laws.{Addable}
use Rattle.store.proofs.Checks.{EitherWay, checked}
use Rattle.store.proofs.Kept.{added_taken, parent_cases}
use Rattle.wire.specs.declared.command.Command.{Command}
use Rattle.wire.specs.declared.fault.DatasetFault.{DatasetFault}
use Rattle.wire.specs.declared.fault.DatasetFault.TheVariants as datasets
use Rattle.wire.specs.Containers.{payload_in}
use Rattle.datasets.specs.declared.info.ObjectInfo.{ObjectInfo}
use Rattle.datasets.specs.ObjectInfos.{object_info_in}
use Rattle.protocol.specs.declared.fault.OperationFault.{OperationFault}
use Rattle.protocol.specs.declared.fault.OperationFault.TheVariants.{IncompleteTransfer, InvalidStorage, InvalidHandle, InvalidFormat, StoreFull, ObjectProtected, StoreReadOnly, FormatNotSupported, NoObjectInfo, InvalidParent, InvalidParameter, InvalidDataset, ObjectTooLarge}
use Rattle.protocol.specs.declared.session.Announcement.{Announcement}
use Rattle.protocol.specs.declared.session.OpenSession.{OpenSession}
use Rattle.protocol.specs.declared.session.Session.{Session}
use Rattle.protocol.specs.declared.session.Session.TheVariants.{Closed, Open}
use Rattle.protocol.specs.declared.session.Transfer.{Transfer}
use Rattle.protocol.specs.declared.session.Transfer.TheVariants.{Idle, Announced}
use Rattle.protocol.specs.Accepted.{AtRootOr, Announces}
use Rattle.protocol.specs.Checks.{present}
use Rattle.protocol.specs.Faults.{ok, operation_fault_number, parameters_of, of_store, of_dataset}
use Rattle.protocol.specs.Commands.{parameter}
use Rattle.protocol.specs.Storages.{Storages, first_storage, second_storage, root, is_storage, second_base, object_at}
use Rattle.protocol.specs.Acting.{Outcome, settled, session_opened, session_closed, object_deleted, is_unprotected, info_sent, dataset_in, is_root, parent_number, parent_told, given_next, at_rest, file_of, announced, object_sent, sent_for, announcement_in, payload_of_size}
use Rattle.protocol.specs.Invariant.{Stands, OpenFits}
use Rattle.protocol.proofs.Ways.{present_ways, and_then_ways, cond_ways, settled_ways}

-- an outcome that is a refusal, or that is accepted
abbrev pub refusal : OperationFault → Contents → Session → Outcome
refusal f first session = settled first session (Err f)

abbrev pub acceptance : List ℕ → Contents → Session → Outcome
acceptance ps first session = record { code = ok; parameters = ps; first = first; session = session }

-- OpenSession
abbrev pub opened : Storages → ℕ → OpenSession
opened p id = record { id = id; expected = 1; next = past_last 1 p.first.files; transfer = Idle }

pub open_law : (P : Outcome → Type 0) (p : Storages) (id : ℕ)
    → P (refusal InvalidParameter p.first Closed)
    → (1 ≤ id → P (acceptance [] p.first (Open (opened p id))))
    → P (session_opened p id)
unfolding session_opened
open_law P p id r a =
    settled_ways P p.first Closed _
    (checked P (λ f. P (refusal f p.first Closed)) (not (eqb id 0)) InvalidParameter _ r λ t.
    a (positive id (eqb-false id 0 (not-true (eqb id 0) t))))
  where
    positive : (n : ℕ) → (n ≡ 0 → ⊥) → 1 ≤ n
    positive n h = omega arith

-- CloseSession
pub close_law : (P : Outcome → Type 0) (p : Storages) → P (acceptance [] p.first Closed) → P (session_closed p)
unfolding session_closed
close_law P p a = a

-- a store's fault as an operation's has no parameter, and is none of those before the store is asked
abbrev pub Plain : OperationFault → Type 0
Plain f = parameters_of f ≡ []

abbrev pub Later : OperationFault → Type 0
Later f = (operation_fault_number f ≡ 0x2004 → ⊥) × (operation_fault_number f ≡ 0x2006 → ⊥) × (operation_fault_number f ≡ 0x2015 → ⊥)

pub store_plain : (f : StoreFault) → Plain (of_store f)
store_plain f = grind arith

pub store_later : (f : StoreFault) → Later (of_store f)
store_later f = grind arith

pub dataset_plain : (f : DatasetFault) → Plain (of_dataset f)
dataset_plain f = grind arith

pub dataset_later : (f : DatasetFault) → Later (of_dataset f)
dataset_later f = grind arith

-- what an accepted DeleteObject found and did
pub record Deletes (p : Storages) (h : ℕ) (d : Contents) : Type 0 where
  pub file : File
  pub there : lookup h p.first.files ≡ Some file
  pub unprotected : file.protection ≡ Unprotected
  pub change : removed p.locked h p.first ≡ Ok d

unprotected_is : (x : Protection) → is_unprotected x ≡ true → x ≡ Unprotected
unprotected_is Unprotected e = refl
unprotected_is ReadOnly e = absurd (true≢false (sym e))

first_at : (p : Storages) (h : ℕ) → ltb h second_base ≡ true → object_at p h ≡ lookup h p.first.files
unfolding object_at
first_at p h t = cond-true (ltb h second_base) _ _ t

-- DeleteObject
pub delete_law : (P : Outcome → Type 0) (p : Storages) (s : OpenSession) (h format : ℕ)
    → ((f : OperationFault) → Plain f → P (refusal f p.first (Open s)))
    → ((d : Contents) → Deletes p h d → P (acceptance [] d (Open s)))
    → P (object_deleted p s h format)
unfolding object_deleted
delete_law P p s h format r a =
    let Q : OperationFault → Type 0 = λ f. P (refusal f p.first (Open s)) in
    settled_ways P p.first (Open s) _
    (checked P Q (eqb format 0) FormatNotSupported _ (r FormatNotSupported refl) λ _.
    present_ways P Q (object_at p h) InvalidHandle _ (r InvalidHandle refl) λ f found.
    checked P Q (ltb h second_base) StoreReadOnly _ (r StoreReadOnly refl) λ low.
    checked P Q (is_unprotected f.protection) ObjectProtected _ (r ObjectProtected refl) λ free.
    and_then_ways P Q (removed p.locked h p.first) of_store _ (λ e _. r (of_store e) (store_plain e)) λ d q.
    a d (record { file = f; there = sym (first_at p h low) ∙ found; unprotected = unprotected_is f.protection free; change = q }))

-- the refusals that SendObjectInfo gives itself
pub data InfoFault : OperationFault → Type 0 where
  no_storage : InfoFault InvalidStorage
  read_only : InfoFault StoreReadOnly
  incomplete : InfoFault IncompleteTransfer
  bad_dataset : InfoFault InvalidDataset
  bad_format : InfoFault InvalidFormat
  bad_parent : InfoFault InvalidParent
  too_large : InfoFault ObjectTooLarge
  full : InfoFault StoreFull

pub info_plain : (f : OperationFault) → InfoFault f → Plain f
info_plain _ no_storage = refl
info_plain _ read_only = refl
info_plain _ incomplete = refl
info_plain _ bad_dataset = refl
info_plain _ bad_format = refl
info_plain _ bad_parent = refl
info_plain _ too_large = refl
info_plain _ full = refl

abbrev pub handles_told : OpenSession → Command → List ℕ
handles_told s c = first_storage ∷ parent_told (parameter 2 c) ∷ s.next ∷ []

-- what an accepted SendObjectInfo leads to: a folder that is added at once, or an announcement that stands
pub data Gives (p : Storages) (s : OpenSession) (c : Command) (host : List ℕ) : Contents → Transfer → Type 0 where
  a_folder : (a : Announcement) (d : Contents) → a.number ≡ s.next → Announces c host a → is_folder a.format ≡ true
      → added p.locked s.next (file_of a []) p.first ≡ Ok d → Gives p s c host d Idle
  a_file : (a : Announcement) → a.number ≡ s.next → Announces c host a → is_folder a.format ≡ false → Stands p (suc s.next) a
      → Gives p s c host p.first (Announced a)

-- what has a number has it
numbered : {A : Type 0} (number : A → ℕ) (xs : List A) (n : ℕ) (x : A) → with_number number xs n ≡ Some x → number x ≡ n
numbered number [] n x e = absurd (none_some e)
numbered number (y ∷ ys) n x e = by (λ r. numbered number ys n x r) (eqb n (number y)) refl e
  where
    by : (with_number number ys n ≡ Some x → number x ≡ n) → (t : Bool) → eqb n (number y) ≡ t → cond t (Some y) (with_number number ys n) ≡ Some x → number x ≡ n
    by rest true q e = ap number (sym (some_same e)) ∙ sym (eqb-true n (number y) q)
    by rest false q e = rest e

-- a dataset that was read was received
dataset_read : (c : Command) (host : List ℕ) (i : ObjectInfo) → dataset_in c host ≡ Ok i
    → (xs : List ℕ) × (payload_in c.code c.transaction host ≡ Some xs) × (object_info_in xs ≡ Some i)
dataset_read c host i e = by (payload_in c.code c.transaction host) e
  where
    last : (o : Option ObjectInfo) → present o datasets.InvalidDataset (λ j. Ok j) ≡ Ok i → o ≡ Some i
    last None q = absurd (let z : ◌≡◌ {A = ℕ} 0 1 = cc in omega arith)
    last (Some j) q = ap Some (let z : j ≡ i = cc in z)

    by : (o : Option (List ℕ)) → present o datasets.IncompleteTransfer (λ xs. present (object_info_in xs) datasets.InvalidDataset (λ j. Ok j)) ≡ Ok i
        → (xs : List ℕ) × (o ≡ Some xs) × (object_info_in xs ≡ Some i)
    by None q = absurd (let z : ◌≡◌ {A = ℕ} 0 1 = cc in omega arith)
    by (Some xs) q = (xs, refl, last (object_info_in xs) q)

-- the parent by the parameter
root_or : (n at_root : ℕ) → AtRootOr n at_root (cond (is_root n) at_root n)
root_or n at_root = by (eqb n 0) refl (eqb n root) refl
  where
    by : (t : Bool) → eqb n 0 ≡ t → (u : Bool) → eqb n root ≡ u → AtRootOr n at_root (cond (t || u) at_root n)
    by true e u f = inl (inl (eqb-true n 0 e), refl)
    by false e true f = inl (inr (eqb-true n root f), refl)
    by false e false f = inr (no, refl)
      where
        no : (n ≡ 0) ⊎ (n ≡ root) → ⊥
        no (inl q) = eqb-false n 0 e q
        no (inr q) = eqb-false n root f q

pub parent_tells : (c : Command) → AtRootOr (parameter 2 c) root (parent_told (parameter 2 c))
parent_tells c = root_or (parameter 2 c) root

dataset_fault : (Q : OperationFault → Type 0) (c : Command) (host : List ℕ) (e : DatasetFault)
    → Q IncompleteTransfer → Q InvalidDataset → dataset_in c host ≡ Err e → Q (of_dataset e)
dataset_fault Q c host e a b q = by (payload_in c.code c.transaction host) q
  where
    last : (o : Option ObjectInfo) → present o datasets.InvalidDataset (λ i. Ok i) ≡ Err e → Q (of_dataset e)
    last None q = subst (λ f. Q (of_dataset f)) (let z : datasets.InvalidDataset ≡ e = cc in z) b
    last (Some i) q = absurd (let z : ◌≡◌ {A = ℕ} 0 1 = cc in omega arith)

    by : (o : Option (List ℕ)) → present o datasets.IncompleteTransfer (λ xs. present (object_info_in xs) datasets.InvalidDataset (λ i. Ok i)) ≡ Err e → Q (of_dataset e)
    by None q = subst (λ f. Q (of_dataset f)) (let z : datasets.IncompleteTransfer ≡ e = cc in z) a
    by (Some xs) q = last (object_info_in xs) q

-- a folder's parent number is below the next one
parent_low : (p : Storages) (s : OpenSession) (parent : ℕ) → OpenFits p s → is_parent parent p.first.files ≡ true → parent < s.next
parent_low p s parent fits e = by (parent_cases parent p.first.files e)
  where
    there : (o : Option File) → lookup parent p.first.files ≡ o → folder_there o ≡ true → parent < s.next
    there None q t = absurd (true≢false (sym t))
    there (Some f) q t = fits.next_above parent f q

    by : (parent ≡ 0) ⊎ (folder_there (lookup parent p.first.files) ≡ true) → parent < s.next
    by (inl q) = omega (arith, fits.next_positive)
    by (inr q) = there (lookup parent p.first.files) refl q

next_new : (p : Storages) (s : OpenSession) → OpenFits p s → lookup s.next p.first.files ≡ None
next_new p s fits = by (lookup s.next p.first.files) refl
  where
    by : (o : Option File) → lookup s.next p.first.files ≡ o → o ≡ None
    by None e = refl
    by (Some f) e = absurd (omega (arith, fits.next_above s.next f e))

-- SendObjectInfo, in a session that fits: its refusals are its own, since the store then takes every folder
module _ (P : Outcome → Type 0) (p : Storages) (s : OpenSession) (c : Command) (host : List ℕ) (fits : OpenFits p s)
    (r : (f : OperationFault) → InfoFault f → P (refusal f p.first (Open s)))
    (a : (d : Contents) (t : Transfer) → s.next ≤ last_number → Gives p s c host d t → P (acceptance (handles_told s c) d (Open (given_next s t)))) where
  abbrev Q : OperationFault → Type 0
  Q f = P (refusal f p.first (Open s))

  announced_ways : (x : Announcement) → x.number ≡ s.next → Announces c host x → p.locked ≡ false → (is_folder x.format ≡ true → x.size ≡ 0)
      → is_parent x.parent p.first.files ≡ true → x.size ≤ max_length → has_room x.size p.first ≡ true → s.next ≤ last_number
      → EitherWay P Q (announced p s (handles_told s c) x)
  announced_ways x number from unlocked folder parent short room last =
      let rooms = and_parts (ltb (length p.first.files) p.first.limit) _ room in
      let place = ltb-true (length p.first.files) p.first.limit rooms.0 in
      let bytes = leb-true (total p.first.files + x.size) p.first.capacity rooms.1 in
      let low : x.parent < s.next = parent_low p s x.parent fits parent in
      let new = next_new p s fits in
      cond_ways P Q (is_folder x.format) _ _
      (λ t.
      let fit : Addable s.next (file_of x []) p.first =
      record {
        positive = fits.next_positive;
        last = last;
        short = omega arith;
        folder_empty = λ _. refl;
        new = new;
        parent = parent_cases x.parent p.first.files parent;
        parent_below = low;
        free_place = place;
        free_bytes = omega arith;
      } in
      let taken : added p.locked s.next (file_of x []) p.first ≡ Ok (with_files p.first (inserted s.next (file_of x []) p.first.files)) =
      subst (λ l. added l s.next (file_of x []) p.first ≡ Ok (with_files p.first (inserted s.next (file_of x []) p.first.files))) (sym unlocked)
      (added_taken s.next (file_of x []) p.first fit) in
      and_then_ways P Q (added p.locked s.next (file_of x []) p.first) of_store _
      (λ e q. absurd (let z : ◌≡◌ {A = ℕ} 0 1 = cc in omega arith))
      λ d q. a d Idle last (a_folder x d number from t q))
      (λ t.
      a p.first (Announced x) last
      (a_file x number from t
      (record {
        positive = omega (arith, fits.next_positive);
        below_next = omega arith;
        new = ap (λ n. lookup n p.first.files) number ∙ new;
        short = short;
        no_folder = t;
        parent_below = omega arith;
        unlocked = unlocked;
        free_place = place;
        free_bytes = bytes;
      })))

  pub info_law : P (info_sent p s c host)
  unfolding info_sent
  info_law =
      settled_ways P p.first (Open s) _
      (checked P Q (eqb (parameter 1 c) 0 || is_storage (parameter 1 c)) InvalidStorage _ (r InvalidStorage no_storage) λ _.
      checked P Q (not (eqb (parameter 1 c) second_storage) && not p.locked) StoreReadOnly _ (r StoreReadOnly read_only) λ l.
      and_then_ways P Q (dataset_in c host) of_dataset _
      (λ e q. dataset_fault Q c host e (r IncompleteTransfer incomplete) (r InvalidDataset bad_dataset) q) λ i read.
      present_ways P Q (format_of i.format) InvalidFormat _ (r InvalidFormat bad_format) λ format known.
      checked P Q (not (is_folder format) || eqb i.size 0) InvalidDataset _ (r InvalidDataset bad_dataset) λ z.
      checked P Q (is_parent (parent_number (parameter 2 c)) p.first.files) InvalidParent _ (r InvalidParent bad_parent) λ parent.
      checked P Q (leb i.size max_length) ObjectTooLarge _ (r ObjectTooLarge too_large) λ short.
      checked P Q (has_room i.size p.first && leb s.next last_number) StoreFull _ (r StoreFull full) λ room.
      let rooms = and_parts (has_room i.size p.first) (leb s.next last_number) room in
      let sent = dataset_read c host i read in
      announced_ways _ refl
      (record {
        payload = sent.0;
        info = i;
        received = sent.1;
        read = sent.2;
        format_is = numbered format_number formats i.format format known;
        protection_is = refl;
        name_is = refl;
        size_is = refl;
        parent_is = root_or (parameter 2 c) 0;
      })
      (not-true p.locked (and_parts (not (eqb (parameter 1 c) second_storage)) (not p.locked) l).1)
      (folder_size format i.size z) parent (leb-true i.size max_length short) rooms.0 (leb-true s.next last_number rooms.1))
    where
      folder_size : (format : Format) (size : ℕ) → (not (is_folder format) || eqb size 0) ≡ true → is_folder format ≡ true → size ≡ 0
      folder_size format size e t = by (or_cases (not (is_folder format)) (eqb size 0) e)
        where
          by : (not (is_folder format) ≡ true) ⊎ (eqb size 0 ≡ true) → size ≡ 0
          by (inl h) = absurd (both_ways (is_folder format) (not-true (is_folder format) h) t)
          by (inr h) = eqb-true size 0 h

-- what an accepted SendObject was given and did
pub record Brings (p : Storages) (s : OpenSession) (c : Command) (host : List ℕ) (d : Contents) : Type 0 where
  pub announcement : Announcement
  pub payload : List ℕ
  pub stood : s.transfer ≡ Announced announcement
  pub received : payload_in c.code c.transaction host ≡ Some payload
  pub sized : length payload ≡ announcement.size
  pub change : added p.locked announcement.number (file_of announcement payload) p.first ≡ Ok d

-- a payload of a size was received
received_size : (size : ℕ) (c : Command) (host xs : List ℕ) → payload_of_size size c host ≡ Ok xs
    → (payload_in c.code c.transaction host ≡ Some xs) × (length xs ≡ size)
received_size size c host xs e = by (payload_in c.code c.transaction host) e
  where
    last : (ys : List ℕ) (t : Bool) → eqb (length ys) size ≡ t → provided t datasets.IncompleteTransfer (Ok ys) ≡ Ok xs → (Some ys ≡ Some xs) × (length xs ≡ size)
    last ys true q e = let z : ys ≡ xs = cc in (ap Some z, subst (λ zs. length zs ≡ size) z (eqb-true (length ys) size q))
    last ys false q e = absurd (let z : ◌≡◌ {A = ℕ} 0 1 = cc in omega arith)

    by : (o : Option (List ℕ)) → present o datasets.IncompleteTransfer (λ ys. provided (eqb (length ys) size) datasets.IncompleteTransfer (Ok ys)) ≡ Ok xs
        → (o ≡ Some xs) × (length xs ≡ size)
    by None e = absurd (let z : ◌≡◌ {A = ℕ} 0 1 = cc in omega arith)
    by (Some ys) e = last ys (eqb (length ys) size) refl e

-- SendObject
pub send_law : (P : Outcome → Type 0) (p : Storages) (s : OpenSession) (c : Command) (host : List ℕ)
    → P (refusal NoObjectInfo p.first (Open s))
    → ((f : OperationFault) → Plain f → Later f → P (refusal f p.first (Open (at_rest s))))
    → ((d : Contents) → Brings p s c host d → P (acceptance [] d (Open (at_rest s))))
    → P (object_sent p s c host)
unfolding object_sent
send_law P p s c host none r a = by s.transfer refl
  where
    by : (t : Transfer) → s.transfer ≡ t → P (sent_for p s c host (announcement_in t))
    by Idle e = none
    by (Announced x) e =
        let Q : OperationFault → Type 0 = λ f. P (refusal f p.first (Open (at_rest s))) in
        settled_ways P p.first (Open (at_rest s)) _
        (and_then_ways P Q (payload_of_size x.size c host) of_dataset _ (λ f _. r (of_dataset f) (dataset_plain f) (dataset_later f)) λ xs q.
        and_then_ways P Q (added p.locked x.number (file_of x xs) p.first) of_store _ (λ f _. r (of_store f) (store_plain f) (store_later f)) λ d k.
        let got = received_size x.size c host xs q in
        a d (record { announcement = x; payload = xs; stood = e; received = got.0; sized = got.1; change = k }))
