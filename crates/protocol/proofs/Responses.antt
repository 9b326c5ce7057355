-- Responses are read back, and every reply fits its response.
use Rattle.std.proofs.Common.{◌≡◌, ℕ, zero, suc, ◌+◌, ◌-◌, ◌*◌, ◌/◌, ◌%◌, ◌^◌, ◌<◌, ◌≤◌, Bool, true, false, cond, eqb, leb, ◌⊎◌, List, [], ◌∷◌, ◌++◌, length, get_or, take, drop, Some, sym, refl, ap, ◌∙◌, subst, inl, inr, arith}
use native.Mathlib.Nat.{min-le_right}
use Rattle.std.specs.List.{AllByRecursion}
use Rattle.std.proofs.ByRecursion.{All-get_or, All-take, All-drop}
use Rattle.std.proofs.lemmas.List.{length-take, length-drop, length-take-le, take-append-drop, drop-drop, nil_from_length}
use Rattle.std.proofs.lemmas.Bool.{and_from, and_parts, leb-true, le-leb, eqb-true, eq-eqb, cond-true, cases_eq}
use Rattle.byte_parts.specs.Numbers.{Bytes, le, value}
use Rattle.byte_parts.proofs.LittleEndian.{value_le, le_value}
use Rattle.byte_parts.proofs.Cutting.{some_same, through}
use Rattle.wire.specs.declared.command.Command.{Command}
use Rattle.wire.specs.Containers.{numbers, container, number_at, is_container, response_type, response}
use Rattle.wire.specs.Operations.{get_partial_object}
use Rattle.protocol.specs.declared.fault.OperationFault.{OperationFault}
use Rattle.protocol.specs.declared.fault.OperationFault.TheVariants.{InvalidTransaction, OperationNotSupported, TransactionCancelled}
use Rattle.protocol.specs.declared.session.OpenSession.{OpenSession}
use Rattle.protocol.specs.declared.session.Session.{Session}
use Rattle.protocol.specs.declared.session.Session.TheVariants.{Closed, Open}
use Rattle.protocol.specs.Faults.{ok, operation_fault_number, parameters_of}
use Rattle.protocol.specs.Commands.{parameter}
use Rattle.protocol.specs.Storages.{Storages, SoundStorages, root}
use Rattle.protocol.specs.Looking.{Shown, part}
use Rattle.protocol.specs.Acting.{is_root, parent_told, at_rest}
use Rattle.protocol.specs.Invariant.{OpenFits, SessionFits, StateFits}
use Rattle.protocol.specs.Machine.{State, Reply, Answer, Call, answer, cancel, unplug, Event, response_of, moved, refused, history, replies_in, event, next_state, replies, fresh, unplugged}
use Rattle.protocol.specs.Alike.{RealCommand, RealCall, Real}
use Rattle.protocol.specs.Responses.{Response, held_in, numbers_in, response_in, ReplyFits, ResponsesTellReplies}
use Rattle.protocol.proofs.Effects.{Plain}
use Rattle.protocol.proofs.Steps as steps
use Rattle.protocol.proofs.Steps.{Stopped, held, untimely, unknown, Told, telling, Went, WentClosed, Spared, open_went, closed_went, cancel_went, told_part}
use Rattle.protocol.proofs.Looks.{part_look}
use Rattle.protocol.proofs.Found.{fine_at}
use Rattle.protocol.proofs.Staying.{call_leads}

-- the reader
length_numbers : (ps : List ℕ) → length (numbers 4 ps) ≡ 4 * length ps
length_numbers [] = refl
length_numbers (p ∷ ps) = let h = length_numbers ps in omega arith

numbers_back : (ps : List ℕ) → AllByRecursion (λ n. n < 2 ^ 32) ps → numbers_in (length ps) (numbers 4 ps) ≡ ps
numbers_back [] f = refl
numbers_back (p ∷ ps) f =
    let h : value (le 4 p) ≡ p = value_le 4 p (omega (arith, f.0)) in
    let r = numbers_back ps f.1 in
    λ i. h i ∷ r i

read_back : (r : Reply) → ReplyFits r → response_in (response_of r) ≡ Some (held_in r)
unfolding response_in container
read_back r f =
    let l = length_numbers r.parameters in
    let m : length (response_of r) ≡ 12 + 4 * length r.parameters = omega arith in
    let w : value (le 4 (12 + length (numbers 4 r.parameters))) ≡ 12 + length (numbers 4 r.parameters) = value_le 4 (12 + length (numbers 4 r.parameters)) (omega (arith, f.at_most_five)) in
    let n : (length (response_of r) - 12) / 4 ≡ length r.parameters = omega arith in
    let c : is_container response_type (response_of r) ≡ true =
    and_from _ _ (le-leb 12 (length (response_of r)) (omega arith)) (and_from _ _ (eq-eqb (number_at 4 0 (response_of r)) (length (response_of r)) (w ∙ omega arith)) refl) in
    cond-true _ _ _ (and_from _ _ c (and_from _ _ (le-leb (length (response_of r)) 32 (omega (arith, f.at_most_five))) (eq-eqb (length (response_of r) % 4) 0 (omega arith))))
    ∙ λ i. Some (record {
      code = value_le 2 r.code f.code_fits i;
      transaction = value_le 4 r.transaction f.transaction_fits i;
      parameters = (ap (λ k. numbers_in k (numbers 4 r.parameters)) n ∙ numbers_back r.parameters f.parameters_fit) i;
    })

-- a part of bytes is the bytes of its number
part_bytes : (k i : ℕ) (bs : List ℕ) → Bytes bs → i + k ≤ length bs → le k (number_at k i bs) ≡ take k (drop i bs)
part_bytes k i bs h l =
    let d = length-drop i bs in
    let m : length (take k (drop i bs)) ≡ k = length-take-le k (drop i bs) (omega arith) in
    subst (λ n. le n (number_at k i bs) ≡ take k (drop i bs)) m (le_value (take k (drop i bs)) (All-take (λ b. b < 256) k (drop i bs) (All-drop (λ b. b < 256) i bs h)))

part_rest : (k i : ℕ) (bs : List ℕ) → drop i bs ≡ take k (drop i bs) ++ drop (i + k) bs
part_rest k i bs = sym (take-append-drop k (drop i bs)) ∙ ap (λ l. take k (drop i bs) ++ l) (drop-drop k i bs)

numbers_pinned : (n : ℕ) (bs : List ℕ) → Bytes bs → length bs ≡ 4 * n → numbers 4 (numbers_in n bs) ≡ bs
numbers_pinned zero bs h l = sym (nil_from_length bs l)
numbers_pinned (suc n) bs h l =
    let e = part_bytes 4 0 bs h (omega arith) in
    let d = length-drop 4 bs in
    let r = numbers_pinned n (drop 4 bs) (All-drop (λ b. b < 256) 4 bs h) (omega arith) in
    (λ i. e i ++ r i) ∙ sym (part_rest 4 0 bs)

-- what the reader takes for a response is one
pinned : (bs : List ℕ) (x : Response) → Bytes bs → response_in bs ≡ Some x → bs ≡ response x.code x.transaction x.parameters
unfolding response_in container
pinned bs x h e =
    let t = through _ _ x e in
    let a = and_parts (is_container response_type bs) _ t.0 in
    let b = and_parts (leb 12 (length bs)) _ a.0 in
    let c = and_parts (eqb (number_at 4 0 bs) (length bs)) _ b.1 in
    let d = and_parts (leb (length bs) 32) _ a.1 in
    let long = leb-true 12 (length bs) b.0 in
    let whole = eqb-true (number_at 4 0 bs) (length bs) c.0 in
    let kind = eqb-true (number_at 2 4 bs) 3 c.1 in
    let fours = eqb-true (length bs % 4) 0 d.1 in
    let rest = length-drop 12 bs in
    let n : ℕ = (length bs - 12) / 4 in
    let ps : List ℕ = numbers_in n (drop 12 bs) in
    let back : numbers 4 ps ≡ drop 12 bs = numbers_pinned n (drop 12 bs) (All-drop (λ y. y < 256) 12 bs h) (omega arith) in
    let size : 12 + length (numbers 4 ps) ≡ number_at 4 0 bs = ap (λ l. 12 + length l) back ∙ omega arith in
    let split : bs ≡ take 4 bs ++ (take 2 (drop 4 bs) ++ (take 2 (drop 6 bs) ++ (take 4 (drop 8 bs) ++ drop 12 bs))) =
    part_rest 4 0 bs ∙ ap (λ l. take 4 bs ++ l) (part_rest 2 4 bs ∙ ap (λ l. take 2 (drop 4 bs) ++ l) (part_rest 2 6 bs ∙ ap (λ l. take 2 (drop 6 bs) ++ l) (part_rest 4 8 bs))) in
    split
    ∙ (λ i. (sym (part_bytes 4 0 bs h (omega arith)) ∙ ap (le 4) (sym size)) i ++ ((sym (part_bytes 2 4 bs h (omega arith)) ∙ ap (le 2) kind) i
    ++ (sym (part_bytes 2 6 bs h (omega arith)) i ++ (sym (part_bytes 4 8 bs h (omega arith)) i ++ sym back i))))
    ∙ ap (λ (y : Response). response y.code y.transaction y.parameters) t.1

same_reply : (r q : Reply) → ReplyFits r → ReplyFits q → response_of r ≡ response_of q → r.sent ≡ q.sent → r ≡ q
same_reply r q f g e d =
    let h : held_in r ≡ held_in q = some_same (sym (read_back r f) ∙ ap response_in e ∙ read_back q g) in
    λ i. record { code = (h i).code; transaction = (h i).transaction; parameters = (h i).parameters; sent = d i }

-- the numbers of refusals
fault_fits : (f : OperationFault) → operation_fault_number f < 2 ^ 16
fault_fits f = grind arith

-- parameters that fit
abbrev Fit : List ℕ → Type 0
Fit ps = (length ps ≤ 5) × AllByRecursion (λ n. n < 2 ^ 32) ps

fit_none : {ps : List ℕ} → ps ≡ [] → Fit ps
fit_none e = subst Fit (sym e) (omega arith, tt)

fit_one : {ps : List ℕ} (n : ℕ) → n < 2 ^ 32 → ps ≡ n ∷ [] → Fit ps
fit_one n l e = subst Fit (sym e) (omega arith, (l, tt))

reply_fits : (code transaction : ℕ) (ps sent : List ℕ) → code < 2 ^ 16 → transaction < 2 ^ 32 → Fit ps → ReplyFits (record { code = code; transaction = transaction; parameters = ps; sent = sent })
reply_fits code transaction ps sent a b f = record { code_fits = a; transaction_fits = b; at_most_five = f.0; parameters_fit = f.1 }

ok_fits : ok < 2 ^ 16
ok_fits = omega arith

-- a session whose id fits
abbrev IdFits : Session → Type 0
IdFits Closed = Unit {0}
IdFits (Open s) = s.id < 2 ^ 32

parameter_fits : (c : Command) (k : ℕ) → k < 5 → RealCommand c → get_or c.parameters k 0 < 2 ^ 32
parameter_fits c k l r = All-get_or (λ n. n < 2 ^ 32) c.parameters k 0 (omega (arith, r.five)) r.parameters_fit

told_fits : (n : ℕ) → n < 2 ^ 32 → parent_told n < 2 ^ 32
told_fits n l = by (is_root n)
  where
    by : (t : Bool) → cond t root n < 2 ^ 32
    by true = omega arith
    by false = l

-- a good answer: its reply fits, and so does the session's id after it
abbrev Good : Answer → Type 0
Good a = ReplyFits a.reply × IdFits a.state.session

plain_good : (f : OperationFault) (p : Storages) (s : Session) (c : Command) → RealCommand c → Plain f → IdFits s → Good (refused f p s c)
plain_good f p s c r h i = (reply_fits (operation_fault_number f) c.transaction (parameters_of f) [] (fault_fits f) r.transaction_fits (fit_none h), i)

stopped_good : (p : Storages) (s : OpenSession) (c : Command) (f : OperationFault) (t : OpenSession) → RealCommand c → s.id < 2 ^ 32 → Stopped s c f t → Good (refused f p (Open t) c)
stopped_good p s c _ _ r i (held e) = (reply_fits 0x201E c.transaction (s.id ∷ []) [] (omega arith) r.transaction_fits (fit_one s.id i refl), i)
stopped_good p s c _ _ r i (untimely n m) = plain_good InvalidTransaction p (Open s) c r refl i
stopped_good p s c _ _ r i (unknown w e) = plain_good OperationNotSupported p (Open (moved s)) c r refl i

told_good : (p : Storages) (s : Session) (c : Command) (x : Shown) → SoundStorages p → RealCommand c → Told p c x → IdFits s → Good (telling x p s c)
told_good p s c x k r t i = (reply_fits ok c.transaction x.parameters _ ok_fits r.transaction_fits (by (cases_eq c.code get_partial_object)), i)
  where
    by : (c.code ≡ get_partial_object) ⊎ (c.code ≡ get_partial_object → ⊥) → Fit x.parameters
    by (inl e) =
        let l = part_look p (parameter 1 c) (parameter 2 c) (parameter 3 c) x (told_part p c x t e) in
        let short = (fine_at p k (parameter 1 c) l.file l.there).short in
        let a = length-take (parameter 3 c) (drop (parameter 2 c) l.file.bytes) in
        let b = length-drop (parameter 2 c) l.file.bytes in
        let d = min-le_right (parameter 3 c) (length (drop (parameter 2 c) l.file.bytes)) in
        fit_one (length (part (parameter 2 c) (parameter 3 c) l.file.bytes)) (omega arith) l.count_is
    by (inr n) = fit_none (t.plain n)

went_good : (p : Storages) (s : OpenSession) (c : Command) (host : List ℕ) (a : Answer) → SoundStorages p → OpenFits p s → RealCommand c → s.id < 2 ^ 32
    → Went p s c host a → Good a
went_good p s c host _ k fits r i (steps.stopped f t w) = stopped_good p s c f t r i w
went_good p s c host _ k fits r i (steps.refuses f _ h _ _) = plain_good f p (Open (moved s)) c r h i
went_good p s c host _ k fits r i (steps.ends f _ _ h _) = plain_good f p (Open (at_rest (moved s))) c r h i
went_good p s c host _ k fits r i (steps.tells x _ t) = told_good p (Open (moved s)) c x k r t i
went_good p s c host _ k fits r i (steps.closes _ _) = (reply_fits ok c.transaction [] [] ok_fits r.transaction_fits (omega arith, tt), tt)
went_good p s c host _ k fits r i (steps.deletes _ _ _ _) = (reply_fits ok c.transaction [] [] ok_fits r.transaction_fits (omega arith, tt), i)
went_good p s c host _ k fits r i (steps.gives _ _ _ _ _ _) = (
  reply_fits ok c.transaction _ [] ok_fits r.transaction_fits
      (omega arith, (omega arith, (told_fits (parameter 2 c) (parameter_fits c 1 (omega arith) r), (omega (arith, fits.next_bound), tt)))),
  i,
)
went_good p s c host _ k fits r i (steps.brings _ _ _ _) = (reply_fits ok c.transaction [] [] ok_fits r.transaction_fits (omega arith, tt), i)

closed_good : (p : Storages) (c : Command) (a : Answer) → RealCommand c → WentClosed p c a → Good a
closed_good p c _ r (steps.WentClosed.refuses f h _) = plain_good f p Closed c r h tt
closed_good p c _ r (steps.WentClosed.tells e) = (reply_fits ok c.transaction [] _ ok_fits r.transaction_fits (omega arith, tt), tt)
closed_good p c _ r (steps.WentClosed.opens e l) = (reply_fits ok c.transaction [] [] ok_fits r.transaction_fits (omega arith, tt), parameter_fits c 0 (omega arith) r)

spared_good : (p : Storages) (s : Session) (c : Command) (a : Answer) → RealCommand c → IdFits s → Spared p c s a → Good a
spared_good p _ c _ r i (steps.Spared.closed f h) = plain_good f p Closed c r h tt
spared_good p _ c _ r i (steps.Spared.stopped s f t w) = stopped_good p s c f t r i w
spared_good p _ c _ r i (steps.Spared.passed s w) = plain_good TransactionCancelled p (Open (moved s)) c r refl i

-- over lists of calls
call_good : (p : Storages) (s : Session) (x : Call) → SoundStorages p → SessionFits p s → IdFits s → RealCall x
    → AllByRecursion ReplyFits (replies_in (event (record { storages = p; session = s }) x ∷ [])) × IdFits (next_state (record { storages = p; session = s }) x).session
unfolding unplugged
call_good p Closed (answer c host room) k f i r = let g = closed_good p c _ r.0 (closed_went p c room host) in ((g.0, tt), g.1)
call_good p (Open s) (answer c host room) k f i r = let g = went_good p s c host _ k f r.0 i (open_went p s c host room f) in ((g.0, tt), g.1)
call_good p s (cancel c) k f i r = let g = spared_good p s c _ r i (cancel_went p c s) in ((g.0, tt), g.1)
call_good p s unplug k f i r = (tt, tt)

-- the replies of a first event and of the rest
replies_first : (b : State) (x : Call) (es : List Event) → AllByRecursion ReplyFits (replies_in (event b x ∷ []))
    → AllByRecursion ReplyFits (replies_in es) → AllByRecursion ReplyFits (replies_in (event b x ∷ es))
replies_first b (answer c host room) es h r = (h.0, r)
replies_first b (cancel c) es h r = (h.0, r)
replies_first b unplug es h r = r

all_fit : (b : State) (calls : List Call) → SoundStorages b.storages → StateFits b → IdFits b.session → Real calls → AllByRecursion ReplyFits (replies b calls)
all_fit b [] k f i r = tt
all_fit b (x ∷ xs) k f i r =
    let g = call_good b.storages b.session x k f i r.0 in
    let l = call_leads b.storages b.session x k f in
    replies_first b x (history (next_state b x) xs) g.0 (all_fit (next_state b x) xs l.sound l.fits g.1 r.1)

pub responses_tell_replies : ResponsesTellReplies
responses_tell_replies = record { read = read_back; pinned = pinned; fit = λ p k calls r. all_fit (fresh p) calls k tt tt r; same = same_reply }
