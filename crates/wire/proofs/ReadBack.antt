-- What is written is read back: containers, arrays and strings.
use Rattle.std.proofs.Common.{◌≡◌, ℕ, zero, suc, ◌+◌, ◌-◌, ◌*◌, ◌/◌, ◌%◌, ◌^◌, ◌<◌, ◌≤◌, Bool, true, false, cond, ◌&&◌, eqb, leb, List, [], ◌∷◌, ◌++◌, length, take, drop, Some, None, Option, sym, refl, ap, ◌∙◌, subst, append_assoc, arith}
use Rattle.std.specs.List.{AllByRecursion}
use Rattle.std.proofs.lemmas.List.{append-nil, take_at, drop_at, drop-drop, take-append-drop, length-drop, length-take-le}
use Rattle.std.proofs.ByRecursion.{All-take, All-drop}
use Rattle.std.proofs.lemmas.Bool.{eq-eqb, ne_eqb, eqb-true, le-leb, leb-true, and_from, and_parts, cond-true, cond-false}
use Rattle.byte_parts.specs.Numbers.{Bytes, le, value}
use Rattle.byte_parts.proofs.Cutting.{none_some, some_same, through}
use Rattle.byte_parts.proofs.LittleEndian.{length_le, value_le, value_bound, le_value}
use Rattle.object.specs.Names.{unit_bytes}
use Rattle.wire.specs.Containers.{number_at, numbers, container, is_container, is_command, is_data, command_type, data_type, response_type, command_in, payload_in, data_container}
use Rattle.wire.specs.Laws.{UnitFits, StringsReadBack, five, Carried, CommandsReadBack, DataReadsBack, HeadsJoin, ResponseFits, response_bytes, ResponsesReadBack, ArraysReadBack}
use Rattle.wire.specs.Readers.{number_list, Response, response_in, array_in}
use Rattle.wire.specs.Strings.{string, Read, with_unit, closed_units, string_in, array}
use Rattle.wire.specs.declared.command.Command.{Command}
use Rattle.wire.proofs.Placed.{head_joins, length_array}
use Rattle.wire.proofs.Puts.{length_numbers}

-- the fields of a container
module _ (kind code transaction : ℕ) (payload : List ℕ) where
  pub kind_back : kind < 2 ^ 16 → 12 + length payload < 2 ^ 32 → is_container kind (container kind code transaction payload) ≡ true
  unfolding container
  kind_back h k =
      and_from _ _ (le-leb 12 (length (container kind code transaction payload)) (omega arith))
      (and_from _ _ (eq-eqb _ _ (value_le 4 (12 + length payload) k ∙ omega arith)) (eq-eqb _ _ (value_le 2 kind h)))

  pub code_back : code < 2 ^ 16 → number_at 2 6 (container kind code transaction payload) ≡ code
  unfolding container
  code_back h = value_le 2 code h

  pub transaction_back : transaction < 2 ^ 32 → number_at 4 8 (container kind code transaction payload) ≡ transaction
  unfolding container
  transaction_back h = value_le 4 transaction h

  pub payload_back : drop 12 (container kind code transaction payload) ≡ payload
  unfolding container
  payload_back = refl

  pub container_length : length (container kind code transaction payload) ≡ 12 + length payload
  unfolding container
  container_length = omega arith

data_back : (code transaction : ℕ) (payload : List ℕ) → code < 2 ^ 16 → transaction < 2 ^ 32 → 12 + length payload < 2 ^ 32 → payload_in code transaction (data_container code transaction payload) ≡ Some payload
unfolding payload_in
data_back code transaction payload h k l =
    cond-true _ _ _
    (and_from _ _ (kind_back data_type code transaction payload (omega arith) l)
    (and_from _ _ (eq-eqb _ _ (code_back data_type code transaction payload h)) (eq-eqb _ _ (transaction_back data_type code transaction payload k))))
    ∙ ap Some (payload_back data_type code transaction payload)

pub heads_join : HeadsJoin
heads_join code transaction payload = head_joins data_type code transaction payload

-- numbers of k bytes
pub numbers_back : (k : ℕ) (ns rest : List ℕ) → AllByRecursion (λ n. n < 256 ^ k) ns → number_list k (length ns) (numbers k ns ++ rest) ≡ ns
numbers_back k [] rest h = refl
numbers_back k (n ∷ ns) rest h =
    let e = append_assoc (le k n) (numbers k ns) rest in
    λ i. (ap (λ l. value (take k l)) e ∙ ap value (take_at (le k n) (numbers k ns ++ rest) k (length_le k n)) ∙ value_le k n h.0) i
    ∷ (ap (λ l. number_list k (length ns) (drop k l)) e ∙ ap (number_list k (length ns)) (drop_at (le k n) (numbers k ns ++ rest) k (length_le k n)) ∙ numbers_back k ns rest h.1) i

pub list_back : (k : ℕ) (ns : List ℕ) → AllByRecursion (λ n. n < 256 ^ k) ns → number_list k (length ns) (numbers k ns) ≡ ns
list_back k ns h = ap (number_list k (length ns)) (sym (append-nil (numbers k ns))) ∙ numbers_back k ns [] h

pub array_back : ArraysReadBack
unfolding array_in array
array_back k ns h l =
    let bs = array k ns in
    let e : number_at 4 0 bs ≡ length ns = value_le 4 (length ns) l in
    let a = length_array k ns in
    cond-true _ _ _ (and_from _ _ (le-leb 4 (length bs) (omega arith)) (eq-eqb (length bs) _ (a ∙ ap (λ n. 4 + k * n) (sym e))))
    ∙ ap Some (ap (λ n. number_list k n (numbers k ns)) e ∙ list_back k ns h)

pub response_back : (r : Response) → ResponseFits r → response_in (response_bytes r) ≡ Some r
unfolding response_in
response_back r f =
    let ps = r.parameters in
    let bs = response_bytes r in
    let long = length_numbers 4 ps in
    let whole = container_length response_type r.code r.transaction (numbers 4 ps) in
    let count : (length bs - 12) / 4 ≡ length ps = omega (arith, f.few) in
    cond-true _ _ _
    (and_from _ _ (kind_back response_type r.code r.transaction (numbers 4 ps) (omega arith) (omega (arith, f.few)))
    (and_from _ _ (le-leb (length bs) 32 (omega (arith, f.few))) (eq-eqb _ 0 (omega (arith, f.few)))))
    ∙ (λ i. Some (record {
      code = code_back response_type r.code r.transaction (numbers 4 ps) f.code i;
      transaction = transaction_back response_type r.code r.transaction (numbers 4 ps) f.transaction i;
      parameters = (ap (number_list 4 ((length bs - 12) / 4)) (payload_back response_type r.code r.transaction (numbers 4 ps)) ∙ ap (λ n. number_list 4 n (numbers 4 ps)) count ∙ list_back 4 ps f.parameters) i;
    }))

-- the five parameters of a command
abbrev at_places : List ℕ → List ℕ
at_places bs = number_at 4 12 bs ∷ number_at 4 16 bs ∷ number_at 4 20 bs ∷ number_at 4 24 bs ∷ number_at 4 28 bs ∷ []

five_back : (code transaction : ℕ) (ps : List ℕ) → AllByRecursion (λ p. p < 2 ^ 32) ps → length ps ≤ 5 → at_places (container command_type code transaction (numbers 4 ps)) ≡ five ps
unfolding container
five_back code transaction [] h l = refl
five_back code transaction (a ∷ []) h l = λ i. value_le 4 a h.0 i ∷ 0 ∷ 0 ∷ 0 ∷ 0 ∷ []
five_back code transaction (a ∷ b ∷ []) h l = λ i. value_le 4 a h.0 i ∷ value_le 4 b h.1.0 i ∷ 0 ∷ 0 ∷ 0 ∷ []
five_back code transaction (a ∷ b ∷ c ∷ []) h l = λ i. value_le 4 a h.0 i ∷ value_le 4 b h.1.0 i ∷ value_le 4 c h.1.1.0 i ∷ 0 ∷ 0 ∷ []
five_back code transaction (a ∷ b ∷ c ∷ d ∷ []) h l = λ i. value_le 4 a h.0 i ∷ value_le 4 b h.1.0 i ∷ value_le 4 c h.1.1.0 i ∷ value_le 4 d h.1.1.1.0 i ∷ 0 ∷ []
five_back code transaction (a ∷ b ∷ c ∷ d ∷ e ∷ []) h l = λ i. value_le 4 a h.0 i ∷ value_le 4 b h.1.0 i ∷ value_le 4 c h.1.1.0 i ∷ value_le 4 d h.1.1.1.0 i ∷ value_le 4 e h.1.1.1.1.0 i ∷ []
five_back code transaction (a ∷ b ∷ c ∷ d ∷ e ∷ f ∷ ps) h l = absurd (omega arith)

command_back : (code transaction : ℕ) (ps : List ℕ) → code < 2 ^ 16 → transaction < 2 ^ 32 → AllByRecursion (λ p. p < 2 ^ 32) ps → length ps ≤ 5 → command_in (container command_type code transaction (numbers 4 ps)) ≡ Some (record { code = code; transaction = transaction; parameters = five ps })
unfolding command_in
command_back code transaction ps h k p l =
    let bs = container command_type code transaction (numbers 4 ps) in
    let long = length_numbers 4 ps in
    let whole = container_length command_type code transaction (numbers 4 ps) in
    cond-true _ _ _
    (and_from _ _ (kind_back command_type code transaction (numbers 4 ps) (omega arith) (omega arith))
    (and_from _ _ (le-leb (length bs) 32 (omega arith)) (eq-eqb _ 0 (omega arith))))
    ∙ (λ i. Some (record {
      code = code_back command_type code transaction (numbers 4 ps) h i;
      transaction = transaction_back command_type code transaction (numbers 4 ps) k i;
      parameters = five_back code transaction ps p l i;
    }))

-- the bytes at a place are those of the number there
field : (k place : ℕ) (bs : List ℕ) → Bytes bs → place + k ≤ length bs → drop place bs ≡ le k (number_at k place bs) ++ drop (place + k) bs
field k place bs h l =
    let part = take k (drop place bs) in
    let d = length-drop place bs in
    let long : length part ≡ k = length-take-le k (drop place bs) (omega arith) in
    let bytes = All-take (λ b. b < 256) k (drop place bs) (All-drop (λ b. b < 256) place bs h) in
    sym (take-append-drop k (drop place bs))
    ∙ (λ i. (sym (le_value part bytes) ∙ ap (λ n. le n (value part)) long) i ++ drop-drop k place bs i)

-- whatever is taken for a container is the container of its fields
container_only : (kind : ℕ) (bs : List ℕ) → Bytes bs → is_container kind bs ≡ true → bs ≡ container kind (number_at 2 6 bs) (number_at 4 8 bs) (drop 12 bs)
unfolding container
container_only kind bs h e =
    let p = and_parts (leb 12 (length bs)) _ e in
    let q = and_parts (eqb (number_at 4 0 bs) (length bs)) _ p.1 in
    let l = leb-true 12 (length bs) p.0 in
    let d = length-drop 12 bs in
    let whole : number_at 4 0 bs ≡ 12 + length (drop 12 bs) = eqb-true (number_at 4 0 bs) (length bs) q.0 ∙ omega arith in
    let same : number_at 2 4 bs ≡ kind = eqb-true (number_at 2 4 bs) kind q.1 in
    field 4 0 bs h (omega arith)
    ∙ (λ i. le 4 (whole i) ++ (field 2 4 bs h (omega arith) ∙ (λ j. le 2 (same j) ++ (field 2 6 bs h (omega arith) ∙ ap (λ r. le 2 (number_at 2 6 bs) ++ r) (field 4 8 bs h (omega arith))) j)) i)

-- bytes in fours are the numbers in them
numbers_only : (n : ℕ) (bs : List ℕ) → Bytes bs → length bs ≡ 4 * n → numbers 4 (number_list 4 n bs) ≡ bs
numbers_only zero [] h l = refl
numbers_only zero (b ∷ bs) h l = absurd (omega arith)
numbers_only (suc n) bs h l =
    let d = length-drop 4 bs in
    sym (field 4 0 bs h (omega arith) ∙ ap (λ r. le 4 (value (take 4 bs)) ++ r) (sym (numbers_only n (drop 4 bs) (All-drop (λ b. b < 256) 4 bs h) (omega arith))))

-- numbers of a list, one more place at a time
length_list : (k n : ℕ) (bs : List ℕ) → length (number_list k n bs) ≡ n
length_list k zero bs = refl
length_list k (suc n) bs = ap suc (length_list k n (drop k bs))

data_only : (code transaction : ℕ) (bs payload : List ℕ) → Bytes bs → payload_in code transaction bs ≡ Some payload → bs ≡ data_container code transaction payload
unfolding payload_in
data_only code transaction bs payload h e =
    let p = through (is_data code transaction bs) (drop 12 bs) payload e in
    let q = and_parts (is_container data_type bs) _ p.0 in
    let r = and_parts (eqb (number_at 2 6 bs) code) _ q.1 in
    container_only data_type bs h q.0
    ∙ (λ i. container data_type (eqb-true (number_at 2 6 bs) code r.0 i) (eqb-true (number_at 4 8 bs) transaction r.1 i) (p.1 i))

pub data_law : DataReadsBack
data_law = record { back = data_back; only = data_only }

numbers_fit : (n : ℕ) (bs : List ℕ) → Bytes bs → length bs ≡ 4 * n → AllByRecursion (λ p. p < 2 ^ 32) (number_list 4 n bs)
numbers_fit zero bs h l = tt
numbers_fit (suc n) bs h l =
    let d = length-drop 4 bs in
    let bound : value (take 4 bs) < 256 ^ 4 =
    subst (λ k. value (take 4 bs) < 256 ^ k) (length-take-le 4 bs (omega arith)) (value_bound (take 4 bs) (All-take (λ b. b < 256) 4 bs h)) in
    (bound, numbers_fit n (drop 4 bs) (All-drop (λ b. b < 256) 4 bs h) (omega arith))

-- the payload of a container whose length is a multiple of 4 is numbers
module _ (bs : List ℕ) (h : Bytes bs) (l : 12 ≤ length bs) (s : length bs ≤ 32) (m : length bs % 4 ≡ 0) where
  pub all_fit : AllByRecursion (λ p. p < 2 ^ 32) (number_list 4 ((length bs - 12) / 4) (drop 12 bs))
  all_fit =
      let d = length-drop 12 bs in
      numbers_fit ((length bs - 12) / 4) (drop 12 bs) (All-drop (λ b. b < 256) 12 bs h) (omega arith)

  pub at_most_five : length (number_list 4 ((length bs - 12) / 4) (drop 12 bs)) ≤ 5
  at_most_five = let e = length_list 4 ((length bs - 12) / 4) (drop 12 bs) in omega arith

  pub in_fours : numbers 4 (number_list 4 ((length bs - 12) / 4) (drop 12 bs)) ≡ drop 12 bs
  in_fours =
      let d = length-drop 12 bs in
      numbers_only ((length bs - 12) / 4) (drop 12 bs) (All-drop (λ b. b < 256) 12 bs h) (omega arith)

response_only : (bs : List ℕ) (r : Response) → Bytes bs → response_in bs ≡ Some r → bs ≡ response_bytes r
unfolding response_in
response_only bs r h e =
    let x : Response = record { code = number_at 2 6 bs; transaction = number_at 4 8 bs; parameters = number_list 4 ((length bs - 12) / 4) (drop 12 bs) } in
    let p = through (is_container response_type bs && (leb (length bs) 32 && eqb (length bs % 4) 0)) x r e in
    let q = and_parts (is_container response_type bs) _ p.0 in
    let w = and_parts (leb (length bs) 32) _ q.1 in
    let l = leb-true 12 (length bs) (and_parts (leb 12 (length bs)) _ q.0).0 in
    container_only response_type bs h q.0
    ∙ ap (λ ps. container response_type (number_at 2 6 bs) (number_at 4 8 bs) ps) (sym (in_fours bs h l (leb-true (length bs) 32 w.0) (eqb-true (length bs % 4) 0 w.1)))
    ∙ ap response_bytes p.1

pub responses_back : ResponsesReadBack
responses_back =
    record {
      back = response_back;
      only = response_only;
      one = λ r s f g e. some_same (sym (response_back r f) ∙ ap response_in e ∙ response_back s g);
    }

command_only : (bs : List ℕ) (c : Command) → Bytes bs → command_in bs ≡ Some c → Carried bs c
unfolding command_in
command_only bs c h e =
    let x : Command = record { code = number_at 2 6 bs; transaction = number_at 4 8 bs; parameters = at_places bs } in
    let p = through (is_command bs) x c e in
    let q = and_parts (is_container command_type bs) _ p.0 in
    let w = and_parts (leb (length bs) 32) _ q.1 in
    let l = leb-true 12 (length bs) (and_parts (leb 12 (length bs)) _ q.0).0 in
    let s = leb-true (length bs) 32 w.0 in
    let m = eqb-true (length bs % 4) 0 w.1 in
    let ps = number_list 4 ((length bs - 12) / 4) (drop 12 bs) in
    let is : bs ≡ container command_type (number_at 2 6 bs) (number_at 4 8 bs) (numbers 4 ps) =
    container_only command_type bs h q.0 ∙ ap (λ r. container command_type (number_at 2 6 bs) (number_at 4 8 bs) r) (sym (in_fours bs h l s m)) in
    record {
      parameters = ps;
      few = at_most_five bs h l s m;
      missing = ap (λ d. d.parameters) (sym p.1) ∙ ap at_places is ∙ five_back (number_at 2 6 bs) (number_at 4 8 bs) ps (all_fit bs h l s m) (at_most_five bs h l s m);
      is = is ∙ ap (λ d. container command_type d.code d.transaction (numbers 4 ps)) p.1;
    }

pub commands_law : CommandsReadBack
commands_law = record { back = command_back; only = command_only }

-- strings
unit_value : (u : ℕ) → u < 2 ^ 16 → u % 256 + 256 * (u / 256 % 256) ≡ u
unit_value u h = omega arith

closed_back : (us rest : List ℕ) → AllByRecursion UnitFits us → closed_units (length us) ((unit_bytes us ++ (0 ∷ 0 ∷ [])) ++ rest) ≡ Some (record { units = us; rest = rest })
closed_back [] rest h = refl
closed_back (u ∷ us) rest h =
    let e = unit_value u h.0.1 in
    cond-false _ _ _ (ne_eqb (u % 256 + 256 * (u / 256 % 256)) 0 (λ z. let p = h.0.0 in omega (arith, e)))
    ∙ (λ i. with_unit (e i) (closed_back us rest h.1 i))

pub string_back : (us rest : List ℕ) → AllByRecursion UnitFits us → string_in (string us ++ rest) ≡ Some (record { units = us; rest = rest })
string_back [] rest h = refl
string_back (u ∷ us) rest h = closed_back (u ∷ us) rest h

-- the bytes that units were read from
record Closed (n : ℕ) (bs : List ℕ) (r : Read) : Type 0 where
  is : bs ≡ (unit_bytes r.units ++ (0 ∷ 0 ∷ [])) ++ r.rest
  long : length r.units ≡ n

closed_only : (n : ℕ) (bs : List ℕ) (r : Read) → Bytes bs → closed_units n bs ≡ Some r → Closed n bs r
closed_only n [] r h e = absurd (none_some e)
closed_only n (a ∷ []) r h e = absurd (none_some e)
closed_only zero (a ∷ b ∷ bs) r h e =
    let p = through (eqb (a + 256 * b) 0) (record { units = []; rest = bs }) r e in
    let z = eqb-true (a + 256 * b) 0 p.0 in
    let x : a ≡ 0 = omega arith in
    let y : b ≡ 0 = omega arith in
    record {
      is = (λ i. x i ∷ y i ∷ bs) ∙ ap (λ q. (unit_bytes q.units ++ (0 ∷ 0 ∷ [])) ++ q.rest) p.1;
      long = ap (λ q. length q.units) (sym p.1);
    }
closed_only (suc n) (a ∷ b ∷ bs) r h e = by (eqb (a + 256 * b) 0) (closed_units n bs) refl e (λ s q. closed_only n bs s h.1.1 q)
  where
    low : (a + 256 * b) % 256 ≡ a
    low = omega (arith, h.0, h.1.0)

    high : (a + 256 * b) / 256 % 256 ≡ b
    high = omega (arith, h.0, h.1.0)

    by : (t : Bool) (o : Option Read) → closed_units n bs ≡ o → cond t None (with_unit (a + 256 * b) o) ≡ Some r → ((s : Read) → closed_units n bs ≡ Some s → Closed n bs s) → Closed (suc n) (a ∷ b ∷ bs) r
    by true o q p f = absurd (none_some p)
    by false None q p f = absurd (none_some p)
    by false (Some s) q p f =
        let c = f s q in
        let w = some_same p in
        record {
          is = (λ i. sym low i ∷ sym high i ∷ c.is i) ∙ ap (λ t. (unit_bytes t.units ++ (0 ∷ 0 ∷ [])) ++ t.rest) w;
          long = ap (λ t. length t.units) (sym w) ∙ ap suc c.long;
        }

string_only : (bs : List ℕ) (r : Read) → Bytes bs → string_in bs ≡ Some r → bs ≡ string r.units ++ r.rest
string_only [] r h e = absurd (none_some e)
string_only (zero ∷ bs) r h e = ap (λ q. string q.units ++ q.rest) (some_same e)
string_only (suc zero ∷ bs) r h e = absurd (none_some e)
string_only (suc (suc n) ∷ bs) r h e = by r.units c.is c.long
  where
    c : Closed (suc n) bs r
    c = closed_only (suc n) bs r h.1 e

    by : (us : List ℕ) → bs ≡ (unit_bytes us ++ (0 ∷ 0 ∷ [])) ++ r.rest → length us ≡ suc n → suc (suc n) ∷ bs ≡ string us ++ r.rest
    by [] q l = absurd (omega arith)
    by (u ∷ us) q l = let m : suc n ≡ suc (length us) = sym l in λ i. suc (m i) ∷ q i

pub strings_back : StringsReadBack
strings_back = record { back = string_back; only = string_only }
