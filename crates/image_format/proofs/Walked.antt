-- Walking over an image visits the files that it holds.
use Rattle.std.proofs.Common.{◌≡◌, ℕ, Bool, true, false, cond, ltb, List, [], ◌∷◌, ◌++◌, length, Some, None, Ok, Option, sym, refl, ap, ◌∙◌, subst}
use Rattle.object.specs.Names.{name_in}
use Rattle.object.specs.declared.protection.Protection.TheVariants.{ReadOnly}
use Rattle.store.specs.Contents.{Entry}
use Rattle.image_format.specs.Encoded.{name_tag, body_tag}
use Rattle.image_format.specs.Parsed.{bind, cut_field, head_in, file_by}
use Rattle.image_format.specs.Walk.{Plain, cut_record, sought}
use Rattle.image_format.specs.declared.field.Head.{Head}
use Rattle.image_format.proofs.Entries.{first_above}
use Rattle.image_format.proofs.Inverted.{head_of, file_read}

-- a file as it lies in an image
pub record Lies (p : Plain) (e : Entry) : Type 0 where
  pub head : p.head ≡ head_of e
  pub name : name_in p.name ≡ Some e.file.name
  pub body : p.body ≡ e.file.bytes
  pub protected : e.file.protection ≡ ReadOnly

-- the file at the front of bs, and what lies behind it
pub record Next (bs : List ℕ) (e : Entry) (behind : List ℕ) : Type 0 where
  pub plain : Plain
  pub cut : cut_record bs ≡ Some (plain, behind)
  pub lies : Lies plain e

-- the files at the front of bs, and what lies behind them
abbrev pub Walked : List ℕ → List Entry → List ℕ → Type 0
Walked bs [] rest = bs ≡ rest
Walked bs (e ∷ es) rest = (behind : List ℕ) × Next bs e behind × Walked behind es rest

pub walked_push : (bs : List ℕ) (es : List Entry) (rest : List ℕ) (e : Entry) (behind : List ℕ) → Walked bs es rest → Next rest e behind → Walked bs (es ++ (e ∷ [])) behind
walked_push bs [] rest e behind w n = (behind, subst (λ xs. Next xs e behind) (sym w) n, refl)
walked_push bs (x ∷ es) rest e behind w n = (w.0, w.1, walked_push w.0 es rest e behind w.2 n)

-- what the walk finds, by the files
abbrev pub Finds : Option Plain → Option Entry → Type 0
Finds None None = Unit {0}
Finds None (Some e) = ⊥
Finds (Some p) None = ⊥
Finds (Some p) (Some e) = Lies p e

pub sought_walked : (n : ℕ) (bs : List ℕ) (es : List Entry) (rest : List ℕ) → Walked bs es rest → Finds (sought (length es) bs n) (first_above n es)
sought_walked n bs [] rest w = tt
sought_walked n bs (e ∷ es) rest w =
    let x = w.1 in
    subst (λ o. Finds (bind o (λ f. cond (ltb n f.0.head.number) (Some f.0) (sought (length es) f.1 n))) (first_above n (e ∷ es))) (sym x.cut)
    (subst (λ h. Finds (cond (ltb n h.number) (Some x.plain) (sought (length es) w.0 n)) (first_above n (e ∷ es))) (sym x.lies.head)
    (by x.plain x.lies (sought (length es) w.0 n) (sought_walked n w.0 es rest w.2) (ltb n e.number)))
  where
    by : (p : Plain) → Lies p e → (o : Option Plain) → Finds o (first_above n es) → (t : Bool) → Finds (cond t (Some p) o) (cond t (Some e) (first_above n es))
    by p l o r true = l
    by p l o r false = r

-- a file that was read lies there
pub file_next : (test : Head → Bool) (size : ℕ) (rest : List ℕ) (e : Entry) (behind : List ℕ) → file_by test size rest ≡ Ok (e, behind) → Next rest e behind
file_next test size rest e behind q =
    let r = file_read test size rest e behind q in
    record {
      plain = record { head = head_of e; name = r.name_content; body = e.file.bytes };
      cut =
          ap (λ o. bind o (λ h. bind (head_in h.0) (λ head. bind (cut_field name_tag h.1) (λ n. bind (cut_field body_tag n.1) (λ b. Some (record { head = head; name = n.0; body = b.0 }, b.1)))))) r.head_cut
          ∙ ap (λ o. bind o (λ head. bind (cut_field name_tag r.names) (λ n. bind (cut_field body_tag n.1) (λ b. Some (record { head = head; name = n.0; body = b.0 }, b.1))))) r.head_is
          ∙ ap (λ o. bind o (λ n. bind (cut_field body_tag n.1) (λ b. Some (record { head = head_of e; name = n.0; body = b.0 }, b.1)))) r.name_cut
          ∙ ap (λ o. bind o (λ b. Some (record { head = head_of e; name = r.name_content; body = b.0 }, b.1))) r.body_cut;
      lies = record { head = refl; name = r.name_is; body = refl; protected = r.protected };
    }
