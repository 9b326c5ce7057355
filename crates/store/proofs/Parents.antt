-- Every chain of parents reaches the root.
use Rattle.std.proofs.Common.{◌≡◌, ℕ, zero, suc, ◌<◌, true, ◌⊎◌, Some, None, Option, sym, refl, subst, inl, inr, arith}
use Rattle.std.proofs.lemmas.Bool.{false≢true}
use Rattle.store.specs.Contents.{File, Contents, lookup}
use Rattle.store.specs.Sound.{Sound, folder_there}
use Rattle.store.specs.Laws.{ReachesRoot, root, step, ParentsLead}
use Rattle.store.proofs.Kept.{parent_cases}

-- by induction on a bound of the number, since a parent's number is smaller
reaches : (c : Contents) → Sound c → (bound n : ℕ) (f : File) → n < bound → lookup n c.files ≡ Some f → ReachesRoot c.files n
reaches c s zero n f l e = absurd (omega arith)
reaches c s (suc bound) n f l e = step n f e (by (λ m g k. reaches c s bound m g k) (parent_cases f.parent c.files (s.parents n f e)))
  where
    there : ((m : ℕ) (g : File) → m < bound → lookup m c.files ≡ Some g → ReachesRoot c.files m)
        → (o : Option File) → lookup f.parent c.files ≡ o → folder_there o ≡ true → ReachesRoot c.files f.parent
    there rest None q t = absurd (false≢true t)
    there rest (Some g) q t = rest f.parent g (omega (arith, s.parents_below n f e)) q

    by : ((m : ℕ) (g : File) → m < bound → lookup m c.files ≡ Some g → ReachesRoot c.files m)
        → (f.parent ≡ 0) ⊎ (folder_there (lookup f.parent c.files) ≡ true) → ReachesRoot c.files f.parent
    by rest (inl q) = subst (λ m. ReachesRoot c.files m) (sym q) root
    by rest (inr t) = there rest (lookup f.parent c.files) refl t

pub parents_lead : ParentsLead
parents_lead = record {
  folders = λ c s n f e. parent_cases f.parent c.files (s.parents n f e);
  chains = λ c s n f e. reaches c s (suc n) n f (omega arith) e;
}
