-- Objects and their handles, as the laws speak of them.
use Rattle.std.specs.Prelude.{◌≡◌, ℕ, ◌+◌, ◌⊎◌, List, [], ◌∷◌, Some}
use Rattle.store.specs.Contents.{File, lookup}
use Rattle.protocol.specs.Storages.{Storages}

-- h is the handle of the number n on a storage: the number, plus 0x80000000 on the second storage
abbrev pub Handle : ℕ → ℕ → ℕ → Type 0
Handle storage n h = ((storage ≡ 0x00010001) × (h ≡ n)) ⊎ ((storage ≡ 0x00020001) × (h ≡ 0x80000000 + n))

-- a storage holds a file under a number
abbrev pub Holds : Storages → ℕ → ℕ → File → Type 0
Holds p storage n f =
    ((storage ≡ 0x00010001) × (lookup n p.first.files ≡ Some f)) ⊎ ((storage ≡ 0x00020001) × (lookup n p.second.files ≡ Some f))

-- h is the handle of the file f, which a storage holds
pub record Object (p : Storages) (h storage : ℕ) (f : File) : Type 0 where
  pub number : ℕ
  pub handle : Handle storage number h
  pub held : Holds p storage number f

-- a number is in a list
abbrev pub In : ℕ → List ℕ → Type 0
In n [] = ⊥
In n (m ∷ ms) = (m ≡ n) ⊎ In n ms
