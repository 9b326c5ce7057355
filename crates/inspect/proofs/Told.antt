-- The rows of a walk over the files of a store.
use Rattle.std.proofs.Common.{◌≡◌, ℕ, List, [], ◌∷◌, map, refl, ap}
use Rattle.store.specs.Contents.{Entry}
use Rattle.store.specs.Walks.{told}
use Rattle.store.specs.declared.info.FileInfo.{FileInfo}
use Rattle.inspect.specs.Listed.{Fields, info_fields, entry_fields, listed}

-- a file as a walk tells it
abbrev pub told_fields : ℕ × FileInfo → Fields
told_fields p = info_fields p.0 p.1

pub told_listed : (es : List Entry) → map told_fields (told es) ≡ listed es
told_listed [] = refl
told_listed (e ∷ es) = ap (λ fs. entry_fields e ∷ fs) (told_listed es)
