-- What the next-file question leads through.
use Rattle.std.specs.Prelude.{ℕ, cond, List, [], ◌∷◌, map, nat_lt}
use Rattle.store.specs.Contents.{Entry}
use Rattle.store.specs.Infos.{info_of}
use Rattle.store.specs.declared.info.FileInfo.{FileInfo}

-- the files from the first number above n on
abbrev pub above : ℕ → List Entry → List Entry
above n [] = []
above n (e ∷ es) = cond (nat_lt n e.number) (e ∷ es) (above n es)

abbrev pub numbers : List Entry → List ℕ
numbers es = map (λ (e : Entry). e.number) es

-- each file's number, and what is told of it
abbrev pub told : List Entry → List (ℕ × FileInfo)
told es = map (λ (e : Entry). (e.number, info_of e.file)) es
