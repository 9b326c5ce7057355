-- The rows of a table after one is put in or taken out.
use Rattle.std.specs.Prelude.{ℕ, ◌+◌, List, ◌∷◌, ◌++◌, take, drop, sum_by}
use Rattle.table.specs.declared.place.Place.{Place}

-- the table with `place` at i, and those of the first `count` rows from there on one further; the row at `count` is lost
abbrev pub rows_with : List Place → ℕ → ℕ → Place → List Place
rows_with ps count i place = take i ps ++ (place ∷ (drop i (take count ps) ++ drop (count + 1) ps))

-- the table with the row at i taken out of the first `count`: it is now the first of the spare rows
abbrev pub rows_without : List Place → ℕ → ℕ → List Place
rows_without ps count i = take i ps ++ (drop (i + 1) (take count ps) ++ (take 1 (drop i ps) ++ drop count ps))

-- how many bytes the files of these rows have
abbrev pub lengths_in : List Place → ℕ
lengths_in ps = sum_by (λ p. p.file.length) ps
