-- What the store in an image holds.
use Rattle.std.specs.Prelude.{ℕ, Bool, false, ◌&&◌, List, [], length, Ok, Err, Result, ◌==◌}
use Rattle.store.specs.Contents.{Contents, total}
use Rattle.image_format.specs.Parsed.{parsed, full_of}
use Rattle.image_format.specs.declared.fault.SpoiltImage.{SpoiltImage}

abbrev pub held_by : Result Contents SpoiltImage → Contents
held_by (Ok c) = full_of c.files
held_by (Err e) = full_of []

-- what an image holds; a refused one holds nothing. The store is full in either case
abbrev pub held : List ℕ → Contents
held image = held_by (parsed image)

-- whether the image was accepted
abbrev pub verdict_of : Result Contents SpoiltImage → Result (Unit {0}) SpoiltImage
verdict_of (Ok c) = Ok tt
verdict_of (Err e) = Err e

abbrev pub accepted_with : Result Contents SpoiltImage → ℕ → ℕ → Bool
accepted_with (Ok c) count sum = length c.files == count && total c.files == sum
accepted_with (Err e) count sum = false

-- the image is accepted, and has this many files and bytes
abbrev pub holds : List ℕ → ℕ → ℕ → Bool
holds image count sum = accepted_with (parsed image) count sum
