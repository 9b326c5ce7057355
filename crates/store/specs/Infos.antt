-- What a store tells of a file.
use Rattle.std.specs.Prelude.{ℕ, List, length, Option}
use Rattle.std.specs.Option.{option_map}
use Rattle.store.specs.declared.info.FileInfo.{FileInfo}
use Rattle.store.specs.declared.info.NewFile.{NewFile}
use Rattle.store.specs.Contents.{File, Entry, lookup}

abbrev pub info_of : File → FileInfo
info_of f =
    record { format = f.format; protection = f.protection; parent = f.parent; name = f.name; length = length f.bytes }

-- the file to be added, with so many bytes
abbrev pub with_length : NewFile → ℕ → FileInfo
with_length f length = record { format = f.format; protection = f.protection; parent = f.parent; name = f.name; length = length }

abbrev pub described : ℕ → List Entry → Option FileInfo
described n es = option_map info_of (lookup n es)
