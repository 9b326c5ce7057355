-- What a store's changes answer and leave.
use Rattle.std.specs.Prelude.{ℕ, List, Ok, Err, Result}
use Rattle.store.specs.declared.fault.StoreFault.{StoreFault}
use Rattle.store.specs.declared.info.NewFile.{NewFile}
use Rattle.store.specs.Contents.{File, Contents}

abbrev pub file_of : NewFile → List ℕ → File
file_of f bytes = record { format = f.format; protection = f.protection; parent = f.parent; name = f.name; bytes = bytes }

-- the answer to a change
abbrev pub result_of : Result Contents StoreFault → Result (Unit {0}) StoreFault
result_of (Ok c) = Ok tt
result_of (Err f) = Err f

-- the contents after a change; a refusal alters nothing
abbrev pub contents_after : Contents → Result Contents StoreFault → Contents
contents_after before (Ok c) = c
contents_after before (Err f) = before
