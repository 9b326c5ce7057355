-- What is listed of a store: each file once, in ascending number.
use Rattle.std.specs.Prelude.{ℕ, List, map}
use Rattle.object.specs.declared.format.Format.{Format}
use Rattle.object.specs.declared.protection.Protection.{Protection}
use Rattle.store.specs.declared.info.FileInfo.{FileInfo}
use Rattle.store.specs.Contents.{Entry}
use Rattle.store.specs.Infos.{info_of}
use Rattle.inspect.specs.declared.listing.Row.{Row}

-- a row but for its path
pub record Fields : Type 0 where
  pub number : ℕ
  pub format : Format
  pub length : ℕ
  pub protection : Protection

abbrev pub row_fields : Row → Fields
row_fields row = record { number = row.number; format = row.format; length = row.length; protection = row.protection }

abbrev pub info_fields : ℕ → FileInfo → Fields
info_fields n info = record { number = n; format = info.format; length = info.length; protection = info.protection }

abbrev pub entry_fields : Entry → Fields
entry_fields e = info_fields e.number (info_of e.file)

-- the listing of these files
abbrev pub listed : List Entry → List Fields
listed es = map entry_fields es
