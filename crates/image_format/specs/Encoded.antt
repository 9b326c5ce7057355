-- Files as fields: what an image is made of.
use Rattle.std.specs.Prelude.{ℕ, List, [], ◌∷◌, ◌++◌, length}
use Rattle.byte_parts.specs.Numbers.{le}
use Rattle.object.specs.Formats.{format_number}
use Rattle.object.specs.Names.{units_of, unit_bytes}
use Rattle.store.specs.Contents.{File, Entry}

-- a tag, the content's length, the content
abbrev pub field : ℕ → List ℕ → List ℕ
field tag content = tag ∷ (le 2 (length content) ++ content)

-- the tags of a file's three fields
abbrev pub head_tag : ℕ
head_tag = 0x01

abbrev pub name_tag : ℕ
name_tag = 0x02

abbrev pub body_tag : ℕ
body_tag = 0x03

-- the number, the parent and the format
abbrev pub head_bytes : ℕ → File → List ℕ
head_bytes n f = le 4 n ++ (le 4 f.parent ++ le 2 (format_number f.format))

abbrev pub file_fields : Entry → List ℕ
file_fields e =
    field head_tag (head_bytes e.number e.file)
    ++ (field name_tag (unit_bytes (units_of e.file.name)) ++ field body_tag e.file.bytes)

-- the fields of all files, one behind the other
abbrev pub image_of : List Entry → List ℕ
image_of [] = []
image_of (e ∷ es) = file_fields e ++ image_of es
