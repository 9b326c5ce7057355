-- Sample images with what they hold, or where they are wrong: one list, shown by computing.
use Rattle.std.specs.Prelude.{◌≡◌, ℕ, List, [], ◌∷◌, map, Ok, Err, Result}
use Rattle.object.specs.Formats.{format_number}
use Rattle.object.specs.Names.{units_of}
use Rattle.object.specs.Protections.{protection_number}
use Rattle.store.specs.Contents.{Entry, Contents}
use Rattle.image_format.specs.Parsed.{parsed}
use Rattle.image_format.specs.declared.fault.SpoiltImage.{SpoiltImage}

-- a file as plain numbers
pub record Line : Type 0 where
  pub number : ℕ
  pub format : ℕ
  pub protection : ℕ
  pub parent : ℕ
  pub name : List ℕ
  pub bytes : List ℕ

abbrev pub line_of : Entry → Line
line_of e =
    record {
      number = e.number;
      format = format_number e.file.format;
      protection = protection_number e.file.protection;
      parent = e.file.parent;
      name = units_of e.file.name;
      bytes = e.file.bytes;
    }

-- capacity, limit and files
abbrev pub seen : Result Contents SpoiltImage → Result (ℕ × ℕ × List Line) ℕ
seen (Ok c) = Ok (c.capacity, c.limit, map line_of c.files)
seen (Err e) = Err e.place

abbrev pub Sample : Type 0
Sample = List ℕ × Result (ℕ × ℕ × List Line) ℕ

-- file 3, "A", with the bytes "hi"
abbrev pub one_file : List ℕ
one_file =
    0x01 ∷ 0x0A ∷ 0x00 ∷ 0x03 ∷ 0x00 ∷ 0x00 ∷ 0x00 ∷ 0x00 ∷ 0x00 ∷ 0x00 ∷ 0x00 ∷ 0x04 ∷ 0x30
    ∷ 0x02 ∷ 0x02 ∷ 0x00 ∷ 0x41 ∷ 0x00 ∷ 0x03 ∷ 0x02 ∷ 0x00 ∷ 0x68 ∷ 0x69 ∷ []

-- the same without its last byte
abbrev pub cut_short : List ℕ
cut_short =
    0x01 ∷ 0x0A ∷ 0x00 ∷ 0x03 ∷ 0x00 ∷ 0x00 ∷ 0x00 ∷ 0x00 ∷ 0x00 ∷ 0x00 ∷ 0x00 ∷ 0x04 ∷ 0x30
    ∷ 0x02 ∷ 0x02 ∷ 0x00 ∷ 0x41 ∷ 0x00 ∷ 0x03 ∷ 0x02 ∷ 0x00 ∷ 0x68 ∷ []

-- the same without its third field
abbrev pub no_bytes : List ℕ
no_bytes =
    0x01 ∷ 0x0A ∷ 0x00 ∷ 0x03 ∷ 0x00 ∷ 0x00 ∷ 0x00 ∷ 0x00 ∷ 0x00 ∷ 0x00 ∷ 0x00 ∷ 0x04 ∷ 0x30
    ∷ 0x02 ∷ 0x02 ∷ 0x00 ∷ 0x41 ∷ 0x00 ∷ []

-- folder 1, "A", and in it file 2, "B", of one byte
abbrev pub a_folder : List ℕ
a_folder =
    0x01 ∷ 0x0A ∷ 0x00 ∷ 0x01 ∷ 0x00 ∷ 0x00 ∷ 0x00 ∷ 0x00 ∷ 0x00 ∷ 0x00 ∷ 0x00 ∷ 0x01 ∷ 0x30
    ∷ 0x02 ∷ 0x02 ∷ 0x00 ∷ 0x41 ∷ 0x00 ∷ 0x03 ∷ 0x00 ∷ 0x00
    ∷ 0x01 ∷ 0x0A ∷ 0x00 ∷ 0x02 ∷ 0x00 ∷ 0x00 ∷ 0x00 ∷ 0x01 ∷ 0x00 ∷ 0x00 ∷ 0x00 ∷ 0x00 ∷ 0x30
    ∷ 0x02 ∷ 0x02 ∷ 0x00 ∷ 0x42 ∷ 0x00 ∷ 0x03 ∷ 0x01 ∷ 0x00 ∷ 0x07 ∷ []

abbrev pub samples : List Sample
samples =
    ([], Ok (0, 0, []))
    ∷ (one_file, Ok (2, 1, record { number = 3; format = 0x3004; protection = 1; parent = 0; name = 0x41 ∷ []; bytes = 0x68 ∷ 0x69 ∷ [] } ∷ []))
    ∷ (cut_short, Err 18)
    ∷ (no_bytes, Err 18)
    ∷ (
      a_folder,
      Ok (
        1,
        2,
        record { number = 1; format = 0x3001; protection = 1; parent = 0; name = 0x41 ∷ []; bytes = [] }
            ∷ record { number = 2; format = 0x3000; protection = 1; parent = 1; name = 0x42 ∷ []; bytes = 7 ∷ [] } ∷ [],
      ),
    )
    ∷ []

-- every sample comes out as it says
abbrev pub SamplesHold : Type 0
SamplesHold = map (λ s. seen (parsed s.0)) samples ≡ map (λ s. s.1) samples
