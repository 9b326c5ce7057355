-- The words and lines that are printed of an image.
use Rattle.std.specs.Prelude.{ℕ, cond, Option, None, Some, List, ◌++◌, length, codes, decimal, ◌==◌}
use Rattle.object.specs.declared.format.Format.{Format}
use Rattle.object.specs.declared.format.Format.TheVariants.{Undefined, Association, Text}
use Rattle.object.specs.declared.protection.Protection.{Protection}
use Rattle.object.specs.declared.protection.Protection.TheVariants.{Unprotected, ReadOnly}
use Rattle.store.specs.Contents.{Contents, total}
use Rattle.image_format.specs.Refusal.{spoilt_image_number}
use Rattle.image_format.specs.declared.fault.SpoiltImage.{SpoiltImage}

abbrev pub kind_word : Format → List ℕ
kind_word Undefined = codes "undefined"
kind_word Association = codes "folder"
kind_word Text = codes "text"

abbrev pub protection_word : Protection → List ℕ
protection_word Unprotected = codes "none"
protection_word ReadOnly = codes "read-only"

-- a file's path, by its folder's path and its own name
abbrev pub path_text : Option (List ℕ) → List ℕ → List ℕ
path_text None name = name
path_text (Some folder) name = folder ++ (codes "/" ++ name)

abbrev pub totals_line : ℕ → ℕ → ℕ → ℕ → List ℕ
totals_line count limit bytes capacity =
    codes "files " ++ (decimal count ++ (codes " (limit " ++ (decimal limit ++ (codes "), bytes " ++ (decimal bytes ++ (codes " (capacity " ++ (decimal capacity ++ codes ")\n")))))))

-- the line with the totals of a store
abbrev pub totals_of : Contents → List ℕ
totals_of c = totals_line (length c.files) c.limit (total c.files) c.capacity

abbrev pub missing_line : ℕ → ℕ → List ℕ
missing_line number place =
    codes "refused " ++ (decimal number ++ (codes ", spoilt image: a field is missing at the end, byte " ++ (decimal place ++ codes "\n")))

abbrev pub wrong_line : ℕ → ℕ → List ℕ
wrong_line number place =
    codes "refused " ++ (decimal number ++ (codes ", spoilt image: the field at byte " ++ (decimal place ++ codes " is wrong\n")))

-- the line with the refusal of an image of this size; a fault at the end is a missing field
abbrev pub refusal_line : ℕ → SpoiltImage → List ℕ
refusal_line size fault =
    cond (fault.place == size) (missing_line spoilt_image_number fault.place) (wrong_line spoilt_image_number fault.place)
