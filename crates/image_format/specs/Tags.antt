-- The tags of fields, as the program's own type has them.
use Rattle.std.specs.Prelude.{ℕ}
use Rattle.image_format.specs.Encoded.{head_tag, name_tag, body_tag}
use Rattle.image_format.specs.declared.field.Tag.{Tag}
use Rattle.image_format.specs.declared.field.Tag.TheVariants.{Head, Name, Body}

abbrev pub tag_number : Tag → ℕ
tag_number Head = head_tag
tag_number Name = name_tag
tag_number Body = body_tag
