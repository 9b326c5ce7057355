-- The number of an image's refusal.
use Rattle.std.specs.Prelude.{ℕ}

abbrev pub spoilt_image_number : ℕ
spoilt_image_number = 3
