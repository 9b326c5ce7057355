-- The DeviceInfo dataset.
use Rattle.std.specs.Prelude.{ℕ, List, [], ◌++◌, map, codes}
use Rattle.byte_parts.specs.Numbers.{le}
use Rattle.object.specs.Formats.{format_number, formats}
use Rattle.wire.specs.Operations.{operation_codes}
use Rattle.wire.specs.Strings.{string, array}

-- standard version, vendor extension and its version, its empty description and the functional mode
abbrev pub device_version : List ℕ
device_version = le 2 100 ++ (le 4 6 ++ (le 2 100 ++ (string [] ++ le 2 0)))

-- the operations, no events, device properties or capture formats, and the image formats
abbrev pub device_codes : List ℕ
device_codes = array 2 operation_codes ++ (array 2 [] ++ (array 2 [] ++ (array 2 [] ++ array 2 (map format_number formats))))

-- manufacturer, model, device version and serial number
abbrev pub device_texts : List ℕ
device_texts = string (codes "Spares") ++ (string (codes "Drip") ++ (string (codes "1") ++ string (codes "0")))

-- the whole dataset
unfoldable pub device_info : List ℕ
device_info = device_version ++ (device_codes ++ device_texts)
