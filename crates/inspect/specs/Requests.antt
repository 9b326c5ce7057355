-- What the arguments ask for, and when the program fails.
use Rattle.std.specs.Prelude.{◌≡◌, ◌↔◌, ◌⊎◌, Bool, true, false, List, IsTrue, Any}
use Rattle.inspect.specs.declared.request.Kind.{Kind}
use Rattle.inspect.specs.declared.request.Kind.TheVariants.{Help, Strict, Unknown, File}
use Rattle.inspect.specs.declared.request.Argument.{Argument}
use Rattle.inspect.specs.declared.request.Request.{Request}
use Rattle.inspect.specs.declared.request.Request.TheVariants.{Usage, Correction, Inspection}
use Rattle.inspect.specs.declared.request.Outcome.{Outcome}
use Rattle.inspect.specs.declared.request.Outcome.TheVariants.{Listed, Refused, Unread}

-- some argument is of this kind
abbrev pub Has : Kind → List Argument → Type 0
Has kind given = Any (λ (a : Argument). a.kind ≡ kind) given

-- help comes before all else; then there has to be a file, and no option may be unknown
abbrev pub Asks : List Argument → Request → Type 0
Asks given Usage = Has Help given
Asks given Correction = (¬ Has Help given) × (Has Unknown given ⊎ (¬ Has File given))
Asks given (Inspection strict) = (¬ Has Help given) × (¬ Has Unknown given) × Has File given × (IsTrue strict ↔ Has Strict given)

-- a file that is not read is a failure, and a refused image if that is asked for
abbrev pub fails : Outcome → Bool → Bool
fails Listed strict = false
fails Refused strict = strict
fails Unread strict = true
