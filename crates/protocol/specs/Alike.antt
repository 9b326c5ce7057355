-- Replies tell the contents, and nothing else.
use Rattle.std.specs.Prelude.{◌≡◌, ◌^◌, ◌<◌, List, length}
use Rattle.std.specs.List.{AllByRecursion}
use Rattle.byte_parts.specs.Numbers.{Bytes}
use Rattle.wire.specs.declared.command.Command.{Command}
use Rattle.protocol.specs.Storages.{Storages, SoundStorages}
use Rattle.protocol.specs.Machine.{Call, answer, cancel, unplug, replies, fresh}

-- what a host can really send: numbers that fit their fields, five parameters, bytes, and no more than a slice can hold
pub record RealCommand (c : Command) : Type 0 where
  pub code_fits : c.code < 2 ^ 16
  pub transaction_fits : c.transaction < 2 ^ 32
  pub five : length c.parameters ≡ 5
  pub parameters_fit : AllByRecursion (λ n. n < 2 ^ 32) c.parameters

abbrev pub RealCall : Call → Type 0
RealCall (answer c host room) = RealCommand c × Bytes host × (length host < 2 ^ 63) × (room < 2 ^ 63)
RealCall (cancel c) = RealCommand c
RealCall unplug = Unit {0}

abbrev pub Real : List Call → Type 0
Real calls = AllByRecursion RealCall calls

-- new responders over the two pairs of storages reply alike to every list of calls that a host can make
abbrev pub Alike : Storages → Storages → Type 0
Alike p q = (calls : List Call) → Real calls → replies (fresh p) calls ≡ replies (fresh q) calls

-- two sound pairs are equal exactly when they reply alike
pub record RepliesTellContents : Type 0 where
  pub equal_alike : (p q : Storages) → SoundStorages p → SoundStorages q → p ≡ q → Alike p q
  pub alike_equal : (p q : Storages) → SoundStorages p → SoundStorages q → Alike p q → p ≡ q
