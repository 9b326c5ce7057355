-- What GetObjectInfo sends is read back as the record of that file.
use Rattle.std.specs.Prelude.{◌≡◌, ℕ, ◌⊎◌, List, length, Some, ◌≢◌}
use Rattle.object.specs.Formats.{format_number}
use Rattle.store.specs.Contents.{File}
use Rattle.wire.specs.declared.command.Command.{Command}
use Rattle.wire.specs.Containers.{data_container}
use Rattle.wire.specs.Operations.{get_object_info}
use Rattle.datasets.specs.declared.info.ObjectInfo.{ObjectInfo}
use Rattle.datasets.specs.ObjectInfos.{object_info_in}
use Rattle.protocol.specs.Faults.{ok}
use Rattle.protocol.specs.Commands.{parameter}
use Rattle.protocol.specs.Storages.{Storages, SoundStorages}
use Rattle.protocol.specs.Objects.{Handle, Object}
use Rattle.protocol.specs.Machine.{Reply, Call, answered, state_after, fresh}

-- a parent on the wire: 0 at the root, else the folder's handle
abbrev pub ParentTold : ℕ → ℕ → ℕ → Type 0
ParentTold storage parent h = ((parent ≡ 0) × (h ≡ 0)) ⊎ ((parent ≢ 0) × Handle storage parent h)

-- the record tells of the object with this handle
pub record TellsOf (p : Storages) (h : ℕ) (i : ObjectInfo) : Type 0 where
  pub file : File
  pub object : Object p h i.storage file
  pub format_is : i.format ≡ format_number file.format
  pub protection_is : i.protection ≡ file.protection
  pub size_is : i.size ≡ length file.bytes
  pub parent_is : ParentTold i.storage file.parent i.parent
  pub name_is : i.name ≡ file.name

-- the data of a reply holds a dataset that the reader takes for such a record
pub record ReadsBack (p : Storages) (c : Command) (r : Reply) : Type 0 where
  pub payload : List ℕ
  pub sends : r.sent ≡ data_container c.code c.transaction payload
  pub info : ObjectInfo
  pub read : object_info_in payload ≡ Some info
  pub tells : TellsOf p (parameter 1 c) info

abbrev pub InfosReadBack : Type 0
InfosReadBack =
    (p : Storages) → SoundStorages p → (calls : List Call) (c : Command) (host : List ℕ) (room : ℕ) → c.code ≡ get_object_info
    → (answered (state_after (fresh p) calls) c host room).reply.code ≡ ok
    → ReadsBack (state_after (fresh p) calls).storages c (answered (state_after (fresh p) calls) c host room).reply
