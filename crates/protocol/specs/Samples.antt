-- Sample exchanges and sample bytes, shown from the definitions at a stroke.
use Rattle.std.specs.Prelude.{◌≡◌, ℕ, true, false, not, List, [], ◌∷◌, ◌++◌, map, take, replicate, is_some, Some, None, filter, Option, ◌==◌, refl}
use Rattle.byte_parts.specs.Numbers.{le}
use Rattle.object.specs.Legal.{legal_name, stored_name}
use Rattle.object.specs.Names.{named}
use Rattle.object.specs.declared.format.Format.{Format}
use Rattle.object.specs.declared.format.Format.TheVariants.{Undefined, Association, Text}
use Rattle.object.specs.declared.name.Name.{Name}
use Rattle.object.specs.declared.protection.Protection.{Protection}
use Rattle.object.specs.declared.protection.Protection.TheVariants.{Unprotected, ReadOnly}
use Rattle.store.specs.Contents.{Entry, Contents}
use Rattle.wire.specs.declared.command.Command.{Command}
use Rattle.wire.specs.Containers.{container, command_type, data_type, response}
use Rattle.wire.specs.Operations.{get_device_info, open_session, close_session, get_storage_ids, get_storage_info, get_object_handles, get_object_info, get_object, delete_object, send_object_info, send_object, get_partial_object, operation_codes}
use Rattle.wire.specs.Strings.{string}
use Rattle.datasets.specs.DeviceInfos.{device_info}
use Rattle.protocol.specs.declared.session.Session.TheVariants.{Open}
use Rattle.protocol.specs.declared.session.Transfer.TheVariants.{Idle}
use Rattle.protocol.specs.Storages.{Storages, SoundStorages}
use Rattle.protocol.specs.Machine.{State, Reply, Call, answer, cancel, unplug, replies, fresh, Row, tasks}

-- the value that is there
abbrev pub the : {A : Type 0} (o : Option A) → is_some o ≡ true → A
the (Some x) e = x
the None e = absurd (mathlib.Core.Bool.false≢true e)

-- "A", and "Beds"
unfoldable pub name_a : Name
unfolding named legal_name stored_name
name_a = the (named (0x41 ∷ [])) refl

unfoldable pub name_beds : Name
unfolding named legal_name stored_name
name_beds = the (named (0x42 ∷ 0x65 ∷ 0x64 ∷ 0x73 ∷ [])) refl

-- stores
abbrev pub filed : ℕ → Format → Protection → ℕ → Name → List ℕ → Entry
filed number format protection parent name bytes =
    record { number = number; file = record { format = format; protection = protection; parent = parent; name = name; bytes = bytes } }

abbrev pub empty : ℕ → ℕ → Contents
empty capacity limit = record { capacity = capacity; limit = limit; files = [] }

-- a folder in a folder, and files in both
abbrev pub programs : Contents
programs = record {
  capacity = 100;
  limit = 10;
  files =
      filed 1 Association Unprotected 0 name_beds []
      ∷ filed 3 Association Unprotected 1 name_beds []
      ∷ filed 4 Text Unprotected 3 name_a (10 ∷ 11 ∷ 12 ∷ 13 ∷ 14 ∷ 15 ∷ 16 ∷ 17 ∷ 18 ∷ 19 ∷ [])
      ∷ filed 6 Undefined ReadOnly 0 name_a (7 ∷ [])
      ∷ [];
}

abbrev pub handbook : Contents
handbook = record {
  capacity = 2;
  limit = 2;
  files = filed 2 Association ReadOnly 0 name_beds [] ∷ filed 3 Text ReadOnly 2 name_a (0x68 ∷ 0x69 ∷ []) ∷ [];
}

abbrev pub two_five : Contents
two_five = record { capacity = 100; limit = 10; files = filed 2 Text Unprotected 0 name_a [] ∷ filed 5 Text Unprotected 0 name_a [] ∷ [] }

abbrev pub over : Contents → Storages
over c = record { first = c; locked = false; second = handbook }

abbrev pub locked : Storages
locked = record { first = programs; locked = true; second = handbook }

-- calls
abbrev pub command : ℕ → ℕ → List ℕ → Command
command code transaction ps = record { code = code; transaction = transaction; parameters = take 5 (ps ++ replicate 5 0) }

abbrev pub ask : ℕ → ℕ → List ℕ → Call
ask code transaction ps = answer (command code transaction ps) [] 65536

abbrev pub send : ℕ → ℕ → List ℕ → List ℕ → Call
send code transaction ps payload = answer (command code transaction ps) (container data_type code transaction payload) 65536

-- an ObjectInfo of a file "A" of 256 * high + low bytes
abbrev pub dataset : ℕ → ℕ → ℕ → List ℕ
dataset format low high =
    (0 ∷ 0 ∷ 0 ∷ 0 ∷ []) ++ (le 2 format ++ ((0 ∷ 0 ∷ []) ++ ((low ∷ high ∷ 0 ∷ 0 ∷ []) ++ (replicate 40 0
    ++ (2 ∷ 0x41 ∷ 0 ∷ 0 ∷ 0 ∷ 0 ∷ 0 ∷ 0 ∷ [])))))

-- replies
abbrev pub reply : ℕ → ℕ → List ℕ → List ℕ → Reply
reply code transaction ps sent = record { code = code; transaction = transaction; parameters = ps; sent = sent }

-- OK, OK with data, and a refusal
abbrev pub done : ℕ → List ℕ → Reply
done transaction ps = reply 0x2001 transaction ps []

abbrev pub sent : ℕ → ℕ → List ℕ → List ℕ → Reply
sent code transaction ps payload = reply 0x2001 transaction ps (container data_type code transaction payload)

abbrev pub refusal : ℕ → ℕ → Reply
refusal code transaction = reply code transaction [] []

-- calls from a state on, and the replies that they get
pub record Exchange : Type 0 where
  pub start : State
  pub calls : List Call
  pub expected : List Reply

abbrev pub exchange : State → List Call → List Reply → Exchange
exchange start calls expected = record { start = start; calls = calls; expected = expected }

-- the ObjectInfo of a folder, of a file of the second storage in a folder, both StorageInfos and the DeviceInfo, byte by byte
abbrev pub folder_bytes : List ℕ
folder_bytes =
    1 ∷ 0 ∷ 1 ∷ 0 ∷ 1 ∷ 0x30 ∷ 0 ∷ 0 ∷ 0 ∷ 0 ∷ 0 ∷ 0 ∷ 0 ∷ 0 ∷ 0 ∷ 0 ∷ 0 ∷ 0 ∷ 0 ∷ 0 ∷ 0 ∷ 0 ∷ 0 ∷ 0 ∷ 0 ∷ 0 ∷ 0 ∷ 0 ∷ 0 ∷
    0 ∷ 0 ∷ 0 ∷ 0 ∷ 0 ∷ 0 ∷ 0 ∷ 0 ∷ 0 ∷ 1 ∷ 0 ∷ 0 ∷ 0 ∷ 1 ∷ 0 ∷ 0 ∷ 0 ∷ 0 ∷ 0 ∷ 0 ∷ 0 ∷ 0 ∷ 0 ∷ 5 ∷ 0x42 ∷ 0 ∷ 0x65 ∷ 0 ∷
    0x64 ∷ 0 ∷ 0x73 ∷ 0 ∷ 0 ∷ 0 ∷ 0 ∷ 0 ∷ 0 ∷ []

abbrev pub second_file_bytes : List ℕ
second_file_bytes =
    1 ∷ 0 ∷ 2 ∷ 0 ∷ 4 ∷ 0x30 ∷ 1 ∷ 0 ∷ 2 ∷ 0 ∷ 0 ∷ 0 ∷ 0 ∷ 0 ∷ 0 ∷ 0 ∷ 0 ∷ 0 ∷ 0 ∷ 0 ∷ 0 ∷ 0 ∷ 0 ∷ 0 ∷ 0 ∷ 0 ∷ 0 ∷ 0 ∷ 0 ∷
    0 ∷ 0 ∷ 0 ∷ 0 ∷ 0 ∷ 0 ∷ 0 ∷ 0 ∷ 0 ∷ 2 ∷ 0 ∷ 0 ∷ 0x80 ∷ 0 ∷ 0 ∷ 0 ∷ 0 ∷ 0 ∷ 0 ∷ 0 ∷ 0 ∷ 0 ∷ 0 ∷ 2 ∷ 0x41 ∷ 0 ∷ 0 ∷ 0 ∷ 0 ∷
    0 ∷ 0 ∷ []

abbrev pub first_storage_bytes : List ℕ
first_storage_bytes =
    3 ∷ 0 ∷ 2 ∷ 0 ∷ 0 ∷ 0 ∷ 0x64 ∷ 0 ∷ 0 ∷ 0 ∷ 0 ∷ 0 ∷ 0 ∷ 0 ∷ 0x59 ∷ 0 ∷ 0 ∷ 0 ∷ 0 ∷ 0 ∷ 0 ∷ 0 ∷ 6 ∷ 0 ∷ 0 ∷ 0 ∷ 9 ∷ 0x50 ∷
    0 ∷ 0x72 ∷ 0 ∷ 0x6F ∷ 0 ∷ 0x67 ∷ 0 ∷ 0x72 ∷ 0 ∷ 0x61 ∷ 0 ∷ 0x6D ∷ 0 ∷ 0x73 ∷ 0 ∷ 0 ∷ 0 ∷ 0 ∷ []

abbrev pub second_storage_bytes : List ℕ
second_storage_bytes =
    1 ∷ 0 ∷ 2 ∷ 0 ∷ 1 ∷ 0 ∷ 2 ∷ 0 ∷ 0 ∷ 0 ∷ 0 ∷ 0 ∷ 0 ∷ 0 ∷ 0 ∷ 0 ∷ 0 ∷ 0 ∷ 0 ∷ 0 ∷ 0 ∷ 0 ∷ 0 ∷ 0 ∷ 0 ∷ 0 ∷ 9 ∷ 0x48 ∷ 0 ∷
    0x61 ∷ 0 ∷ 0x6E ∷ 0 ∷ 0x64 ∷ 0 ∷ 0x62 ∷ 0 ∷ 0x6F ∷ 0 ∷ 0x6F ∷ 0 ∷ 0x6B ∷ 0 ∷ 0 ∷ 0 ∷ 0 ∷ []

abbrev pub device_bytes : List ℕ
device_bytes =
    0x64 ∷ 0 ∷ 6 ∷ 0 ∷ 0 ∷ 0 ∷ 0x64 ∷ 0 ∷ 0 ∷ 0 ∷ 0 ∷ 0x0C ∷ 0 ∷ 0 ∷ 0 ∷ 1 ∷ 0x10 ∷ 2 ∷ 0x10 ∷ 3 ∷ 0x10 ∷ 4 ∷ 0x10 ∷ 5 ∷
    0x10 ∷ 7 ∷ 0x10 ∷ 8 ∷ 0x10 ∷ 9 ∷ 0x10 ∷ 0x0B ∷ 0x10 ∷ 0x0C ∷ 0x10 ∷ 0x0D ∷ 0x10 ∷ 0x1B ∷ 0x10 ∷ 0 ∷ 0 ∷ 0 ∷ 0 ∷ 0 ∷ 0 ∷
    0 ∷ 0 ∷ 0 ∷ 0 ∷ 0 ∷ 0 ∷ 3 ∷ 0 ∷ 0 ∷ 0 ∷ 0 ∷ 0x30 ∷ 1 ∷ 0x30 ∷ 4 ∷ 0x30 ∷ 7 ∷ 0x53 ∷ 0 ∷ 0x70 ∷ 0 ∷ 0x61 ∷ 0 ∷ 0x72 ∷ 0 ∷
    0x65 ∷ 0 ∷ 0x73 ∷ 0 ∷ 0 ∷ 0 ∷ 5 ∷ 0x44 ∷ 0 ∷ 0x72 ∷ 0 ∷ 0x69 ∷ 0 ∷ 0x70 ∷ 0 ∷ 0 ∷ 0 ∷ 2 ∷ 0x31 ∷ 0 ∷ 0 ∷ 0 ∷ 2 ∷ 0x30 ∷
    0 ∷ 0 ∷ 0 ∷ []

-- a whole session that looks around
abbrev pub looking_around : Exchange
looking_around =
    exchange (fresh (over programs))
    (ask get_device_info 0 [] ∷ ask open_session 0 (7 ∷ []) ∷ ask get_storage_ids 1 [] ∷ ask get_storage_info 2 (0x00010001 ∷ [])
    ∷ ask get_storage_info 3 (0x00020001 ∷ []) ∷ ask get_object_info 4 (3 ∷ []) ∷ ask get_object_info 5 (0x80000003 ∷ [])
    ∷ ask get_object 6 (0x80000003 ∷ []) ∷ ask close_session 7 [] ∷ ask get_storage_ids 8 [] ∷ [])
    (sent 0x1001 0 [] device_bytes ∷ done 0 [] ∷ sent 0x1004 1 [] (2 ∷ 0 ∷ 0 ∷ 0 ∷ 1 ∷ 0 ∷ 1 ∷ 0 ∷ 1 ∷ 0 ∷ 2 ∷ 0 ∷ [])
    ∷ sent 0x1005 2 [] first_storage_bytes ∷ sent 0x1005 3 [] second_storage_bytes ∷ sent 0x1008 4 [] folder_bytes
    ∷ sent 0x1008 5 [] second_file_bytes ∷ sent 0x1009 6 [] (0x68 ∷ 0x69 ∷ []) ∷ done 7 [] ∷ refusal 0x2003 8 ∷ [])

-- listings: every object, one storage, the root, a folder, a folder of the second storage, and the refusals
abbrev pub listing : Exchange
listing =
    exchange (fresh (over programs))
    (ask open_session 0 (7 ∷ []) ∷ ask get_object_handles 1 (0xFFFFFFFF ∷ []) ∷ ask get_object_handles 2 (0x00010001 ∷ [])
    ∷ ask get_object_handles 3 (0xFFFFFFFF ∷ 0 ∷ 0xFFFFFFFF ∷ []) ∷ ask get_object_handles 4 (0x00010001 ∷ 0 ∷ 3 ∷ [])
    ∷ ask get_object_handles 5 (0xFFFFFFFF ∷ 0 ∷ 0x80000002 ∷ []) ∷ ask get_object_handles 6 (0 ∷ [])
    ∷ ask get_object_handles 7 (0x00010001 ∷ 0x3004 ∷ []) ∷ ask get_object_handles 8 (0x00010001 ∷ 0 ∷ 2 ∷ [])
    ∷ ask get_object_handles 9 (0x00010001 ∷ 0 ∷ 4 ∷ []) ∷ ask get_object_handles 10 (0x00010001 ∷ 0 ∷ 0x80000002 ∷ [])
    ∷ ask get_object_handles 11 (0xFFFFFFFF ∷ 0 ∷ 0x80000000 ∷ []) ∷ [])
    (done 0 []
    ∷ sent 0x1007 1 [] (6 ∷ 0 ∷ 0 ∷ 0 ∷ 1 ∷ 0 ∷ 0 ∷ 0 ∷ 3 ∷ 0 ∷ 0 ∷ 0 ∷ 4 ∷ 0 ∷ 0 ∷ 0 ∷ 6 ∷ 0 ∷ 0 ∷ 0 ∷ 2 ∷ 0 ∷ 0 ∷ 0x80 ∷ 3 ∷ 0 ∷ 0 ∷ 0x80 ∷ [])
    ∷ sent 0x1007 2 [] (4 ∷ 0 ∷ 0 ∷ 0 ∷ 1 ∷ 0 ∷ 0 ∷ 0 ∷ 3 ∷ 0 ∷ 0 ∷ 0 ∷ 4 ∷ 0 ∷ 0 ∷ 0 ∷ 6 ∷ 0 ∷ 0 ∷ 0 ∷ [])
    ∷ sent 0x1007 3 [] (3 ∷ 0 ∷ 0 ∷ 0 ∷ 1 ∷ 0 ∷ 0 ∷ 0 ∷ 6 ∷ 0 ∷ 0 ∷ 0 ∷ 2 ∷ 0 ∷ 0 ∷ 0x80 ∷ [])
    ∷ sent 0x1007 4 [] (1 ∷ 0 ∷ 0 ∷ 0 ∷ 4 ∷ 0 ∷ 0 ∷ 0 ∷ []) ∷ sent 0x1007 5 [] (1 ∷ 0 ∷ 0 ∷ 0 ∷ 3 ∷ 0 ∷ 0 ∷ 0x80 ∷ [])
    ∷ refusal 0x2008 6 ∷ refusal 0x2014 7 ∷ refusal 0x2009 8 ∷ refusal 0x201A 9 ∷ refusal 0x201A 10 ∷ refusal 0x2009 11 ∷ [])

-- partial reads of ten bytes: at the end, past it, and with a maximum
abbrev pub partial_reads : Exchange
partial_reads =
    exchange (fresh (over programs))
    (ask open_session 0 (7 ∷ []) ∷ ask get_partial_object 1 (4 ∷ 7 ∷ 0xFFFFFFFF ∷ []) ∷ ask get_partial_object 2 (4 ∷ 10 ∷ 0xFFFFFFFF ∷ [])
    ∷ ask get_partial_object 3 (4 ∷ 11 ∷ 0xFFFFFFFF ∷ []) ∷ ask get_partial_object 4 (4 ∷ 2 ∷ 3 ∷ []) ∷ ask get_partial_object 5 (3 ∷ 0 ∷ 1 ∷ [])
    ∷ ask get_object 6 (3 ∷ []) ∷ ask get_object 7 (9 ∷ []) ∷ ask get_object_info 8 (0x80000009 ∷ [])
    ∷ answer (command get_object 9 (4 ∷ [])) [] 21 ∷ answer (command get_object 10 (4 ∷ [])) [] 22 ∷ [])
    (done 0 [] ∷ sent 0x101B 1 (3 ∷ []) (17 ∷ 18 ∷ 19 ∷ []) ∷ sent 0x101B 2 (0 ∷ []) [] ∷ refusal 0x201D 3 ∷ sent 0x101B 4 (3 ∷ []) (12 ∷ 13 ∷ 14 ∷ [])
    ∷ refusal 0x2009 5 ∷ refusal 0x2009 6 ∷ refusal 0x2009 7 ∷ refusal 0x2009 8 ∷ refusal 0x2002 9
    ∷ sent 0x1009 10 [] (10 ∷ 11 ∷ 12 ∷ 13 ∷ 14 ∷ 15 ∷ 16 ∷ 17 ∷ 18 ∷ 19 ∷ []) ∷ [])

-- 2 and 5 are there, so 6 comes next; sent and deleted, 7 comes next; in a later session 6 comes again
abbrev pub numbering : Exchange
numbering =
    exchange (fresh (over two_five))
    (ask open_session 0 (9 ∷ []) ∷ send send_object_info 1 [] (dataset 0x3004 2 0) ∷ send send_object 2 [] (7 ∷ 8 ∷ []) ∷ ask get_object 3 (6 ∷ [])
    ∷ ask delete_object 4 (6 ∷ []) ∷ send send_object_info 5 (0x00010001 ∷ 0xFFFFFFFF ∷ []) (dataset 0x3001 0 0) ∷ send send_object_info 6 (0 ∷ 7 ∷ []) (dataset 0x3000 0 0)
    ∷ ask open_session 99 (1 ∷ []) ∷ ask delete_object 7 (7 ∷ []) ∷ unplug ∷ ask open_session 0 (1 ∷ []) ∷ send send_object_info 1 [] (dataset 0x3004 1 0) ∷ [])
    (done 0 [] ∷ done 1 (0x00010001 ∷ 0xFFFFFFFF ∷ 6 ∷ []) ∷ done 2 [] ∷ sent 0x1009 3 [] (7 ∷ 8 ∷ []) ∷ done 4 []
    ∷ done 5 (0x00010001 ∷ 0xFFFFFFFF ∷ 7 ∷ []) ∷ done 6 (0x00010001 ∷ 7 ∷ 8 ∷ []) ∷ reply 0x201E 99 (9 ∷ []) [] ∷ done 7 []
    ∷ done 0 [] ∷ done 1 (0x00010001 ∷ 0xFFFFFFFF ∷ 6 ∷ []) ∷ [])

-- an empty store of 32,768 bytes takes a file of as many, and refuses one more
abbrev pub just_room : Exchange
just_room =
    exchange (fresh (over (empty 32768 1)))
    (ask open_session 0 (1 ∷ []) ∷ send send_object_info 1 [] (dataset 0x3004 1 0x80) ∷ send send_object_info 2 [] (dataset 0x3004 0 0x80)
    ∷ send send_object 3 [] (replicate 32768 5) ∷ ask get_partial_object 4 (1 ∷ 32760 ∷ 0xFFFFFFFF ∷ []) ∷ send send_object_info 5 [] (dataset 0x3004 0 0) ∷ [])
    (done 0 [] ∷ refusal 0xA809 1 ∷ done 2 (0x00010001 ∷ 0xFFFFFFFF ∷ 1 ∷ []) ∷ done 3 [] ∷ sent 0x101B 4 (8 ∷ []) (replicate 8 5) ∷ refusal 0x200C 5 ∷ [])

-- one byte less is too few
abbrev pub no_room : Exchange
no_room =
    exchange (fresh (over (empty 32767 1)))
    (ask open_session 0 (1 ∷ []) ∷ send send_object_info 1 [] (dataset 0x3004 0 0x80) ∷ [])
    (done 0 [] ∷ refusal 0x200C 1 ∷ [])

-- the steps of a closed and of an open session
abbrev pub steps : Exchange
steps =
    exchange (fresh (over programs))
    (ask 0x1006 5 [] ∷ ask get_object 5 (4 ∷ []) ∷ ask open_session 5 (1 ∷ []) ∷ ask open_session 0 (0 ∷ 1 ∷ []) ∷ ask open_session 0 (0 ∷ [])
    ∷ cancel (command open_session 0 (3 ∷ [])) ∷ ask open_session 0 (3 ∷ []) ∷ cancel (command open_session 0 (3 ∷ [])) ∷ ask get_object 2 (4 ∷ [])
    ∷ ask 0x1006 1 [] ∷ ask get_object 2 (4 ∷ 1 ∷ []) ∷ cancel (command close_session 3 []) ∷ ask get_storage_info 4 (1 ∷ []) ∷ ask close_session 5 [] ∷ [])
    (refusal 0x2005 5 ∷ refusal 0x2003 5 ∷ refusal 0x2004 5 ∷ refusal 0x2006 0 ∷ refusal 0x201D 0
    ∷ refusal 0x201F 0 ∷ done 0 [] ∷ reply 0x201E 0 (3 ∷ []) [] ∷ refusal 0x2004 2
    ∷ refusal 0x2005 1 ∷ refusal 0x2006 2 ∷ refusal 0x201F 3 ∷ refusal 0x2008 4 ∷ done 5 [] ∷ [])

-- the refusals of the operations that act
abbrev pub refusing : Exchange
refusing =
    exchange (fresh (over programs))
    (ask open_session 0 (1 ∷ []) ∷ ask delete_object 1 (4 ∷ 0x3004 ∷ []) ∷ ask delete_object 2 (5 ∷ []) ∷ ask delete_object 3 (0x80000003 ∷ [])
    ∷ ask delete_object 4 (6 ∷ []) ∷ ask delete_object 5 (3 ∷ []) ∷ send send_object_info 6 (5 ∷ []) (dataset 0x3004 1 0)
    ∷ send send_object_info 7 (0x00020001 ∷ []) (dataset 0x3004 1 0) ∷ ask send_object_info 8 [] ∷ send send_object_info 9 [] (0 ∷ dataset 0x3004 1 0)
    ∷ send send_object_info 10 [] (dataset 0x3005 1 0) ∷ send send_object_info 11 [] (dataset 0x3001 1 0) ∷ send send_object_info 12 (0 ∷ 4 ∷ []) (dataset 0x3004 1 0)
    ∷ send send_object_info 13 [] (dataset 0x3004 100 0) ∷ ask send_object 14 [] ∷ send send_object_info 15 (0 ∷ 3 ∷ []) (dataset 0x3004 1 0)
    ∷ send send_object 16 [] (1 ∷ 2 ∷ []) ∷ send send_object 17 [] (1 ∷ []) ∷ [])
    (done 0 [] ∷ refusal 0x2014 1 ∷ refusal 0x2009 2 ∷ refusal 0x200E 3 ∷ refusal 0x200D 4 ∷ refusal 0x200F 5 ∷ refusal 0x2008 6 ∷ refusal 0x200E 7
    ∷ refusal 0x2007 8 ∷ refusal 0xA806 9 ∷ refusal 0x200B 10 ∷ refusal 0xA806 11 ∷ refusal 0x201A 12 ∷ refusal 0x200C 13 ∷ refusal 0x2015 14
    ∷ done 15 (0x00010001 ∷ 3 ∷ 7 ∷ []) ∷ refusal 0x2007 16 ∷ refusal 0x2015 17 ∷ [])

-- a locked store changes nothing, and a protected file comes before the lock
abbrev pub under_lock : Exchange
under_lock =
    exchange (fresh locked)
    (ask open_session 0 (1 ∷ []) ∷ ask delete_object 1 (4 ∷ []) ∷ ask delete_object 2 (6 ∷ []) ∷ send send_object_info 3 [] (dataset 0x3004 1 0) ∷ ask get_object 4 (6 ∷ []) ∷ [])
    (done 0 [] ∷ refusal 0x200E 1 ∷ refusal 0x200D 2 ∷ refusal 0x200E 3 ∷ sent 0x1009 4 [] (7 ∷ []) ∷ [])

-- after transaction 0xFFFFFFFE, 1 is expected
abbrev pub wrap : Exchange
wrap =
    exchange (record { storages = over programs; session = Open (record { id = 1; expected = 0xFFFFFFFE; next = 7; transfer = Idle }) })
    (ask get_object 0xFFFFFFFE (6 ∷ []) ∷ ask get_object 0xFFFFFFFF (6 ∷ []) ∷ ask get_object 1 (6 ∷ []) ∷ [])
    (sent 0x1009 0xFFFFFFFE [] (7 ∷ []) ∷ refusal 0x2004 0xFFFFFFFF ∷ sent 0x1009 1 [] (7 ∷ []) ∷ [])

-- the one-file image: file 3, "A", two bytes
abbrev pub one_file : Contents
one_file = record { capacity = 2; limit = 1; files = filed 3 Text ReadOnly 0 name_a (0x68 ∷ 0x69 ∷ []) ∷ [] }

abbrev pub over_image : Storages
over_image = record { first = empty 0 1; locked = false; second = one_file }

abbrev pub image_read : Exchange
image_read =
    exchange (fresh over_image)
    (ask open_session 0 (1 ∷ []) ∷ ask get_object 1 (0x80000003 ∷ []) ∷ ask get_object_handles 2 (0x00020001 ∷ []) ∷ ask get_object 3 (3 ∷ []) ∷ [])
    (done 0 [] ∷ sent 0x1009 1 [] (0x68 ∷ 0x69 ∷ []) ∷ sent 0x1007 2 [] (1 ∷ 0 ∷ 0 ∷ 0 ∷ 3 ∷ 0 ∷ 0 ∷ 0x80 ∷ []) ∷ refusal 0x2009 3 ∷ [])

abbrev pub exchanges : List Exchange
exchanges =
    looking_around ∷ listing ∷ partial_reads ∷ numbering ∷ just_room ∷ no_room ∷ steps ∷ refusing ∷ under_lock ∷ wrap ∷ image_read ∷ []

abbrev pub Exchanged : Type 0
Exchanged = map (λ (x : Exchange). replies x.start x.calls) exchanges ≡ map (λ (x : Exchange). x.expected) exchanges

-- bytes, and how they are written out: strings, an OpenSession, a response with a parameter, the device
abbrev pub byte_samples : List (List ℕ × List ℕ)
byte_samples =
    (string [], 0 ∷ [])
    ∷ (string (0x41 ∷ []), 2 ∷ 0x41 ∷ 0 ∷ 0 ∷ 0 ∷ [])
    ∷ (container command_type 0x1002 0 (le 4 1), 0x10 ∷ 0 ∷ 0 ∷ 0 ∷ 1 ∷ 0 ∷ 2 ∷ 0x10 ∷ 0 ∷ 0 ∷ 0 ∷ 0 ∷ 1 ∷ 0 ∷ 0 ∷ 0 ∷ [])
    ∷ (response 0x201E 99 (9 ∷ []), 0x10 ∷ 0 ∷ 0 ∷ 0 ∷ 3 ∷ 0 ∷ 0x1E ∷ 0x20 ∷ 99 ∷ 0 ∷ 0 ∷ 0 ∷ 9 ∷ 0 ∷ 0 ∷ 0 ∷ [])
    ∷ (device_info, device_bytes)
    ∷ []

abbrev pub WrittenOut : Type 0
WrittenOut = map (λ (x : List ℕ × List ℕ). x.0) byte_samples ≡ map (λ (x : List ℕ × List ℕ). x.1) byte_samples

-- each operation of the table has its task, but for OpenSession, which an open session refuses
abbrev pub EveryOperation : Type 0
EveryOperation = map (λ (r : Row). r.code) tasks ≡ filter (λ code. not (code == open_session)) operation_codes

-- the storages of the samples are sound
pub record SamplesSound : Type 0 where
  pub programs_sound : SoundStorages (over programs)
  pub locked_sound : SoundStorages locked
  pub two_five_sound : SoundStorages (over two_five)
  pub just_room_sound : SoundStorages (over (empty 32768 1))
  pub no_room_sound : SoundStorages (over (empty 32767 1))
  pub image_sound : SoundStorages over_image
