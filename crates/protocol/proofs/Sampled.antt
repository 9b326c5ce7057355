-- The samples compute.
use Rattle.std.proofs.Common.{◌≡◌, ℕ, ◌<◌, ◌≤◌, true, false, [], length, refl, arith, lit<, lit≤}
use Rattle.std.proofs.lemmas.Bool.{false≢true}
use Rattle.object.specs.Formats.{is_folder}
use Rattle.object.specs.Legal.{legal_name, stored_name}
use Rattle.object.specs.Names.{named}
use Rattle.store.specs.Changes.{added, removed}
use Rattle.store.specs.Sound.{Sound, is_parent, max_capacity, max_files, max_length, last_number}
use Rattle.store.proofs.Lookups.{each_from}
use Rattle.wire.specs.Containers.{container, payload_in}
use Rattle.wire.specs.Operations.{operation_of}
use Rattle.wire.specs.Strings.{array}
use Rattle.datasets.specs.DeviceInfos.{device_info}
use Rattle.datasets.specs.ObjectInfos.{object_info, object_info_in}
use Rattle.datasets.specs.StorageInfos.{storage_info}
use Rattle.protocol.specs.Storages.{object_at}
use Rattle.protocol.specs.Looking.{storage_shown, handles_shown, info_shown, object_shown, part_shown}
use Rattle.protocol.specs.Acting.{session_opened, session_closed, object_deleted, info_sent, object_sent}
use Rattle.protocol.specs.Machine.{task_of, answered, cancelled, unplugged}
use Rattle.protocol.specs.Samples.{Exchanged, WrittenOut, EveryOperation, SamplesSound, one_file, name_a, name_beds, programs, handbook, two_five, empty}

pub exchanged : Exchanged
unfolding legal_name stored_name named added removed container payload_in device_info object_info object_info_in operation_of storage_info array object_at storage_shown handles_shown info_shown object_shown part_shown session_opened session_closed object_deleted info_sent object_sent task_of answered cancelled unplugged name_a name_beds
exchanged = refl

pub written_out : WrittenOut
unfolding container device_info array
written_out = refl

-- the stores, entry by entry
empty_sound : (capacity limit : ℕ) → capacity ≤ max_capacity → limit ≤ max_files → Sound (empty capacity limit)
empty_sound capacity limit a b = record {
  capacity_bound = a;
  limit_bound = b;
  total_fits = omega arith;
  count_fits = omega arith;
  ascending = tt;
  numbers = each_from _ [] tt;
  lengths = each_from _ [] tt;
  folders_empty = each_from _ [] tt;
  parents = each_from _ [] tt;
  parents_below = each_from _ [] tt;
}

no_folder : {A : Type 0} → false ≡ true → A
no_folder e = absurd (false≢true e)

programs_sound : Sound programs
programs_sound = record {
  capacity_bound = lit≤ tt;
  limit_bound = lit≤ tt;
  total_fits = lit≤ tt;
  count_fits = lit≤ tt;
  ascending = (lit< tt, (lit< tt, (lit< tt, (lit< tt, tt))));
  numbers = each_from (λ n f. n ≤ last_number) programs.files (lit≤ tt, (lit≤ tt, (lit≤ tt, (lit≤ tt, tt))));
  lengths = each_from (λ n f. length f.bytes ≤ max_length) programs.files (lit≤ tt, (lit≤ tt, (lit≤ tt, (lit≤ tt, tt))));
  folders_empty = each_from (λ n f. is_folder f.format ≡ true → length f.bytes ≡ 0) programs.files ((λ _. refl), ((λ _. refl), (no_folder, (no_folder, tt))));
  parents = each_from (λ n f. is_parent f.parent programs.files ≡ true) programs.files (refl, (refl, (refl, (refl, tt))));
  parents_below = each_from (λ n f. f.parent < n) programs.files (lit< tt, (lit< tt, (lit< tt, (lit< tt, tt))));
}

handbook_sound : Sound handbook
handbook_sound = record {
  capacity_bound = lit≤ tt;
  limit_bound = lit≤ tt;
  total_fits = lit≤ tt;
  count_fits = lit≤ tt;
  ascending = (lit< tt, (lit< tt, tt));
  numbers = each_from (λ n f. n ≤ last_number) handbook.files (lit≤ tt, (lit≤ tt, tt));
  lengths = each_from (λ n f. length f.bytes ≤ max_length) handbook.files (lit≤ tt, (lit≤ tt, tt));
  folders_empty = each_from (λ n f. is_folder f.format ≡ true → length f.bytes ≡ 0) handbook.files ((λ _. refl), (no_folder, tt));
  parents = each_from (λ n f. is_parent f.parent handbook.files ≡ true) handbook.files (refl, (refl, tt));
  parents_below = each_from (λ n f. f.parent < n) handbook.files (lit< tt, (lit< tt, tt));
}

two_five_sound : Sound two_five
two_five_sound = record {
  capacity_bound = lit≤ tt;
  limit_bound = lit≤ tt;
  total_fits = lit≤ tt;
  count_fits = lit≤ tt;
  ascending = (lit< tt, (lit< tt, tt));
  numbers = each_from (λ n f. n ≤ last_number) two_five.files (lit≤ tt, (lit≤ tt, tt));
  lengths = each_from (λ n f. length f.bytes ≤ max_length) two_five.files (lit≤ tt, (lit≤ tt, tt));
  folders_empty = each_from (λ n f. is_folder f.format ≡ true → length f.bytes ≡ 0) two_five.files ((λ _. refl), ((λ _. refl), tt));
  parents = each_from (λ n f. is_parent f.parent two_five.files ≡ true) two_five.files (refl, (refl, tt));
  parents_below = each_from (λ n f. f.parent < n) two_five.files (lit< tt, (lit< tt, tt));
}

one_file_sound : Sound one_file
one_file_sound = record {
  capacity_bound = lit≤ tt;
  limit_bound = lit≤ tt;
  total_fits = lit≤ tt;
  count_fits = lit≤ tt;
  ascending = (lit< tt, tt);
  numbers = each_from (λ n f. n ≤ last_number) one_file.files (lit≤ tt, tt);
  lengths = each_from (λ n f. length f.bytes ≤ max_length) one_file.files (lit≤ tt, tt);
  folders_empty = each_from (λ n f. is_folder f.format ≡ true → length f.bytes ≡ 0) one_file.files (no_folder, tt);
  parents = each_from (λ n f. is_parent f.parent one_file.files ≡ true) one_file.files (refl, tt);
  parents_below = each_from (λ n f. f.parent < n) one_file.files (lit< tt, tt);
}

pub every_operation : EveryOperation
every_operation = refl

pub samples_sound : SamplesSound
samples_sound = record {
  programs_sound = record { first_sound = programs_sound; second_sound = handbook_sound };
  locked_sound = record { first_sound = programs_sound; second_sound = handbook_sound };
  two_five_sound = record { first_sound = two_five_sound; second_sound = handbook_sound };
  just_room_sound = record { first_sound = empty_sound 32768 1 (lit≤ tt) (lit≤ tt); second_sound = handbook_sound };
  no_room_sound = record { first_sound = empty_sound 32767 1 (lit≤ tt) (lit≤ tt); second_sound = handbook_sound };
  image_sound = record { first_sound = empty_sound 0 1 (lit≤ tt) (lit≤ tt); second_sound = one_file_sound };
}
