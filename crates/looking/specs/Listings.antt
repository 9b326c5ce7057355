-- Which files a listing has.
use Rattle.std.specs.Prelude.{ℕ, Bool, true, cond, ◌&&◌, List, Some, None, Ok, Err, Option, Result, ◌==◌}
use Rattle.object.specs.Formats.{is_folder}
use Rattle.store.specs.Checks.{provided}
use Rattle.store.specs.Contents.{File}
use Rattle.protocol.specs.declared.fault.OperationFault.{OperationFault}
use Rattle.protocol.specs.declared.fault.OperationFault.TheVariants.{InvalidHandle, FormatNotSupported, InvalidParent}
use Rattle.protocol.specs.Checks.{present}
use Rattle.protocol.specs.Looking.{Shown, names, handles_in, shows_handles}
use Rattle.protocol.specs.Storages.{Storages, root, storage_of, object_at}
use Rattle.looking.specs.declared.listing.Listing.{Listing}
use Rattle.looking.specs.Places.{naming, named_by, place_of}
use Rattle.datasets.specs.declared.info.StorageKind.{StorageKind}

-- a parent is the one that is asked for, if one is
abbrev pub lies_in : Option ℕ → ℕ → Bool
lies_in None parent = true
lies_in (Some folder) parent = parent == folder

abbrev pub listed_in : Option ℕ → File → Bool
listed_in wanted f = lies_in wanted f.parent

abbrev pub lists : Option StorageKind → Option ℕ → Result Listing OperationFault
lists only wanted = Ok (record { only = only; wanted = wanted })

-- the listing of a folder with a handle
abbrev pub folder_listed : Storages → Option StorageKind → ℕ → Result Listing OperationFault
folder_listed p only folder =
    present (object_at p folder) InvalidHandle λ f.
    provided (is_folder f.format && names (naming only) (storage_of folder)) InvalidParent
    (lists (Some (place_of folder).storage) (Some (place_of folder).number))

-- the listing that GetObjectHandles asks for
abbrev pub listing_in : Storages → ℕ → ℕ → Result (Option StorageKind) OperationFault → Result Listing OperationFault
listing_in p format folder (Err f) = Err f
listing_in p format folder (Ok only) =
    provided (format == 0) FormatNotSupported
    (cond (folder == 0) (lists only None)
    (cond (folder == root) (lists only (Some 0))
    (folder_listed p only folder)))

abbrev pub listing_told : Storages → ℕ → ℕ → ℕ → Result Listing OperationFault
listing_told p storage format folder = listing_in p format folder (named_by storage)

-- its handles
abbrev pub handles_of : Storages → Listing → List ℕ
handles_of p l = handles_in p (naming l.only) (listed_in l.wanted)

abbrev pub shows_listing : Storages → Result Listing OperationFault → Result Shown OperationFault
shows_listing p (Ok l) = shows_handles p (naming l.only) (listed_in l.wanted)
shows_listing p (Err f) = Err f
