-- What holds of the session after every list of calls.
use Rattle.std.specs.Prelude.{◌≡◌, ℕ, ◌+◌, ◌<◌, ◌≤◌, false, List, length, None}
use Rattle.object.specs.Formats.{is_folder}
use Rattle.store.specs.Contents.{total, lookup}
use Rattle.store.specs.Sound.{max_length}
use Rattle.store.specs.Laws.{Below}
use Rattle.protocol.specs.declared.session.Announcement.{Announcement}
use Rattle.protocol.specs.declared.session.OpenSession.{OpenSession}
use Rattle.protocol.specs.declared.session.Session.{Session}
use Rattle.protocol.specs.declared.session.Session.TheVariants.{Closed, Open}
use Rattle.protocol.specs.declared.session.Transfer.{Transfer}
use Rattle.protocol.specs.declared.session.Transfer.TheVariants.{Idle, Announced}
use Rattle.protocol.specs.Storages.{Storages, SoundStorages}
use Rattle.protocol.specs.Machine.{State, Call, state_after, fresh}

-- an announcement that stands: within the limits, its number below the next and on no store, and there is room for it
pub record Stands (p : Storages) (next : ℕ) (a : Announcement) : Type 0 where
  pub positive : 1 ≤ a.number
  pub below_next : a.number < next
  pub new : lookup a.number p.first.files ≡ None
  pub short : a.size ≤ max_length
  pub no_folder : is_folder a.format ≡ false
  pub parent_below : a.parent < a.number
  pub unlocked : p.locked ≡ false
  pub free_place : length p.first.files < p.first.limit
  pub free_bytes : total p.first.files + a.size ≤ p.first.capacity

abbrev pub TransferFits : Storages → ℕ → Transfer → Type 0
TransferFits p next Idle = Unit {0}
TransferFits p next (Announced a) = Stands p next a

pub record OpenFits (p : Storages) (s : OpenSession) : Type 0 where
  pub id_positive : 1 ≤ s.id
  pub expected_positive : 1 ≤ s.expected
  pub expected_bound : s.expected ≤ 0xFFFFFFFE
  pub next_positive : 1 ≤ s.next
  pub next_bound : s.next ≤ 0x7FFFFFFF
  pub next_above : Below s.next p.first.files
  pub transfer_fits : TransferFits p s.next s.transfer

abbrev pub SessionFits : Storages → Session → Type 0
SessionFits p Closed = Unit {0}
SessionFits p (Open s) = OpenFits p s

abbrev pub StateFits : State → Type 0
StateFits b = SessionFits b.storages b.session

abbrev pub SessionsFit : Type 0
SessionsFit = (p : Storages) → SoundStorages p → (calls : List Call) → StateFits (state_after (fresh p) calls)
