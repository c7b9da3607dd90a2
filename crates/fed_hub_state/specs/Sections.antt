-- What the sections do, by the definitions of the steps of a server.
use Rattle.std.specs.Prelude.{◌≡◌, ◌≢◌, ℕ, List, ◌∷◌, [], Bool, true, false, Result, Ok, Err}
use Rattle.serde_json.specs.Data.{Data}
use Rattle.fed_journal.specs.declared.entry.Cause.{Cause}
use Rattle.fed_journal.specs.declared.offered.Offered.TheVariants as offered
use Rattle.fed_journal.specs.Offering.{IsMade, IsOffered, open_among, event_sent, event_has_no_place, IsEduOffered, edu_sent, edu_has_no_place, IsClosing, was_closed, close_has_no_place, is_closed_now}
use Rattle.fed_journal.specs.declared.parcel.Parcel.{Parcel}
use Rattle.fed_journal.specs.declared.parcel.Load.TheVariants.{End}
use Rattle.fed_dest.specs.ServerSet.{is_among}
use Rattle.fed_room_contract.specs.Draft.{DraftFields}
use Rattle.fed_room_contract.specs.Prepared.{PreparedEvent, Signer}
use Rattle.fed_room_contract.specs.Room.{RoomState}
use Rattle.fed_room.specs.Room.{room_rules}
use Rattle.fed_outbox.specs.declared.fault.OutboxFault.{OutboxFault}
use Rattle.fed_outbox.specs.declared.fault.OutboxFault.TheVariants.{Memory, WrongPlace, Ended}
use Rattle.fed_outbox.specs.Outbox.{OutboxState, expected, fits, is_next}
use Rattle.fed_outbox.specs.Collecting.{collected}
use Rattle.fed_journal.specs.Journal.{is_closed}
use Rattle.fed_hub_state.specs.declared.sending_journal.CloseFault.{CloseFault}
use Rattle.fed_hub_state.specs.declared.sending_journal.CloseFault.TheVariants as fault
use Rattle.fed_hub_state.specs.declared.sending_journal.EnterFault.{EnterFault}
use Rattle.fed_hub_state.specs.declared.sending_journal.EnterFault.TheVariants as enter
use Rattle.fed_hub_state.specs.declared.sending_journal.EnterFault.TheVariants.{ShutDown, Limit}
use Rattle.fed_hub_state.specs.ClientToken.{ClientShare, with_told}
use Rattle.fed_hub_state.specs.SendingJournal.{SendingState}

-- it is collected, as the first of any queue
abbrev pub IsCollected : Parcel → OutboxState → OutboxState → Type 0
IsCollected parcel old new = (later : List Parcel) → collected (record { queue = parcel ∷ later; outbox = old }) ≡ record { queue = later; outbox = new }

-- why it is not
abbrev pub IsRefused : Parcel → OutboxState → OutboxFault → Type 0
IsRefused parcel o Ended = o.has_end ≡ true
IsRefused parcel o (WrongPlace number) = (o.has_end ≡ false) × (is_next o parcel.place ≡ false) × (number ≡ expected o)
IsRefused parcel o Memory = (fits o parcel.place ≡ true) × (parcel.load ≢ End)

-- ---- an event is offered

-- It is stored in its room and offered to its destinations, behind the closings of the outboxes that turn out to be lost, and the client is told
-- its number; or nothing changes. That is as defined for whatever draft the room made it of.
abbrev pub EventIsOffered : PreparedEvent → List ℕ → RoomState → SendingState → ClientShare → Result ℕ EnterFault → RoomState → SendingState → ClientShare → Type 0
EventIsOffered p dests room old client (Ok number) stored new after =
    (lost reached : List ℕ) × ((old.is_shut ≡ false) × (new.is_shut ≡ false) × (after ≡ with_told client (offered.Event p.event))
    × ((signer : Signer) (servers : List (List ℕ)) (own : ℕ) (draft : DraftFields) → IsMade room_rules signer servers own room.stored draft p dests
    → IsOffered room_rules signer servers own draft lost room old.entries (event_sent number p.event reached) stored new.entries))
EventIsOffered p dests room old client (Err Limit) stored new after =
    (old.is_shut ≡ false) × (stored ≡ room) × (new ≡ old) × (after ≡ client)
    × ((signer : Signer) (servers : List (List ℕ)) (own : ℕ) (draft : DraftFields) → IsMade room_rules signer servers own room.stored draft p dests
    → IsOffered room_rules signer servers own draft [] room old.entries event_has_no_place stored new.entries)
EventIsOffered p dests room old client (Err ShutDown) stored new after = (old.is_shut ≡ true) × (stored ≡ room) × (new ≡ old) × (after ≡ client)
EventIsOffered p dests room old client (Err enter.Memory) stored new after = (old.is_shut ≡ false) × (stored ≡ room) × (new ≡ old) × (after ≡ client)
EventIsOffered p dests room old client (Err (enter.Full full)) stored new after =
    (old.is_shut ≡ false) × (is_among (open_among old.entries dests) full.dest ≡ true) × (stored ≡ room) × (new ≡ old) × (after ≡ client)

-- ---- an ephemeral data unit is offered

-- It is offered to some servers, behind the closings of the outboxes that turn out to be lost, and the client is told its number; or nothing
-- changes.
abbrev pub EduIsOffered : Data → List ℕ → SendingState → ClientShare → Result ℕ EnterFault → SendingState → ClientShare → Type 0
EduIsOffered value dests old client (Ok number) new after =
    (lost reached : List ℕ) × ((old.is_shut ≡ false) × (new.is_shut ≡ false) × IsEduOffered value dests lost old.entries (edu_sent number reached) new.entries × (after ≡ with_told client (offered.Edu value)))
EduIsOffered value dests old client (Err Limit) new after = (old.is_shut ≡ false) × IsEduOffered value dests [] old.entries edu_has_no_place new.entries × (new ≡ old) × (after ≡ client)
EduIsOffered value dests old client (Err ShutDown) new after = (old.is_shut ≡ true) × (new ≡ old) × (after ≡ client)
EduIsOffered value dests old client (Err enter.Memory) new after = (old.is_shut ≡ false) × (new ≡ old) × (after ≡ client)
EduIsOffered value dests old client (Err (enter.Full full)) new after = (old.is_shut ≡ false) × (is_among (open_among old.entries dests) full.dest ≡ true) × (new ≡ old) × (after ≡ client)

-- ---- an outbox is closed

-- for a cause, which is not asked for only where the end came back
abbrev pub OutboxIsClosed : ℕ → SendingState → Result Bool CloseFault → SendingState → Type 0
OutboxIsClosed d old (Ok true) new = (cause : Cause) × ((new.is_shut ≡ old.is_shut) × IsClosing d cause old.entries is_closed_now new.entries)
OutboxIsClosed d old (Ok false) new = ((cause : Cause) → IsClosing d cause old.entries was_closed new.entries) × (new ≡ old)
OutboxIsClosed d old (Err fault.Limit) new = ((cause : Cause) → IsClosing d cause old.entries close_has_no_place new.entries) × (new ≡ old)
OutboxIsClosed d old (Err fault.Memory) new = (is_closed old.entries d ≡ false) × (new ≡ old)
OutboxIsClosed d old (Err (fault.Full full)) new = (is_closed old.entries d ≡ false) × (full.dest ≡ d) × (new ≡ old)
