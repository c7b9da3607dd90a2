-- What a server does with its journal: it offers events of its rooms and ephemeral data units to other servers, and closes outboxes (Matrix,
-- Server-Server API, "PDUs" and "EDUs"). An event goes to the servers that are joined in the state before it. How a server keeps what it
-- offers is this project's own.
use Rattle.std.specs.Prelude.{◌≡◌, ◌+◌, ◌^◌, ℕ, nat_le, true, false, not, Bool, List, [], ◌∷◌, ◌++◌, All, length, filter, Some, None, Ok, Err}
use Rattle.std.specs.List.Sorted.{IsStrictlyIncreasing}
use Rattle.serde_json.specs.Data.{Data}
use Rattle.fed_event.specs.Checked.{CheckedEvent}
use Rattle.fed_room_contract.specs.declared.graph.Stored.{Stored}
use Rattle.fed_room_contract.specs.declared.refusal.Refusal.{Refusal}
use Rattle.fed_room_contract.specs.Draft.{DraftFields}
use Rattle.fed_room_contract.specs.Graph.{is_ready}
use Rattle.fed_room_contract.specs.Prepared.{PreparedEvent, Signer, prepared_of}
use Rattle.fed_room_contract.specs.Room.{RoomState, Rules, committed}
use Rattle.fed_dest.specs.Joined.{AreDestinations}
use Rattle.fed_dest.specs.ServerSet.{is_among}
use Rattle.fed_journal.specs.declared.edu.EduFault.{EduFault}
use Rattle.fed_journal.specs.declared.entry.Cause.{Cause}
use Rattle.fed_journal.specs.declared.entry.Cause.TheVariants.{Lost}
use Rattle.fed_journal.specs.declared.entry.Entry.{Entry}
use Rattle.fed_journal.specs.declared.entry.Entry.TheVariants.{Event, Edu, Close}
use Rattle.fed_journal.specs.Edu.{edu_fault_of}
use Rattle.fed_journal.specs.Journal.{is_closed, events_of, edus_of}

-- those of some servers whose outboxes are open
abbrev pub open_among : List Entry → List ℕ → List ℕ
open_among entries dests = filter (λ d. not (is_closed entries d)) dests

-- a journal has a place for an entry, and for the closings of so many outboxes
abbrev pub has_place : List Entry → ℕ → Bool
has_place entries closings = nat_le (length entries + 1 + closings) (2 ^ 53)

-- the entries with a closing behind them for each of some outboxes that are lost
abbrev pub with_lost : List Entry → List ℕ → List Entry
with_lost entries [] = entries
with_lost entries (d ∷ lost) = with_lost (entries ++ Close d Lost ∷ []) lost

-- Outboxes that turn out to be lost while an entry for some servers is made: those of open ones among these servers, each once.
pub record AreLost (entries : List Entry) (dests lost : List ℕ) : Type 0 where
  pub rising : IsStrictlyIncreasing lost
  pub reached : All (λ d. is_among (open_among entries dests) d ≡ true) lost

-- ---- an event

-- What is told of a draft: the room makes no event of it; the journal has no place for the event and for closing each outbox that it
-- reaches; or it was sent: its number among the events of the journal, the event, and the servers whose outboxes it reaches.
pub data EventTold : Type 0 where
  event_not_made : Refusal → EventTold
  event_has_no_place : EventTold
  event_sent : (number : ℕ) (event : CheckedEvent) (reached : List ℕ) → EventTold

-- the event that a room of these stored events makes of a draft, which names stored events alone, and where it goes from the server at place
-- `own` of the list `servers`
pub record IsMade (rules : Rules) (signer : Signer) (servers : List (List ℕ)) (own : ℕ) (stored : List Stored) (draft : DraftFields) (p : PreparedEvent) (dests : List ℕ) : Type 0 where
  pub prepared : prepared_of rules signer stored draft ≡ Ok p
  pub ready : is_ready stored p.event.event ≡ true
  pub destinations : AreDestinations stored p.before servers own dests

-- What a server tells of a draft for a room, and what the room and the journal are then: the event is stored in the room and entered in the
-- journal, behind the closings of the outboxes that turn out to be lost.
pub data IsOffered (rules : Rules) (signer : Signer) (servers : List (List ℕ)) (own : ℕ) (draft : DraftFields) (lost : List ℕ) (room : RoomState) (entries : List Entry)
    : EventTold → RoomState → List Entry → Type 0 where
  not_made : (refusal : Refusal) → prepared_of rules signer room.stored draft ≡ Err refusal
      → IsOffered rules signer servers own draft lost room entries (event_not_made refusal) room entries
  no_place : (p : PreparedEvent) (dests : List ℕ) → IsMade rules signer servers own room.stored draft p dests
      → has_place entries (length (open_among entries dests)) ≡ false
      → IsOffered rules signer servers own draft lost room entries event_has_no_place room entries
  sent : (p : PreparedEvent) (dests : List ℕ) → IsMade rules signer servers own room.stored draft p dests
      → has_place entries (length (open_among entries dests)) ≡ true → AreLost entries dests lost
      → IsOffered rules signer servers own draft lost room entries
      (event_sent (length (events_of (with_lost entries lost ++ Event p.event dests ∷ []))) p.event (open_among (with_lost entries lost) dests))
      (committed room p.event) (with_lost entries lost ++ Event p.event dests ∷ [])

-- ---- an ephemeral data unit

-- what is told of one, in the same way
pub data EduTold : Type 0 where
  edu_faulty : EduFault → EduTold
  edu_has_no_place : EduTold
  edu_sent : (number : ℕ) (reached : List ℕ) → EduTold

-- What a server tells of an ephemeral data unit for some servers, and what the journal is then.
pub data IsEduOffered (value : Data) (dests lost : List ℕ) (entries : List Entry) : EduTold → List Entry → Type 0 where
  faulty : (fault : EduFault) → edu_fault_of value ≡ Some fault → IsEduOffered value dests lost entries (edu_faulty fault) entries
  no_place : edu_fault_of value ≡ None → has_place entries (length (open_among entries dests)) ≡ false → IsEduOffered value dests lost entries edu_has_no_place entries
  sent : edu_fault_of value ≡ None → has_place entries (length (open_among entries dests)) ≡ true → AreLost entries dests lost
      → IsEduOffered value dests lost entries
      (edu_sent (length (edus_of (with_lost entries lost ++ Edu value dests ∷ []))) (open_among (with_lost entries lost) dests))
      (with_lost entries lost ++ Edu value dests ∷ [])

-- ---- a closing

-- what is told of a closing: the outbox was closed before, the journal has no place for the closing, or it was open and is closed now
pub data CloseTold : Type 0 where
  was_closed : CloseTold
  close_has_no_place : CloseTold
  is_closed_now : CloseTold

-- What a server tells when the outbox for d is to be closed for some cause, and what the journal is then.
pub data IsClosing (d : ℕ) (cause : Cause) (entries : List Entry) : CloseTold → List Entry → Type 0 where
  before : is_closed entries d ≡ true → IsClosing d cause entries was_closed entries
  no_place : is_closed entries d ≡ false → has_place entries 0 ≡ false → IsClosing d cause entries close_has_no_place entries
  closed : is_closed entries d ≡ false → has_place entries 0 ≡ true → IsClosing d cause entries is_closed_now (entries ++ Close d cause ∷ [])
