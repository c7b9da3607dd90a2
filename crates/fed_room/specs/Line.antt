-- Events that one signer after another makes of drafts, each after the one before it (Matrix, Server-Server API, "PDUs", "Auth events
-- selection"; room version 10, "Event format").
use Rattle.std.specs.Prelude.{ℕ, ℤ, pos, List, [], ◌∷◌, ◌++◌, ◌-◌, length, Option, None, Some, Result, Ok, Err}
use Rattle.std.specs.List.{slice_get}
use Rattle.std.specs.FinMap as finite
use Rattle.fed_event.specs.declared.fault.PduFault.{PduFault}
use Rattle.fed_redaction.specs.declared.version.Version.{Version}
use Rattle.fed_event.specs.Checked.{CheckedEvent}
use Rattle.fed_event.specs.Fields.{depth_of}
use Rattle.fed_room_contract.specs.declared.verdict.Verdict.TheVariants.{Accepted}
use Rattle.fed_room_contract.specs.Draft.{DraftFields}
use Rattle.fed_room_contract.specs.Prepared.{Signer}
use Rattle.fed_room_contract.specs.Room.{event_id}
use Rattle.fed_room_contract.specs.State.{StateMap}
use Rattle.fed_auth.specs.Selection.{selection_of}
use Rattle.fed_room.specs.Links.{next_depth, selector_of_draft}
use Rattle.fed_room.specs.Made.{event_of}
use Rattle.fed_room.specs.Parts.{EventLinks}
use Rattle.fed_room.specs.States.{state_with}

-- the version of the room, the events, and the state after the last of them
pub record EventLine : Type 0 where
  pub version : Version
  pub events : List CheckedEvent
  pub state : StateMap

abbrev pub empty_line : Version → EventLine
empty_line version = record { version = version; events = []; state = finite.empty }

abbrev pub last_of : List CheckedEvent → Option CheckedEvent
last_of events = slice_get events (length events - 1)

abbrev pub prev_events_after : Option CheckedEvent → List (List ℕ)
prev_events_after None = []
prev_events_after (Some last) = event_id last ∷ []

abbrev pub depth_after_event : Option CheckedEvent → ℤ
depth_after_event None = pos 1
depth_after_event (Some last) = next_depth (depth_of last.event)

-- what the next event names: the last one, and the auth events that the state after it has for the draft
abbrev pub links_after : EventLine → DraftFields → EventLinks
links_after line draft = record {
  version = line.version;
  auth_events = selection_of (selector_of_draft draft) line.state;
  prev_events = prev_events_after (last_of line.events);
  depth = depth_after_event (last_of line.events);
}

-- with one event more, which is accepted
abbrev pub with_next : EventLine → CheckedEvent → EventLine
with_next line event = record {
  version = line.version;
  events = line.events ++ event ∷ [];
  state = state_with line.state (record { event = event; verdict = Accepted });
}

abbrev pub if_made : EventLine → Result CheckedEvent PduFault → Result EventLine PduFault
if_made line (Ok event) = Ok (with_next line event)
if_made line (Err fault) = Err fault

-- with the event that the signer makes of a draft
abbrev pub after_draft : Signer → EventLine → DraftFields → Result EventLine PduFault
after_draft signer line draft = if_made line (event_of signer (links_after line draft) draft)
