-- What every room relies on of the rules that it goes by.
use Rattle.std.specs.Prelude.{◌≡◌, ◌≤◌, ◌++◌, ℕ, List, Some, true}
use Rattle.fed_event.specs.Event.{Event}
use Rattle.fed_room_contract.specs.declared.graph.Stored.{Stored}
use Rattle.fed_room_contract.specs.State.{StateMap, entry_at}
use Rattle.fed_room_contract.specs.Graph.{IsGraph, is_stored, is_ready}
use Rattle.fed_room_contract.specs.Draft.{DraftFields, Bears}
use Rattle.fed_room_contract.specs.Room.{Rules}

-- each entry of the state names a stored event
abbrev pub NamesStored : List Stored → StateMap → Type 0
NamesStored events state = (kind key id : List ℕ) → entry_at state kind key ≡ Some id → is_stored events id ≡ true

-- the state before an event stays as the room grows, states name stored events, and what is made of a draft has its fields
pub record AreLawful (rules : Rules) : Type 0 where
  pub stays : (events more : List Stored) (event : Event) → IsGraph (events ++ more) → is_ready events event ≡ true → rules.before (events ++ more) event ≡ rules.before events event
  pub before : (events : List Stored) (event : Event) → IsGraph events → is_ready events event ≡ true → NamesStored events (rules.before events event)
  pub current : (events : List Stored) → IsGraph events → NamesStored events (rules.current events)
  pub bears : (events : List Stored) (draft : DraftFields) → draft.at_ms ≤ 9007199254740991 → Bears draft (rules.parts events draft)
