-- Rule 2 of the authorization rules (Matrix, room version 10, "Authorization rules"): conditions over the auth events of an event, and
-- the state that they make. A create event has none.
use Rattle.std.specs.Prelude.{◌≡◌, ℕ, List, [], ◌∷◌, Bool, true, false, not, ◌&&◌, ◌||◌, ⊤, Option, None, Some, is_some, Result, Ok, Err, if◌then◌else◌, codes, bytes_eq}
use Rattle.std.specs.Option.{option_eq}
use Rattle.std.specs.List.{list_any, filter_map}
use Rattle.std.specs.FinMap as finite
use Rattle.fed_event.specs.Event.{Event}
use Rattle.fed_event.specs.Tests.{holds}
use Rattle.fed_event.specs.Fields.{auth_events_of, kind_of, room_id_of, state_key_of}
use Rattle.fed_room_contract.specs.declared.rule.Rule.{Rule}
use Rattle.fed_room_contract.specs.declared.graph.Stored.{Stored}
use Rattle.fed_room_contract.specs.State.{StateMap, entry_at, with_entry}
use Rattle.fed_room_contract.specs.Graph.{id_of, stored_at}
use Rattle.fed_room_contract.specs.Room.{is_rejection}
use Rattle.fed_auth.specs.Table.{Row, rule, reject, decide}
use Rattle.fed_auth.specs.Selection.{selector_of, is_selected}

-- the stored events of these ids
abbrev pub stored_of : List Stored → List (List ℕ) → List Stored
stored_of events ids = filter_map (stored_at events) ids

abbrev pub kind_in : Stored → List ℕ
kind_in stored = kind_of stored.event.event

abbrev pub state_key_in : Stored → Option (List ℕ)
state_key_in stored = state_key_of stored.event.event

-- two of one type and state key: an event without a state key is like no other
unfoldable pub are_alike : Stored → Stored → Bool
are_alike one other =
    is_some (state_key_in one) && bytes_eq (kind_in one) (kind_in other) && option_eq bytes_eq (state_key_in one) (state_key_in other)

abbrev pub has_double : List Stored → Bool
has_double [] = false
has_double (one ∷ others) = list_any (are_alike one) others || has_double others

-- an auth event of this type and state key
unfoldable pub stands_at : List ℕ → List ℕ → Stored → Bool
stands_at kind key auth = bytes_eq kind (kind_in auth) && option_eq bytes_eq (Some key) (state_key_in auth)

-- an event without a state key is never selected
unfoldable pub is_outside_selection : Event → Stored → Bool
is_outside_selection event auth = not (holds (is_selected (selector_of event) (kind_in auth)) (state_key_in auth))

abbrev pub is_rejected : Stored → Bool
is_rejected auth = is_rejection auth.verdict

unfoldable pub is_create : Stored → Bool
is_create auth = bytes_eq (kind_in auth) (codes "m.room.create")

unfoldable pub is_of_other_room : Event → Stored → Bool
is_of_other_room event auth = not (bytes_eq (room_id_of auth.event.event) (room_id_of event))

-- by the auth events of the event
unfoldable pub auth_table : Event → List Stored → List Row
auth_table event auth =
    reject (rule 2 1 0) (has_double auth)
    ∷ reject (rule 2 2 0) (list_any (is_outside_selection event) auth)
    ∷ reject (rule 2 3 0) (list_any is_rejected auth)
    ∷ reject (rule 2 4 0) (not (list_any is_create auth))
    ∷ reject (rule 2 5 0) (list_any (is_of_other_room event) auth)
    ∷ []

-- the state with this id at a type and a state key, where there is one
abbrev pub with_id_at : StateMap → List ℕ → Option (List ℕ) → List ℕ → StateMap
with_id_at state kind None id = state
with_id_at state kind (Some key) id = with_entry state kind key id

-- the state with this event
unfoldable pub with_stored : StateMap → Stored → StateMap
with_stored state auth = with_id_at state (kind_in auth) (state_key_in auth) (id_of auth)

-- the state with these events, one after another
abbrev pub with_all : StateMap → List Stored → StateMap
with_all state [] = state
with_all state (auth ∷ others) = with_all (with_stored state auth) others

-- the state of the auth events, or the rule that rejects the event
abbrev pub answer_of : Result ⊤ Rule → StateMap → Result StateMap Rule
answer_of (Ok done) state = Ok state
answer_of (Err number) state = Err number

unfoldable pub auth_state_of : List Stored → Event → Result StateMap Rule
auth_state_of events event =
    let auth = stored_of events (auth_events_of event) in
    if bytes_eq (kind_of event) (codes "m.room.create") then Ok finite.empty else answer_of (decide (auth_table event auth)) (with_all finite.empty auth)

-- what a state names at a type and a state key is, where it is stored, an event of these
pub record NamesOwnEvents (events : List Stored) (state : StateMap) : Type 0 where
  pub each : (kind key id : List ℕ) (auth : Stored) → entry_at state kind key ≡ Some id → stored_at events id ≡ Some auth → stands_at kind key auth ≡ true
