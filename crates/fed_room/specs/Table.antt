-- Verdicts on events and the states before them, by the ids of the events, and a current state.
use Rattle.std.specs.Prelude.{ℕ, List, Bool, Option, Some, None, filter, refl}
use Rattle.std.specs.List.{list_any}
use Rattle.std.specs.Str.{bytes_eq}
use Rattle.fed_event.specs.Event.{Event}
use Rattle.fed_event.specs.EventId.{event_id_of}
use Rattle.fed_room_contract.specs.declared.graph.Stored.{Stored}
use Rattle.fed_room_contract.specs.Graph.{is_stored, named_by}
use Rattle.std.specs.Coded.{Coded, code_by, coded×}
use Rattle.std.specs.FinMap as finite
use Rattle.fed_json.specs.TextMap.{TextMap, text_map_code}
use Rattle.fed_room_contract.specs.declared.verdict.Verdict.{Verdict}
use Rattle.fed_room_contract.specs.declared.verdict.Verdict.TheVariants.{Accepted}
use Rattle.fed_room_contract.specs.State.{StateMap, state_code}
use Rattle.fed_room_contract.specs.Verdict.{verdict_code}
use Rattle.fed_room.specs.declared.table.Row.{Row}

abbrev row_code : Coded Row
row_code = code_by (Verdict × StateMap) (coded× verdict_code state_code) (λ r. (r.verdict, r.before)) (λ p. record { verdict = p.0; before = p.1 }) (λ _. refl)

pub record TableState : Type 0 where
  pub rows : TextMap Row
  pub current : StateMap

abbrev pub table_code : Coded TableState
table_code = code_by (TextMap Row × StateMap) (coded× (text_map_code row_code) state_code) (λ t. (t.rows, t.current)) (λ p. record { rows = p.0; current = p.1 }) (λ _. refl)

-- an event without a row is accepted
abbrev pub verdict_in : Option Row → Verdict
verdict_in None = Accepted
verdict_in (Some row) = row.verdict

abbrev pub verdict_at : TableState → List ℕ → Verdict
verdict_at table id = verdict_in (finite.get table.rows id)

-- the entries of a state that name events of such ids
abbrev pub keeping : (List ℕ → Bool) → StateMap → StateMap
keeping passes state = finite.from_entries (filter (λ e. passes e.1) (finite.entries state))

-- the event names the event of this id
abbrev pub is_named : Event → List ℕ → Bool
is_named event id = list_any (λ named. bytes_eq named id) (named_by event)

-- nothing holds before an event without a row; else what the row has of events that the event names
abbrev pub before_in : Option Row → Event → StateMap
before_in None event = finite.empty
before_in (Some row) event = keeping (is_named event) row.before

abbrev pub before_at : TableState → Event → StateMap
before_at table event = before_in (finite.get table.rows (event_id_of event)) event

-- what the current state has of stored events
abbrev pub current_at : TableState → List Stored → StateMap
current_at table events = keeping (is_stored events) table.current

-- with this row for the event, in the place of the one that was there
abbrev pub with_row : TableState → List ℕ → Row → TableState
with_row table id row = record { rows = finite.insert table.rows id row; current = table.current }
