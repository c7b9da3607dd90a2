-- What the event of a draft names, and its depth (Matrix, Server-Server API, "PDUs", "Auth events selection"; room version 10, "Event
-- format").
use Rattle.std.specs.Prelude.{ℕ, ℤ, pos, negsuc, ◌+ℤ◌, ◌^◌, ◌-◌, List, [], ◌∷◌, take, Option, None, Some, if◌then◌else◌}
use Rattle.std.specs.Int.{int_min, int_max}
use Rattle.std.specs.Ordering.{is_lt, ordering_then, int_cmp, nat_cmp}
use Rattle.std.specs.declared.cmp.Ordering.{Ordering}
use Rattle.std.specs.Cmp.Lexicographic.{slice_cmp}
use Rattle.fed_event.specs.Fields.{depth_of}
use Rattle.fed_room_contract.specs.declared.graph.Stored.{Stored}
use Rattle.fed_room_contract.specs.Graph.{stored_at}
use Rattle.fed_room_contract.specs.Room.{extremities_of, version_of}
use Rattle.fed_room_contract.specs.Draft.{DraftFields}
use Rattle.fed_auth.specs.Selection.{SelectorFields, selection_of}
use Rattle.fed_room.specs.Parts.{EventLinks}
use Rattle.fed_room.specs.States.{resolved_after}

-- the depth of a stored event
abbrev pub depth_in : Option Stored → ℤ
depth_in None = pos 0
depth_in (Some stored) = depth_of stored.event.event

-- one more, in the range of an event's numbers: from -(2^53) + 1 to 2^53 - 1
abbrev pub next_depth : ℤ → ℤ
next_depth depth = int_max (int_min (depth +ℤ pos 1) (pos (2 ^ 53 - 1))) (negsuc (2 ^ 53 - 2))

module _ (events : List Stored) where
  abbrev pub depth_at : List ℕ → ℤ
  depth_at id = depth_in (stored_at events id)

  -- greater depth, then smaller id
  abbrev pub tip_cmp : List ℕ → List ℕ → Ordering
  tip_cmp one other = ordering_then (int_cmp (depth_at other) (depth_at one)) (slice_cmp nat_cmp one other)

  -- ids in this order with one more
  abbrev pub with_tip : List ℕ → List (List ℕ) → List (List ℕ)
  with_tip id [] = id ∷ []
  with_tip id (other ∷ others) = if is_lt (tip_cmp other id) then other ∷ with_tip id others else id ∷ other ∷ others

  -- ids in this order
  abbrev pub by_depth : List (List ℕ) → List (List ℕ)
  by_depth [] = []
  by_depth (id ∷ ids) = with_tip id (by_depth ids)

  -- the prev events: the forward extremities, at most 20, the deepest first
  unfoldable pub prev_events_for : List (List ℕ)
  prev_events_for = take 20 (by_depth (extremities_of events))

  -- one more than the depth of the first, which is the greatest; 1 without
  abbrev pub depth_after : List (List ℕ) → ℤ
  depth_after [] = pos 1
  depth_after (id ∷ ids) = next_depth (depth_at id)

abbrev pub selector_of_draft : DraftFields → SelectorFields
selector_of_draft draft = record { kind = draft.kind; sender = draft.sender; state_key = draft.state_key; content = draft.content }

-- the version of the room, the prev events, and the auth events that the state after them has for the draft
abbrev pub links_of : List Stored → DraftFields → EventLinks
links_of events draft = record {
  version = version_of events;
  auth_events = selection_of (selector_of_draft draft) (resolved_after events (prev_events_for events));
  prev_events = prev_events_for events;
  depth = depth_after events (prev_events_for events);
}
