-- Power events and their order (Matrix, room version 2, "State resolution", "Definitions": "Power events", "Reverse topological power
-- ordering").
use Rattle.std.specs.Prelude.{ℕ, List, [], Bool, true, false, not, ◌&&◌, ◌||◌, Option, Some, if◌then◌else◌, is_some, find, option_map, option_and_then, codes, bytes_eq, slice_get}
use Rattle.std.specs.List.{list_all, filter_map}
use Rattle.std.specs.Ordering.{is_lt, ordering_then, int_cmp, nat_cmp}
use Rattle.std.specs.declared.cmp.Ordering.{Ordering}
use Rattle.std.specs.Cmp.Lexicographic.{slice_cmp}
use Rattle.fed_event.specs.Event.{Event}
use Rattle.fed_event.specs.Tests.{holds}
use Rattle.fed_event.specs.Fields.{content_of, kind_of, sender_of, state_key_of, origin_server_ts_of}
use Rattle.fed_room_contract.specs.declared.graph.Stored.{Stored}
use Rattle.fed_room_contract.specs.Graph.{id_of}
use Rattle.fed_auth.specs.declared.membership.Membership.{Membership}
use Rattle.fed_auth.specs.declared.membership.Membership.TheVariants.{Leave, Ban}
use Rattle.fed_auth.specs.AuthState.{stands_at, is_create}
use Rattle.fed_auth.specs.Levels.{LevelsGiven, user_level}
use Rattle.fed_auth.specs.Membership.{membership_in}
use Rattle.fed_auth.specs.StateView.{creator_in}
use Rattle.fed_resolve.specs.Chain.{auths_at, is_in_chain}
use Rattle.fed_resolve.specs.Order.{Before, MayBeListed, is_among, in_order}

-- ---- power events

abbrev pub removes : Membership → Bool
removes Leave = true
removes Ban = true
removes membership = false

-- a member event by which a user takes another one's membership away
abbrev pub is_removal : Event → Bool
is_removal event =
    bytes_eq (kind_of event) (codes "m.room.member") && removes (membership_in (content_of event)) && holds (λ key. not (bytes_eq key (sender_of event))) (state_key_of event)

-- a state event of the power levels or the join rules
abbrev pub is_rule_event : Event → Bool
is_rule_event event =
    is_some (state_key_of event) && (bytes_eq (kind_of event) (codes "m.room.power_levels") || bytes_eq (kind_of event) (codes "m.room.join_rules"))

-- such an event, or such a member event
abbrev pub is_power_event : Event → Bool
is_power_event event = is_rule_event event || is_removal event

abbrev pub is_power_place : List Stored → ℕ → Bool
is_power_place events place = holds (λ stored. is_power_event stored.event.event) (slice_get events place)

-- ---- the level of a sender

-- the first auth event that stands at a type and a state key
abbrev pub first_auth : List Stored → ℕ → List ℕ → List ℕ → Option Stored
first_auth events place kind key = find (stands_at kind key) (filter_map (slice_get events) (auths_at events place))

abbrev pub event_of : Stored → Event
event_of stored = stored.event.event

-- the create event that the event at a place reads: itself, where it is one
abbrev pub create_read : List Stored → ℕ → Stored → Option Event
create_read events place stored = if is_create stored then Some (event_of stored) else option_map event_of (first_auth events place (codes "m.room.create") [])

-- the levels by the power levels event and the create event among the auth events
abbrev pub levels_read : List Stored → ℕ → Stored → LevelsGiven
levels_read events place stored = record {
  content = option_map (λ auth. content_of (event_of auth)) (first_auth events place (codes "m.room.power_levels") []);
  creator = option_and_then creator_in (create_read events place stored);
}

-- ---- the order

-- greater level of the sender, then earlier time, then smaller id
abbrev pub power_cmp : List Stored → ℕ → ℕ → Stored → Stored → Ordering
power_cmp events p q one other =
    ordering_then (int_cmp (user_level (levels_read events q other) (sender_of (event_of other))) (user_level (levels_read events p one) (sender_of (event_of one))))
    (ordering_then (int_cmp (origin_server_ts_of (event_of one)) (origin_server_ts_of (event_of other)))
    (slice_cmp nat_cmp (id_of one) (id_of other)))

abbrev pub before_stored : List Stored → ℕ → ℕ → Option Stored → Option Stored → Bool
before_stored events p q (Some one) (Some other) = is_lt (power_cmp events p q one other)
before_stored events p q one other = false

abbrev pub is_before_in_power : List Stored → Before
is_before_in_power events p q = before_stored events p q (slice_get events p) (slice_get events q)

-- all of the set that is in its auth chain is listed
abbrev pub has_chain_listed : List Stored → List ℕ → MayBeListed
has_chain_listed events set listed place = list_all (λ other. not (is_in_chain events place other) || is_among listed other) set

-- a set in its power order
abbrev pub power_order : List Stored → List ℕ → List ℕ
power_order events set = in_order (has_chain_listed events set) (is_before_in_power events) set
