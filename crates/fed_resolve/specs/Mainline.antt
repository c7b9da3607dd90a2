-- The mainline order (Matrix, room version 2, "State resolution", "Definitions": "Mainline ordering").
use Rattle.std.specs.Prelude.{ℕ, zero, suc, List, [], ◌∷◌, Bool, true, false, ◌==◌, Option, None, Some, length, find, min, position, codes, slice_get}
use Rattle.std.specs.Ordering.{is_lt, ordering_then, int_cmp, nat_cmp}
use Rattle.std.specs.declared.cmp.Ordering.{Ordering}
use Rattle.std.specs.declared.cmp.Ordering.TheVariants.{Less, Equal, Greater}
use Rattle.std.specs.Cmp.Lexicographic.{slice_cmp}
use Rattle.fed_event.specs.Tests.{holds}
use Rattle.fed_event.specs.Fields.{origin_server_ts_of}
use Rattle.fed_room_contract.specs.declared.graph.Stored.{Stored}
use Rattle.fed_room_contract.specs.Graph.{id_of}
use Rattle.fed_auth.specs.AuthState.{stands_at}
use Rattle.fed_resolve.specs.Chain.{auths_at}
use Rattle.fed_resolve.specs.Order.{Before, MayBeListed, in_order}
use Rattle.fed_resolve.specs.PowerOrder.{event_of}

-- a power levels event of a room
abbrev pub is_levels_at : List Stored → ℕ → Bool
is_levels_at events place = holds (stands_at (codes "m.room.power_levels") []) (slice_get events place)

-- the power levels event among the auth events of the event at a place: the first that it names
abbrev pub levels_auth : List Stored → ℕ → Option ℕ
levels_auth events place = find (is_levels_at events) (auths_at events place)

-- a power levels event, the one among its auth events, and so on, in at most so many steps
abbrev pub mainline_from : List Stored → ℕ → Option ℕ → List ℕ
mainline_from events zero place = []
mainline_from events (suc steps) None = []
mainline_from events (suc steps) (Some place) = place ∷ mainline_from events steps (levels_auth events place)

-- the mainline of a power levels event; without one it is empty
abbrev pub mainline : List Stored → Option ℕ → List ℕ
mainline events place = mainline_from events (length events) place

-- the smaller of two indices; `None` is infinite
abbrev pub least_of : Option ℕ → Option ℕ → Option ℕ
least_of None other = other
least_of (Some i) None = Some i
least_of (Some i) (Some j) = Some (min i j)

-- the least index in the mainline of some places
abbrev pub least_index : List ℕ → List ℕ → Option ℕ
least_index line [] = None
least_index line (place ∷ places) = least_of (position (λ p. p == place) line) (least_index line places)

-- The position of the event at a place: the least index of the mainline events that are reached from it through power levels events. The
-- event itself is left out.
abbrev pub position_of : List Stored → List ℕ → ℕ → Option ℕ
position_of events line place = least_index line (mainline events (levels_auth events place))

-- greater position first, and an infinite one before all others
abbrev pub position_cmp : Option ℕ → Option ℕ → Ordering
position_cmp None None = Equal
position_cmp None (Some q) = Less
position_cmp (Some p) None = Greater
position_cmp (Some p) (Some q) = nat_cmp q p

-- greater position, then earlier time, then smaller id
abbrev pub mainline_cmp : List Stored → List ℕ → ℕ → ℕ → Stored → Stored → Ordering
mainline_cmp events line p q one other =
    ordering_then (position_cmp (position_of events line p) (position_of events line q))
    (ordering_then (int_cmp (origin_server_ts_of (event_of one)) (origin_server_ts_of (event_of other)))
    (slice_cmp nat_cmp (id_of one) (id_of other)))

abbrev pub before_stored : List Stored → List ℕ → ℕ → ℕ → Option Stored → Option Stored → Bool
before_stored events line p q (Some one) (Some other) = is_lt (mainline_cmp events line p q one other)
before_stored events line p q one other = false

abbrev pub is_before_in_mainline : List Stored → List ℕ → Before
is_before_in_mainline events line p q = before_stored events line p q (slice_get events p) (slice_get events q)

-- every place may be listed at once
abbrev pub at_once : MayBeListed
at_once listed place = true

-- a set in the mainline order of a power levels event
abbrev pub mainline_order : List Stored → Option ℕ → List ℕ → List ℕ
mainline_order events levels set = in_order at_once (is_before_in_mainline events (mainline events levels)) set
