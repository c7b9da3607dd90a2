-- What a journal keeps for one destination: where its events and its EDUs stand among the entries, how many parcels were ever placed for
-- it, whether its outbox is closed, and for how many more events, and as many EDUs, there is room.
use Rattle.std.specs.Prelude.{◌≡◌, ℕ, ◌+◌, ◌-◌, ◌<◌, ◌^◌, max, Bool, true, false, if◌then◌else◌, List, [], ◌∷◌, ◌++◌, Option, Some, None, slice_get, nat_lt, refl}
use Rattle.std.specs.Option.{option_map}
use Rattle.std.specs.Coded.{Coded, code_by, coded×, coded_ℕ, coded_bool, coded_list}
use Rattle.fed_journal.specs.declared.entry.Cause.{Cause}
use Rattle.fed_journal.specs.declared.entry.Cause.TheVariants.{Asked, Lost}
use Rattle.fed_journal.specs.declared.lane.Kind.{Kind}
use Rattle.fed_journal.specs.declared.lane.Kind.TheVariants.{Event, Edu}
use Rattle.fed_journal.specs.Place.{PlaceValue}

pub record LaneState : Type 0 where
  pub events : List ℕ
  pub edus : List ℕ
  pub placed : ℕ
  pub closed : Bool
  pub room : ℕ

abbrev pub lane_code : Coded LaneState
lane_code =
    code_by (List ℕ × (List ℕ × (ℕ × (Bool × ℕ)))) (coded× (coded_list coded_ℕ) (coded× (coded_list coded_ℕ) (coded× coded_ℕ (coded× coded_bool coded_ℕ)))) (λ l. (l.events, (l.edus, (l.placed, (l.closed, l.room))))) (λ p. record { events = p.0; edus = p.1.0; placed = p.1.1.0; closed = p.1.1.1.0; room = p.1.1.1.1 }) (λ _. refl)

abbrev pub new_lane : LaneState
new_lane = record { events = []; edus = []; placed = 0; closed = false; room = 0 }

-- with room for at least so many
abbrev pub with_room : ℕ → LaneState → LaneState
with_room more lane = record { events = lane.events; edus = lane.edus; placed = lane.placed; closed = lane.closed; room = max lane.room more }

-- with one more event, or EDU, which stands at this place
abbrev pub with_load : Kind → ℕ → LaneState → LaneState
with_load Event place lane = record { events = lane.events ++ place ∷ []; edus = lane.edus; placed = lane.placed + 1; closed = lane.closed; room = lane.room - 1 }
with_load Edu place lane = record { events = lane.events; edus = lane.edus ++ place ∷ []; placed = lane.placed + 1; closed = lane.closed; room = lane.room - 1 }

-- the same, where the outbox is open
abbrev pub reached : Kind → ℕ → LaneState → LaneState
reached kind place lane = if lane.closed then lane else with_load kind place lane

-- how many parcels a closing places
abbrev pub end_count : Cause → ℕ
end_count Asked = 1
end_count Lost = 0

abbrev pub closed_by : Cause → LaneState → LaneState
closed_by cause lane = record { events = lane.events; edus = lane.edus; placed = lane.placed + end_count cause; closed = true; room = lane.room }

-- where the next parcel stands
abbrev pub place_after : ℕ → LaneState → Option PlaceValue
place_after dest lane = if lane.closed then None else Some (record { dest = dest; number = lane.placed + 1 })

-- each lane can take one more
abbrev pub HasRoom : List LaneState → Type 0
HasRoom lanes = (d : ℕ) (lane : LaneState) → slice_get lanes d ≡ Some lane → (0 < lane.room) × (lane.placed < 2 ^ 53)

-- the lanes after a change of those at the chosen places
abbrev pub AreChanged : (ℕ → Bool) → (LaneState → LaneState) → List LaneState → List LaneState → Type 0
AreChanged chosen change old new = (d : ℕ) → slice_get new d ≡ option_map (if chosen d then change else (λ lane. lane)) (slice_get old d)

-- the lanes that come before a place were changed
abbrev pub ArePartlyChanged : (LaneState → LaneState) → List LaneState → List LaneState → Type 0
ArePartlyChanged change old new = (n : ℕ) × AreChanged (λ d. nat_lt d n) change old new
