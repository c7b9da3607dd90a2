-- Auth chains (Matrix, room version 2, "State resolution", "Definitions"). The events of a room are named by their places in the list of
-- those that are stored, counted from 0: an event names only earlier ones.
use Rattle.std.specs.Prelude.{◌≡◌, ◌↔◌, ℕ, zero, suc, List, [], ◌∷◌, ◌++◌, Bool, false, true, ◌||◌, ◌==◌, Option, length, filter, position}
use Rattle.std.specs.List.{list_any}
use Rattle.fed_event.specs.Tests.{holds}
use Rattle.fed_room_contract.specs.declared.graph.Stored.{Stored}
use Rattle.fed_room_contract.specs.State.{StateMap}
use Rattle.fed_room_contract.specs.Graph.{has_id, auth_places_at}
use Rattle.std.specs.FinMap as finite

-- all places, in their order
abbrev pub places_below : ℕ → List ℕ
places_below zero = []
places_below (suc n) = places_below n ++ n ∷ []

-- the places that pass a test, in their order
abbrev pub members : List Stored → (ℕ → Bool) → List ℕ
members events test = filter test (places_below (length events))

-- where the event of an id is stored
abbrev pub place_of : List Stored → List ℕ → Option ℕ
place_of events id = position (has_id id) events

-- the auth events of the event at a place, in the order in which it names them
abbrev pub auths_at : List Stored → ℕ → List ℕ
auths_at events place = auth_places_at events place

-- the auth chain of an event: its auth events, theirs, and so on
pub data IsInChain (events : List Stored) : ℕ → ℕ → Type 0 where
  named : (place auth : ℕ) → list_any (λ a. a == auth) (auths_at events place) ≡ true → IsInChain events place auth
  further : (place auth other : ℕ) → list_any (λ a. a == auth) (auths_at events place) ≡ true → IsInChain events auth other → IsInChain events place other

-- `other` is reached from `place` by so many steps at most, each to an auth event
abbrev pub is_reached : List Stored → ℕ → ℕ → ℕ → Bool
is_reached events zero place other = false
is_reached events (suc steps) place other = list_any (λ auth. auth == other || is_reached events steps auth other) (auths_at events place)

-- The same as a test: no chain has more steps than there are events.
abbrev pub is_in_chain : List Stored → ℕ → ℕ → Bool
is_in_chain events place other = is_reached events (length events) place other

-- in the auth chain of one of these
abbrev pub is_in_chains : List Stored → List ℕ → ℕ → Bool
is_in_chains events places place = list_any (λ p. is_in_chain events p place) places

-- the relation and its test say the same
abbrev pub IsChainTest : List Stored → Type 0
IsChainTest events = (place other : ℕ) → (is_in_chain events place other ≡ true) ↔ IsInChain events place other

-- the event of an entry of a state is at this place
abbrev pub is_entry_at : List Stored → ℕ → List ℕ → Bool
is_entry_at events place id = holds (λ p. p == place) (place_of events id)

-- the full auth chain of a state: those of all its events
abbrev pub is_in_full_chain : List Stored → StateMap → ℕ → Bool
is_in_full_chain events state place =
    list_any (λ entry. holds (λ p. is_in_chain events p place) (place_of events entry.1)) (finite.entries state)
