-- The events that came to the rooms of a server, beside those that its inbox brought for them (Matrix, Server-Server API, "Transactions": the PDUs of a request
-- go to the rooms that they are of).
use Rattle.std.specs.Prelude.{◌≡◌, ℕ, List, Some, slice_get}
use mathlib.Core.List.{IsPrefix}
use Rattle.fed_inbox.specs.History.{Point, brought}
use Rattle.fed_inbox.specs.Queues.{for_place}
use Rattle.fed_hub_state.specs.KeptRoom.{KeptState}
use Rattle.fed_hub_kept.specs.Received.{received}

-- those that came to the room at a place are, in order, the first of those that the history brought for it
abbrev pub IsBrought : List (List ℕ) → List Point → ℕ → KeptState → Type 0
IsBrought known points place room = IsPrefix (received room.inputs) (for_place known place (brought points))

-- that is so of the room at each place
abbrev pub AreBrought : List (List ℕ) → List Point → List KeptState → Type 0
AreBrought known points rooms = (place : ℕ) (room : KeptState) → slice_get rooms place ≡ Some room → IsBrought known points place room
