-- Why a request was not served.
use Rattle.std.specs.Prelude.{List}
use Rattle.fed_event.specs.Checked.{CheckedEvent}
use Rattle.fed_wires.specs.WireId.{WireId}
use Rattle.fed_hub_serving.specs.declared.judged_request.JudgedRequest.{JudgedRequest}
use Rattle.fed_hub_serving.specs.declared.full_wire.Unserved.{Unserved}
use Rattle.fed_hub_serving.specs.declared.full_wire.Unserved.TheVariants.{Memory, Full}
use Rattle.fed_hub_serving.specs.WireRoom.{IsFullOf}

-- a request that waits for room is as it was judged, and waits for one of these wires, which was shown to have no room for what is for its room
abbrev pub IsUnserved : List (WireId CheckedEvent) → JudgedRequest → Unserved → Type 0
IsUnserved names judged Memory = Unit {0}
IsUnserved names judged (Full full) = IsFullOf names judged full
