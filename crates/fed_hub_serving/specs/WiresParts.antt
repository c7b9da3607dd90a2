-- The wires that the fields of a `RoomWires` stand for, and how they hold together.
use Rattle.std.specs.Prelude.{◌≡◌, ◌≤◌, ◌+◌, [], ◌++◌, true, false, map, length, vec_capacity}
use Rattle.fed_hub_serving.specs.declared.room_wires.RoomWires.TheInside.{Inside}
use Rattle.fed_hub_serving.specs.Wires.{WiresState, ended_of}

abbrev pub wires_of : Inside → WiresState
wires_of w = record { wires = map ended_of w.ended.items ++ w.running.items; is_shut = w.is_shut }

-- all have ended or none, and there is room for ending them
pub record HoldTogether (w : Inside) : Type 0 where
  pub shut : w.is_shut ≡ true → w.running.items ≡ []
  pub runs : w.is_shut ≡ false → w.ended.items ≡ []
  pub room : length w.ended.items + length w.running.items ≤ vec_capacity w.ended
