use Rattle.std.proofs.Common.{◌≡◌, true, take}
use Rattle.fed_dest.specs.ServerSet.{is_among}
use Rattle.fed_hub_state.specs.Spreading.{dests_of}
use Rattle.fed_hub_state.specs.WireRoom.{HaveRoom, HaveTakenIn}
use Rattle.fed_hub_state.proofs.spreading.full_among.Given as goal

-- the wires to the first of the destinations have room
abbrev pub invariant-loop-unplaced : goal.invariant-loop-unplaced
invariant-loop-unplaced g l = record { same : HaveTakenIn l.initial.ends l.ends; room : HaveRoom (λ d. is_among (dests_of (take l.unplaced-index l.loads)) d ≡ true) l.ends }
