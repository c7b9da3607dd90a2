use Rattle.std.proofs.Common.{◌≡◌, ◌<◌, true}
use Rattle.fed_hub_state.specs.ShuttingDown.{is_other_open}
use Rattle.fed_hub_state.specs.WireRoom.{HaveRoom, HaveTakenIn}
use Rattle.fed_hub_state.proofs.shutting_down.full_other.Given as goal

-- the wires to those of the first servers have room
abbrev pub invariant-loop-place : goal.invariant-loop-place
invariant-loop-place g l = record { same : HaveTakenIn l.initial.ends l.ends; room : HaveRoom (λ d. (d < l.place) × (is_other_open l.own l.journal.entries d ≡ true)) l.ends }
