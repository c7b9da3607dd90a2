use Rattle.std.proofs.Common.{◌≡◌, drop}
use Rattle.fed_room_contract.specs.ChangeParts.{with_changes}
use Rattle.fed_room_contract.proofs.change.make_all.Given as goal

-- those from here on are made
abbrev pub invariant-loop-index : goal.invariant-loop-index
invariant-loop-index l = l.state ≡ with_changes l.fn.state (drop l.index l.changes)
