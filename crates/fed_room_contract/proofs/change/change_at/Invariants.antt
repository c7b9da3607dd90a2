use Rattle.std.proofs.Common.{◌≡◌, find, drop}
use Rattle.fed_room_contract.specs.ChangeParts.{is_change_at}
use Rattle.fed_room_contract.proofs.change.change_at.Given as goal

-- it is not among those so far
abbrev pub invariant-loop-change : goal.invariant-loop-change
invariant-loop-change l = find (is_change_at l.kind l.state_key) (drop l.change-index l.changes) ≡ find (is_change_at l.kind l.state_key) l.changes
