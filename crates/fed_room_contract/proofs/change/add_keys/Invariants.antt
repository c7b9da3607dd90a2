use Rattle.std.proofs.Common.{take}
use Rattle.fed_room_contract.specs.ChangeParts.{AreKeysBeyond}
use Rattle.fed_room_contract.proofs.change.add_keys.Given as goal

-- the keys of the changes so far
abbrev pub invariant-loop-change : goal.invariant-loop-change
invariant-loop-change l = AreKeysBeyond l.fn.keys (take l.change-index l.changes) l.keys
