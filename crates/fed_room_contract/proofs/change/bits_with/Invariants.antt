use Rattle.std.proofs.Common.{◌≡◌, drop}
use Rattle.fed_room_contract.specs.ChangeParts.{bits_with}
use Rattle.fed_room_contract.proofs.change.bits_with.Given as goal

-- the bits so far, with those of what is left
abbrev pub invariant-loop-change : goal.invariant-loop-change
invariant-loop-change l = bits_with l.bits (drop l.change-index l.changes) ≡ bits_with l.bits-2 l.changes
