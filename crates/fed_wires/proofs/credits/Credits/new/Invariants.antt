use Rattle.std.proofs.Common.{◌≡◌, length}
use Rattle.fed_wires.proofs.credits.Credits.new.Given as goal

abbrev pub invariant-loop-end : goal.invariant-loop-end
invariant-loop-end g l = length l.wires.items ≡ l.end-index
