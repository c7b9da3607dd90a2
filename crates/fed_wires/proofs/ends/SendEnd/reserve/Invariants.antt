use Rattle.std.proofs.Common.{◌-◌, ◌≡◌, ◌≤◌}
use Rattle.fed_wires.proofs.ends.SendEnd.reserve.Given as goal

abbrev pub invariant-loop-self : goal.invariant-loop-self
invariant-loop-self g l = record { pass : l.self-inside.pass ≡ l.initial.self-inside.pass; channel : l.self-inside.channel ≡ l.initial.self-inside.channel; more : l.initial.self-inside.room ≤ l.self-inside.room }

abbrev pub decreases-loop-self : goal.decreases-loop-self
decreases-loop-self g l = l.count - l.self-inside.room
