use Rattle.std.proofs.Common.{◌≡◌, take}
use Rattle.fed_sim.proofs.starting.copies.Given as goal

-- the events so far
abbrev pub invariant-loop-event : goal.invariant-loop-event
invariant-loop-event l = l.copies.items ≡ take l.event-index l.events
