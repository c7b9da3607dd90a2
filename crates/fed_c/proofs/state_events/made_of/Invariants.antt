use Rattle.std.proofs.Common.{◌≡◌, drop}
use Rattle.fed_c.specs.StateParts.{laid_all}
use Rattle.fed_c.specs.States.{made_of}
use Rattle.fed_c.proofs.state_events.made_of.Given as goal

-- what is left decides
abbrev pub invariant-loop-event : goal.invariant-loop-event
invariant-loop-event l = made_of l.events ≡ laid_all l.state (drop l.event-index l.events)
