use Rattle.std.proofs.Common.{◌≡◌, ◌++◌, drop, map}
use Rattle.fed_c.proofs.auth_events.events_of.Given as goal

-- what is left completes the events
abbrev pub invariant-loop-stored : goal.invariant-loop-stored
invariant-loop-stored l = map (λ stored. stored.event.event) l.auth ≡ l.events.items ++ map (λ stored. stored.event.event) (drop l.stored-index l.auth)
