use Rattle.std.proofs.Common.{◌≡◌}
use Rattle.fed_json.specs.Items.{left}
use Rattle.fed_c.specs.StateEvents.{state_events_of}
use Rattle.fed_c.specs.StateEventsParts.{with_state_events}
use Rattle.fed_c.proofs.state_events.state_events_of.Given as goal

-- what is left decides
abbrev pub invariant-loop-value : goal.invariant-loop-value
invariant-loop-value l = state_events_of l.version (left l.fn.values) ≡ with_state_events l.version l.events.items (left l.value-iterator)
