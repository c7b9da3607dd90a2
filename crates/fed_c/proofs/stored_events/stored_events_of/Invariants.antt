use Rattle.std.proofs.Common.{◌≡◌}
use Rattle.fed_json.specs.Items.{left}
use Rattle.fed_c.specs.StoredEvents.{stored_events_of}
use Rattle.fed_c.specs.StoredEventsParts.{with_stored_events}
use Rattle.fed_c.proofs.stored_events.stored_events_of.Given as goal

-- what is left decides
abbrev pub invariant-loop-value : goal.invariant-loop-value
invariant-loop-value l = stored_events_of l.version l.rejected (left l.fn.values) ≡ with_stored_events l.version l.rejected l.events.items (left l.value-iterator)
