use Rattle.std.proofs.Common.{◌≡◌}
use Rattle.fed_json.specs.Items.{left}
use Rattle.fed_c.specs.History.{history_of}
use Rattle.fed_c.specs.HistoryParts.{with_events}
use Rattle.fed_c.proofs.history.history_of.Given as goal

-- what is left decides
abbrev pub invariant-loop-value : goal.invariant-loop-value
invariant-loop-value l = history_of l.version l.rejected (left l.fn.events) ≡ with_events l.version l.rejected l.graph.stored (left l.value-iterator)
