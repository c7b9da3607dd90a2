use Rattle.std.proofs.Common.{◌≡◌}
use Rattle.fed_json.specs.Items.{left}
use Rattle.fed_c.specs.States.{states_of}
use Rattle.fed_c.specs.StateParts.{with_states}
use Rattle.fed_c.proofs.states.states_of.Given as goal

-- what is left decides
abbrev pub invariant-loop-value : goal.invariant-loop-value
invariant-loop-value l = states_of l.graph.stored (left l.fn.values) ≡ with_states l.graph.stored l.states.items (left l.value-iterator)
