use Rattle.std.proofs.Common.{◌≡◌}
use Rattle.fed_json.specs.Items.{left}
use Rattle.fed_c.specs.StateParts.{state_from}
use Rattle.fed_c.specs.States.{state_of}
use Rattle.fed_c.proofs.states.state_of.Given as goal

-- what is left decides
abbrev pub invariant-loop-id : goal.invariant-loop-id
invariant-loop-id l = state_of l.graph.stored (left l.fn.ids) ≡ state_from l.graph.stored l.state (left l.id-iterator)
