use Rattle.std.proofs.Common.{rules}
use Rattle.fed_wires.proofs.Relaying.{begins, parts}
use Rattle.fed_wires.proofs.ends.wire.Goals as goal

pub bounded_with-requires-clause-rule : goal.bounded_with-requires-clause-rule
bounded_with-requires-clause-rule g c = begins g.N.Numbering.fits _

pub another-other-requires-clause-rule : goal.another-other-requires-clause-rule
another-other-requires-clause-rule g c = parts g.N.Numbering.fits _ _ _ (search rules)
