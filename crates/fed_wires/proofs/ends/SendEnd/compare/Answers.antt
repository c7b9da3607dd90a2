use Rattle.std.proofs.Common.{rules}
use Rattle.fed_wires.proofs.Relaying.{parts, meets}
use Rattle.fed_wires.proofs.ends.SendEnd.compare.Goals as goal

pub another-theirs-requires-clause-rule : goal.another-theirs-requires-clause-rule
another-theirs-requires-clause-rule g c = parts g.N.Numbering.fits _ _ _ c.other.invariant.1

pub absorb-requires-clause-rule : goal.absorb-requires-clause-rule
absorb-requires-clause-rule g c = meets g.N.Numbering.fits _ _ _ _ _ (search rules)

pub another-requires-clause-rule : goal.another-requires-clause-rule
another-requires-clause-rule g c = parts g.N.Numbering.fits _ _ _ (search rules)
