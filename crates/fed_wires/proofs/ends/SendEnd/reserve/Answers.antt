use Rattle.fed_wires.proofs.Relaying.{shows}
use Rattle.fed_wires.proofs.ends.SendEnd.reserve.Goals as goal

pub another-shown-requires-clause-rule : goal.another-shown-requires-clause-rule
another-shown-requires-clause-rule g c = shows g.N.Numbering.fits _ _ _
