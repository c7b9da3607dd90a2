use Rattle.fed_c.proofs.Headers.{given}
use Rattle.fed_c.specs.XMatrix.{signature_of}
use Rattle.fed_c.proofs.x_matrix.wikzord_x_matrix_signature.Goals as goal

pub returns : goal.returns
returns c = given signature_of c.args.header.now c.signature.result _ _ _ c.give.ensures.gives c.give.ensures.refused c.signature.ensures
