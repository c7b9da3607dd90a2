use Rattle.std.proofs.Common.{◌∙◌}
use Rattle.fed_c.specs.XMatrix.{key_of}
use Rattle.fed_c.proofs.Headers.{part_answers, part_ends}
use Rattle.fed_c.proofs.x_matrix.key.Goals as goal

pub returns-in_err-said : goal.returns-in_err-said
returns-in_err-said c = part_ends key_of c.args.header.now c.in_err-said.field-0.0 c.from_residual.result (λ bytes. bytes.items) c.from_residual.ensures.1 c.in_err-said.ensures

pub returns : goal.returns
returns c = part_answers key_of c.args.header.now c.in_ok-from_slice.field-0.items c.in_ok-said.said (c.in_ok-from_slice.ensures.items ∙ c.as_bytes.ensures.value ∙ c.key.ensures) c.in_ok-said.ensures
