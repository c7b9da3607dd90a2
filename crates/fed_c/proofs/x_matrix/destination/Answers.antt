use Rattle.std.proofs.Common.{◌∙◌, sym}
use Rattle.fed_c.specs.XMatrix.{destination_of}
use Rattle.fed_c.proofs.Headers.{part_answers, part_ends, named, unnamed}
use Rattle.fed_c.proofs.x_matrix.destination.Goals as goal

pub returns-in_err-said : goal.returns-in_err-said
returns-in_err-said c = part_ends destination_of c.args.header.now c.in_err-said.field-0.0 c.from_residual.result (λ bytes. bytes.items) c.from_residual.ensures.1 c.in_err-said.ensures

pub returns-in-Some : goal.returns-in-Some
returns-in-Some c =
    part_answers destination_of c.args.header.now c.in_ok-from_slice-in-Some.field-0.items c.in_ok-said.said
    (c.in_ok-from_slice-in-Some.ensures.items ∙ c.as_bytes.ensures.value ∙ named c.destination.result c.in-Some.name c.in_ok-said.said.destination c.destination.ensures c.in-Some.is)
    c.in_ok-said.ensures

pub returns : goal.returns
returns c =
    part_answers destination_of c.args.header.now c.new.result.items c.in_ok-said.said
    (c.new.ensures.items ∙ sym (unnamed c.destination.result c.in_ok-said.said.destination c.destination.ensures c.in-None.is))
    c.in_ok-said.ensures
