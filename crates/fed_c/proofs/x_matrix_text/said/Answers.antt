use Rattle.fed_c.proofs.WrittenHeaders.{signature_ends}
use Rattle.fed_c.proofs.x_matrix_text.said.Goals as goal

pub returns-in_err-signature-clause-refuses : goal.returns-in_err-signature-clause-refuses
returns-in_err-signature-clause-refuses c =
    signature_ends (record { origin = c.args.origin.now; destination = c.args.destination.now; key = c.args.key.now; signature = c.args.signature.now })
    c.in_ok-origin.origin.now c.in_ok-destination.destination.now c.in_ok-key.key.now c.in_err-signature.field-0.0 c.from_residual-in_err-signature.result c.from_residual-in_err-signature.ensures.1
    c.in_ok-origin.ensures.ok c.in_ok-destination.ensures.ok c.in_ok-key.ensures.ok c.in_err-signature.ensures.fault
