use Rattle.std.proofs.Common.{sym, ◌∙◌}
use Rattle.fed_event.proofs.Faults.{first-later}
use Rattle.fed_event.proofs.pdu.Pdu.of_shape.Goals as goal

pub returns-in-Some-clause-fails : goal.returns-in-Some-clause-fails
returns-in-Some-clause-fails c = first-later c.args.json c.requires.shape ∙ sym c.later_fault.ensures ∙ c.in-Some.is

pub invariant_of-result : goal.invariant_of-result
invariant_of-result c = (first-later c.args.json c.requires.shape ∙ sym c.later_fault.ensures ∙ c.in_default.is, c.requires.id, c.hash_fits-hash_fits.ensures)

pub returns-clause-passes : goal.returns-clause-passes
returns-clause-passes c = first-later c.args.json c.requires.shape ∙ sym c.later_fault.ensures ∙ c.in_default.is
