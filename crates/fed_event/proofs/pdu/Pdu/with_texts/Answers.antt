use Rattle.std.proofs.Common.{sym, ◌∙◌}
use Rattle.fed_event.proofs.Faults.{first-shape}
use Rattle.fed_event.proofs.pdu.Pdu.with_texts.Goals as goal

pub returns-in-Some-clause-fails : goal.returns-in-Some-clause-fails
returns-in-Some-clause-fails c = first-shape c.args.json c.in-Some.fault (sym c.shape_fault.ensures ∙ c.in-Some.is)
