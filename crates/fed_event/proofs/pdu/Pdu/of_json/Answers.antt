use Rattle.std.proofs.Common.{Err, sym, ◌∙◌, ap}
use Rattle.fed_event.specs.declared.field.Field.TheVariants.{Event}
use Rattle.fed_event.specs.declared.fault.PduFault.TheVariants.{WrongKind, TooDeep}
use Rattle.fed_event.proofs.Faults.{first-shape, one_first, not_none, not_deep, not_no_object}
use Rattle.fed_event.proofs.pdu.Pdu.of_json.Goals as goal

pub returns-in-Some-clause-fails : goal.returns-in-Some-clause-fails
returns-in-Some-clause-fails c = λ _. first-shape c.args.json c.in-Some.fault (sym c.shape_fault.ensures ∙ c.in-Some.is)

pub returns-in-Some-clause-only : goal.returns-in-Some-clause-only
returns-in-Some-clause-only c = let first = first-shape c.args.json c.in-Some.fault (sym c.shape_fault.ensures ∙ c.in-Some.is) in λ none. absurd (not_none c.args.json c.in-Some.fault first none)

pub returns-in-Some-clause-deep : goal.returns-in-Some-clause-deep
returns-in-Some-clause-deep c = let first = first-shape c.args.json c.in-Some.fault (sym c.shape_fault.ensures ∙ c.in-Some.is) in λ deep. ap Err (one_first c.args.json c.in-Some.fault TooDeep first deep)

pub returns-in-Some-clause-no_object : goal.returns-in-Some-clause-no_object
returns-in-Some-clause-no_object c = let first = first-shape c.args.json c.in-Some.fault (sym c.shape_fault.ensures ∙ c.in-Some.is) in λ kind. ap Err (one_first c.args.json c.in-Some.fault (WrongKind Event) first kind)

pub returns-in_err-texts-clause-deep : goal.returns-in_err-texts-clause-deep
returns-in_err-texts-clause-deep c = λ deep. absurd (not_deep c.args.json (sym c.shape_fault.ensures ∙ c.in_default.is) deep)

pub returns-in_err-texts-clause-no_object : goal.returns-in_err-texts-clause-no_object
returns-in_err-texts-clause-no_object c = λ kind. absurd (not_no_object c.args.json (sym c.shape_fault.ensures ∙ c.in_default.is) kind)

pub returns-in_err-id-clause-deep : goal.returns-in_err-id-clause-deep
returns-in_err-id-clause-deep c = λ deep. absurd (not_deep c.args.json (sym c.shape_fault.ensures ∙ c.in_default.is) deep)

pub returns-in_err-id-clause-no_object : goal.returns-in_err-id-clause-no_object
returns-in_err-id-clause-no_object c = λ kind. absurd (not_no_object c.args.json (sym c.shape_fault.ensures ∙ c.in_default.is) kind)
