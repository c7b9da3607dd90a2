use Rattle.std.proofs.Common.{◌++◌, sym, ◌∙◌}
use Rattle.fed_event.specs.declared.fault.PduFault.TheVariants.{Missing, WrongKind, TooLong}
use Rattle.fed_event.specs.Tests.{fails, needed_fields, all_fields, measured_fields, kind_tests, length_tests, count_tests}
use Rattle.fed_event.proofs.Faults.{find_in_group, find_past_group}
use Rattle.fed_event.proofs.validity.field_fault.Goals as goal

pub returns-in-Some : goal.returns-in-Some
returns-in-Some c =
    sym (find_in_group (fails c.args.event.now) Missing needed_fields (kind_tests ++ (length_tests ++ count_tests)) c.in-Some.field (sym c.missing_field.ensures ∙ c.in-Some.is))

pub returns-in-Some-wrong_kind : goal.returns-in-Some-wrong_kind
returns-in-Some-wrong_kind c =
    let test = fails c.args.event.now in
    sym (find_past_group test Missing needed_fields (kind_tests ++ (length_tests ++ count_tests)) (sym c.missing_field.ensures ∙ c.in_default.is)
    ∙ find_in_group test WrongKind all_fields (length_tests ++ count_tests) c.in-Some-wrong_kind.field (sym c.wrong_kind.ensures ∙ c.in-Some-wrong_kind.is))

pub returns-in-Some-too_long : goal.returns-in-Some-too_long
returns-in-Some-too_long c =
    let test = fails c.args.event.now in
    sym (find_past_group test Missing needed_fields (kind_tests ++ (length_tests ++ count_tests)) (sym c.missing_field.ensures ∙ c.in_default.is)
    ∙ find_past_group test WrongKind all_fields (length_tests ++ count_tests) (sym c.wrong_kind.ensures ∙ c.in_default-wrong_kind.is)
    ∙ find_in_group test TooLong measured_fields count_tests c.in-Some-too_long.field (sym c.too_long.ensures ∙ c.in-Some-too_long.is))
