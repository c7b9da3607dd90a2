-- The text of a rule's number.
use Rattle.std.specs.Prelude.{ℕ, List, ◌++◌, ◌==◌, codes, if◌then◌else◌}
use Rattle.std.specs.Fmt.{decimal}
use Rattle.fed_room_contract.specs.declared.rule.Rule.{Rule}

-- the parts with points between them, a part that is 0 left away
abbrev pub rule_text : Rule → List ℕ
rule_text rule =
    if rule.branch == 0
    then (if rule.condition == 0 then decimal rule.section else decimal rule.section ++ codes "." ++ decimal rule.condition)
    else decimal rule.section ++ codes "." ++ decimal rule.condition ++ codes "." ++ decimal rule.branch
