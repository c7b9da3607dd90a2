use Rattle.fed_json.specs.PlainTexts.{ArePlain}
use Rattle.fed_json.proofs.quoted.is_plain_from.Given as goal

-- what was looked at is plain
abbrev pub invariant-loop-at : goal.invariant-loop-at
invariant-loop-at l = ArePlain l.text l.at
