use Rattle.std.proofs.Common.{◌-◌, ◌≤◌, length}
use Rattle.fed_json.specs.PlainTexts.{ArePlain}
use Rattle.fed_json.proofs.quoted.is_plain.Given as goal

-- what was looked at is plain
abbrev pub invariant-loop-at : goal.invariant-loop-at
invariant-loop-at l = ArePlain l.text l.at × (l.at ≤ length l.text)

abbrev pub decreases-loop-at : goal.decreases-loop-at
decreases-loop-at l = length l.text - l.at
