use Rattle.std.proofs.Common.{◌≡◌}
use Rattle.std.specs.FinMap as map
use Rattle.fed_json.specs.Members.{members_left}
use Rattle.fed_txn.specs.ReplyReadingParts.{with_verdicts_in}
use Rattle.fed_txn.proofs.reply_reading.verdicts_of.Given as goal

-- what is left decides
abbrev pub invariant-loop-id : goal.invariant-loop-id
invariant-loop-id l = with_verdicts_in map.empty (members_left l.fn.members) ≡ with_verdicts_in l.verdicts (members_left l.id-iterator)
