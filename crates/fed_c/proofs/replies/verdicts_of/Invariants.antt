use Rattle.std.proofs.Common.{◌≡◌}
use Rattle.fed_json.specs.Members.{members_left}
use Rattle.fed_c.specs.Replies.{verdicts_of}
use Rattle.fed_c.specs.ReplyParts.{with_verdicts_in}
use Rattle.fed_c.proofs.replies.verdicts_of.Given as goal

-- what is left decides
abbrev pub invariant-loop-id : goal.invariant-loop-id
invariant-loop-id l = verdicts_of (members_left l.fn.members) ≡ with_verdicts_in l.verdicts (members_left l.id-iterator)
