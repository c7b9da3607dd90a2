use Rattle.std.proofs.Common.{◌≡◌, ◌++◌, drop, false}
use Rattle.fed_replies.specs.Pieces.{AreNumbered, verdicts_of}
use Rattle.fed_replies.specs.ReplyText.{members_text}
use Rattle.fed_replies.proofs.members.write_members.Given as goal

-- what is left decides
abbrev pub invariant-loop-event : goal.invariant-loop-event
invariant-loop-event l =
    AreNumbered l.texts (drop l.event-index l.events) l.left
    × (l.out.items ++ members_text l.later (verdicts_of l.texts (drop l.event-index l.events) l.left) ≡ l.fn.out.items ++ members_text false (verdicts_of l.texts l.events l.numbers))
