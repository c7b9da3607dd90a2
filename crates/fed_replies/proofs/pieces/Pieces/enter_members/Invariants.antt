use Rattle.std.proofs.Common.{List, length}
use Rattle.fed_replies.specs.PackedReply.{Verdict}
use Rattle.fed_replies.specs.Pieces.{AreEntered}
use Rattle.fed_replies.proofs.PlainReplies.{IsFrontOf}
use Rattle.fed_replies.proofs.pieces.Pieces.enter_members.Given as goal

-- those before were entered
abbrev pub invariant-members : goal.invariant-members
invariant-members l = (before : List Verdict) × AreEntered l.fn.self before l.self × IsFrontOf l.reply before l.later l.last l.rest

abbrev pub decreases-members : goal.decreases-members
decreases-members l = length l.rest
