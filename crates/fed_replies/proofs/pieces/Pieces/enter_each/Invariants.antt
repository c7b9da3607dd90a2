use Rattle.std.proofs.Common.{◌≡◌, List, ◌++◌, map}
use Rattle.std.specs.FinMap as finite
use Rattle.fed_txn.specs.VerdictEntries.{entry_bytes}
use Rattle.fed_replies.specs.PackedReply.{Verdict}
use Rattle.fed_replies.specs.Pieces.{AreEntered}
use Rattle.fed_replies.proofs.pieces.Pieces.enter_each.Given as goal

-- those before were entered
abbrev pub invariant-loop-id : goal.invariant-loop-id
invariant-loop-id l = (before : List Verdict) × (before ++ map entry_bytes l.id-iterator ≡ finite.entries l.verdicts) × AreEntered l.fn.self before l.self
