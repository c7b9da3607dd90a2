use Rattle.std.proofs.Common.{◌≡◌, map}
use Rattle.std.specs.FinMap as finite
use Rattle.serde_json.specs.Data.{object}
use Rattle.fed_txn.specs.Reply.{verdict_members}
use Rattle.fed_txn.specs.VerdictEntries.{entry_bytes}
use Rattle.fed_txn.proofs.Poured.{poured}
use Rattle.fed_txn.proofs.reply.members_of.Given as goal

-- what is left decides
abbrev pub invariant-loop-id : goal.invariant-loop-id
invariant-loop-id l = poured (map entry_bytes l.id-iterator) l.members ≡ object (verdict_members (finite.entries l.verdicts))
