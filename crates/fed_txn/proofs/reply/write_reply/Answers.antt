use Rattle.std.proofs.Common.{◌≡◌, ap, arith, rules, subst}
use Rattle.std.proofs.lemmas.Result.{IfOk-weaker}
use Rattle.std.specs.FinMap as finite
use Rattle.serde_json.specs.Data.{depth}
use Rattle.fed_json.specs.Reading.{ReadsAs}
use Rattle.fed_txn.specs.Reply.{reply_value}
use Rattle.fed_txn.proofs.Poured.{verdict_members-depth}
use Rattle.fed_txn.proofs.RepliesRead.{written_is_read}
use Rattle.fed_txn.proofs.reply.write_reply.Goals as goal

pub put-requires : goal.put-requires
put-requires c = let deep = ap depth c.in_ok-members.ensures.object in let within = verdict_members-depth (finite.entries c.args.verdicts.now) in omega arith

pub returns-clause-read : goal.returns-clause-read
returns-clause-read c =
    let v = c.args.verdicts.now in
    let same : c.put.new.self ≡ reply_value v = search rules in
    IfOk-weaker c.canonical.result _ _ (λ text reads. written_is_read text.items v (subst (ReadsAs text.items) same reads)) c.canonical.ensures.reads_back
