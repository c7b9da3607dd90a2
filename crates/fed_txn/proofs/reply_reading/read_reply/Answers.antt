use Rattle.std.proofs.Common.{◌≡◌, ◌∙◌, Some, option_map, ap, sym, arith}
use Rattle.fed_json.specs.Members.{members_left}
use Rattle.fed_txn.proofs.RepliesRead.{reply_read, reply_only}
use Rattle.fed_txn.proofs.reply_reading.read_reply.Goals as goal

pub returns-clause-ok : goal.returns-clause-ok
returns-clause-ok c =
    let there : c.pdus_of.result ≡ Some c.in_ok-pdus.pdus = grind arith in
    reply_read c.args.bytes.now c.in_ok-reply.reply (members_left c.in_ok-pdus.pdus) c.in_ok-reply.ensures.ok (sym c.pdus_of.ensures ∙ ap (option_map members_left) there) c.verdicts_of.result c.verdicts_of.ensures

pub returns-clause-only : goal.returns-clause-only
returns-clause-only c =
    let there : c.pdus_of.result ≡ Some c.in_ok-pdus.pdus = grind arith in
    reply_only c.args.bytes.now c.in_ok-reply.reply (members_left c.in_ok-pdus.pdus) c.in_ok-reply.ensures.ok (sym c.pdus_of.ensures ∙ ap (option_map members_left) there) c.verdicts_of.result c.verdicts_of.ensures
