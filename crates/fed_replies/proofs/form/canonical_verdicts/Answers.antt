use Rattle.std.proofs.Common.{◌≡◌, sym, ◌∙◌}
use Rattle.fed_txn.specs.declared.reply_fault.ReplyFault.TheVariants.{Memory, NotReply}
use Rattle.fed_replies.proofs.Packing.{no_reply, written_otherwise, written_so}
use Rattle.fed_replies.proofs.form.canonical_verdicts.Goals as goal

pub returns-in-Err-NotReply : goal.returns-in-Err-NotReply
returns-in-Err-NotReply c =
    no_reply c.args.reply.now (λ v h. let gone : NotReply ≡ Memory = sym c.in-Err-NotReply.field-0-is ∙ c.in-Err-NotReply.ensures.only v h in absurd (cc))

pub returns-then-ne : goal.returns-then-ne
returns-then-ne c =
    written_otherwise c.args.reply.now c.as_slice.result.now c.in-Ok.verdicts (c.as_slice.ensures.value ∙ c.in_ok-write_reply.ensures.exact) (λ w h. c.in-Ok.ensures.only w h)
    (sym c.ne.ensures ∙ c.if-ne.true)

pub returns : goal.returns
returns c =
    written_so c.args.reply.now c.as_slice.result.now c.in-Ok.verdicts (c.as_slice.ensures.value ∙ c.in_ok-write_reply.ensures.exact) (λ w h. c.in-Ok.ensures.only w h)
    c.in-Ok.ensures.ok (sym c.ne.ensures ∙ c.if-ne.false)
