use Rattle.std.proofs.Common.{◌∷◌, ◌++◌, Some, ap, ◌∙◌}
use Rattle.fed_replies.proofs.ReplyTexts.{member_written}
use Rattle.fed_replies.proofs.writing.write_failed.Goals as goal

pub returns : goal.returns
returns c =
    member_written c.args.out.now.items c.write_key.new.out.items c.extend_from_slice.new.self.items c.args.later (36 ∷ c.args.symbols.now, Some c.args.error.now)
    c.in_ok-write_key.ensures (c.in_ok-extend_from_slice.ensures.items ∙ ap (λ t. c.write_key.new.out.items ++ t) c.verdict.ensures)
