use Rattle.std.proofs.Common.{◌∷◌, ◌++◌, None, sym, ap, ◌∙◌}
use Rattle.fed_replies.proofs.ReplyTexts.{member_written, no_error_text}
use Rattle.fed_replies.proofs.writing.write_accepted.Goals as goal

pub returns : goal.returns
returns c =
    member_written c.args.out.now.items c.write_key.new.out.items c.extend_from_slice.new.self.items c.args.later (36 ∷ c.args.symbols.now, None)
    c.in_ok-write_key.ensures (c.in_ok-extend_from_slice.ensures.items ∙ ap (λ t. c.write_key.new.out.items ++ t) (sym no_error_text))
