use Rattle.std.proofs.Common.{◌++◌, sym, ap, ◌∙◌}
use Rattle.fed_replies.proofs.ReplyTexts.{no_error_text, error_read}
use Rattle.fed_replies.proofs.plain.read_verdict.Goals as goal

pub returns-in-Some-clause-text : goal.returns-in-Some-clause-text
returns-in-Some-clause-text c = c.in-Some.ensures ∙ ap (λ t. t ++ c.in-Some.rest.now) (sym no_error_text)

pub returns-clause-text : goal.returns-clause-text
returns-clause-text c =
    error_read c.args.text.now c.in_ok-behind.field-0.now c.in_ok-rest.rest.now c.in_ok-error.error.now c.in_ok-error.ensures.plain c.in_ok-behind.ensures
    (c.in_ok-error.ensures.text ∙ ap (λ t. c.in_ok-error.error.now ++ t) c.in_ok-rest.ensures)
