use Rattle.std.proofs.Common.{◌∷◌, ap, ◌∙◌}
use Rattle.fed_replies.proofs.ReplyTexts.{id_read}
use Rattle.fed_replies.proofs.plain.read_id.Goals as goal

pub returns : goal.returns
returns c =
    id_read c.args.text.now c.in_ok-text.text.now c.in_ok-id.id.now c.in_ok-id.text.now c.in_ok-text-2.text.now 44 c.in_ok-text.ensures c.in_ok-id.ensures.cases.1 c.in_ok-id.ensures.cases.2
    (c.in_ok-behind_byte.ensures ∙ ap (λ t. 34 ∷ t) c.in_ok-text-2.ensures)
