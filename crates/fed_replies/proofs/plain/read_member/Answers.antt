use Rattle.std.proofs.Common.{option_map}
use Rattle.fed_replies.proofs.ReplyTexts.{member_read}
use Rattle.fed_replies.proofs.plain.read_member.Goals as goal

pub returns-clause-text : goal.returns-clause-text
returns-clause-text c = λ plain.
    member_read c.args.text.now c.in_ok-behind_comma.field-0.now c.in_ok-id.text.now c.in_ok-error.rest.now c.in_ok-id.id.now c.args.later (option_map (λ s. s.now) c.in_ok-error.error) plain
    c.in_ok-behind_comma.ensures c.in_ok-id.ensures c.in_ok-error.ensures.text
