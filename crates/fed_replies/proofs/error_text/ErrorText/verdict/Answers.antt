use Rattle.std.proofs.Common.{List, ℕ, Some, ap, ◌∙◌}
use Rattle.fed_replies.specs.ReplyText.{verdict_text}
use Rattle.fed_replies.proofs.error_text.ErrorText.verdict.Goals as goal

pub returns : goal.returns
returns c = c.as_slice.ensures.value ∙ c.self.invariant ∙ ap (λ (t : List ℕ). verdict_text (Some t)) c.self.view_is
