use Rattle.std.proofs.Common.{◌≡◌, ◌∙◌, ℕ, List, IfOk, subst}
use Rattle.fed_http.specs.Writing.{reply_bytes}
use Rattle.fed_exchange.specs.Messages.{IsStatusAt}
use Rattle.fed_exchange.proofs.replies.read_status.Goals as goal

pub returns : goal.returns
returns c =
    let bytes : c.deref.result.now ≡ reply_bytes c.args.reply.now = c.deref.ensures.value ∙ c.in_ok-bytes.ensures.exact in
    subst (λ (bs : List ℕ). IfOk c.status_in.result (λ found. IsStatusAt bs found)) bytes c.status_in.ensures
