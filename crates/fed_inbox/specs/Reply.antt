-- What is answered: the reply to a transaction, or an error reply.
use Rattle.std.specs.Prelude.{ℕ, List}
pub use Rattle.fed_http.specs.Message.{Answer}
use Rattle.fed_inbox.specs.declared.refusal.Refusal.{Refusal}
use Rattle.fed_inbox.specs.Refusal.{error_reply, error_body}

abbrev pub accepted : List ℕ → Answer
accepted body = record { status = 200; body = body }

abbrev pub refused : Refusal → Answer
refused refusal = record { status = (error_reply refusal).status; body = error_body (error_reply refusal) }
