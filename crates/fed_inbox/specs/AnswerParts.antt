-- What a log and an inbox answer with, before it is a reply.
use Rattle.std.specs.Prelude.{ℕ, List, [], Result, Ok, Err}
use Rattle.fed_event.specs.Keys.{Checks}
use Rattle.fed_event.specs.Checked.{CheckedEvent}
use Rattle.fed_inbox.specs.declared.log.Accepted.{Accepted}
use Rattle.fed_inbox.specs.declared.refusal.Refusal.{Refusal}
use Rattle.fed_inbox.specs.Reply.{Answer, accepted, refused}
use Rattle.fed_inbox.specs.Inbox.{InboxState}
use Rattle.fed_inbox.specs.Answer.{SendRequest, IsAnswered}

-- the reply, and the events for the rooms
abbrev pub taken_by : Accepted → List ℕ × List CheckedEvent
taken_by a = (a.reply.items, a.fresh.items)

-- the answer of a body, or of a refusal
abbrev pub answer_with : Result Accepted Refusal → Answer
answer_with (Ok a) = accepted a.reply.items
answer_with (Err refusal) = refused refusal

abbrev pub fresh_with : Result Accepted Refusal → List CheckedEvent
fresh_with (Ok a) = a.fresh.items
fresh_with (Err refusal) = []

module _ (checks : Checks) where
  abbrev pub IsTried : InboxState → SendRequest → Result Accepted Refusal → InboxState → Type 0
  IsTried old request result new = IsAnswered checks old request (answer_with result) new (fresh_with result)
