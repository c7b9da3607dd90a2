-- What a request does to an inbox and to the queues of its rooms (Server-Server API, "Transactions" and "PDUs").
use Rattle.std.specs.Prelude.{◌≡◌, ℕ, List}
use Rattle.fed_event.specs.Keys.{Checks}
use Rattle.fed_event.specs.Checked.{CheckedEvent}
use Rattle.fed_http.specs.Message.{RequestValue}
use Rattle.fed_inbox.specs.Reply.{Answer}
use Rattle.fed_inbox.specs.Inbox.{InboxState}
use Rattle.fed_inbox.specs.Queues.{queues_after}
use Rattle.fed_inbox.specs.WholeRequest.{IsAnsweredWhole}

-- The request got this reply, and what the inbox took for the rooms is in their queues, behind what was there.
pub record IsTake (checks : Checks) (known : List (List ℕ)) (old : InboxState) (queues : List (List CheckedEvent)) (request : RequestValue) (reply : Answer) (new : InboxState) (queues' : List (List CheckedEvent)) : Type 0 where
  pub fresh : List CheckedEvent
  pub answered : IsAnsweredWhole checks old request reply new fresh
  pub queued : queues' ≡ queues_after known fresh queues
