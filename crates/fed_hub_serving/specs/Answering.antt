-- What an inbox makes of a request that was judged apart from it.
use Rattle.std.specs.Prelude.{◌≡◌, ℕ, List, Some, Result, Ok, Err}
use Rattle.fed_event.specs.Checked.{CheckedEvent}
use Rattle.fed_http.specs.Message.{Answer}
use Rattle.fed_inbox.specs.declared.delivery.Judged.{Judged}
use Rattle.fed_inbox.specs.declared.refusal.Refusal.{Refusal}
use Rattle.fed_inbox.specs.Inbox.{InboxState}
use Rattle.fed_inbox.specs.WholeRequest.{IsRefused}
use Rattle.fed_inbox.specs.Delivery.{DeliveryState, IsTaken}
use Rattle.fed_inbox.specs.DeliveryParts.{judgement}
use Rattle.fed_inbox.specs.Reply.{accepted}
use Rattle.fed_inbox.specs.Runs.{kept_reply}

abbrev pub Answers : Result Judged Refusal → InboxState → Answer → InboxState → List CheckedEvent → Type 0
Answers (Ok judged) old answer new fresh = IsTaken old (judgement judged) answer new fresh
Answers (Err refusal) old answer new fresh = IsRefused old refusal answer new fresh

-- it is the reply that the inbox keeps for a transaction
pub record IsKeptFor (inbox : InboxState) (delivery : DeliveryState) (answer : Answer) : Type 0 where
  pub reply : List ℕ
  pub kept : kept_reply inbox delivery.origin delivery.txn ≡ Some reply
  pub answer_is : answer ≡ accepted reply
