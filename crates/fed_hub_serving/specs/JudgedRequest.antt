-- A request that was read and judged apart from the inbox of its server (Matrix, Server-Server API, "Transactions").
use Rattle.std.specs.Prelude.{◌≡◌, ℕ, List, [], map, Result, Ok, Err}
use Rattle.fed_event.specs.Checked.{CheckedEvent}
use Rattle.fed_keys.specs.Keys.{Checks}
use Rattle.fed_http.specs.Message.{RequestValue, Answer}
use Rattle.fed_inbox.specs.declared.delivery.Judged.{Judged}
use Rattle.fed_inbox.specs.declared.refusal.Refusal.{Refusal}
use Rattle.fed_inbox.specs.Receiver.{ReceiverState}
use Rattle.fed_inbox.specs.Reply.{refused}
use Rattle.fed_inbox.specs.Delivery.{Settles, Refuses, first_reply, first_fresh}
use Rattle.fed_inbox.specs.DeliveryParts.{judgement}
use Rattle.fed_hub_serving.specs.declared.judged_request.JudgedRequest.{JudgedRequest}
use Rattle.fed_hub_serving.specs.Bound.{bound_of}

-- the reply to it where none is kept, and the events that it then brings for the rooms
abbrev pub reply_to : Result Judged Refusal → Answer
reply_to (Ok judged) = first_reply (judgement judged).comes_to
reply_to (Err refusal) = refused refusal

abbrev pub fresh_of : Result Judged Refusal → List CheckedEvent
fresh_of (Ok judged) = first_fresh (judgement judged).comes_to
fresh_of (Err refusal) = []

-- what any inbox of the server makes of what the request comes to is its answer to the request
abbrev pub IsDecided : Checks → ReceiverState → RequestValue → Result Judged Refusal → Type 0
IsDecided checks receiver request (Ok judged) = Settles checks receiver request (judgement judged)
IsDecided checks receiver request (Err refusal) = Refuses checks receiver request refusal

-- it was judged under these keys at this server, which has rooms of the ids `known`, and the copies are right
pub record IsJudged (checks : Checks) (receiver : ReceiverState) (known : List (List ℕ)) (j : JudgedRequest) : Type 0 where
  pub decided : IsDecided checks receiver j.request j.comes_to
  pub reply : j.reply ≡ reply_to j.comes_to
  pub bound : j.bound.items ≡ map (bound_of known) (fresh_of j.comes_to)
