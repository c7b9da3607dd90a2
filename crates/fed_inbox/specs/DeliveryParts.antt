-- What a `Delivery` and a `Judged` stand for, and what a log and an inbox make of them before it is a reply.
use Rattle.std.specs.Prelude.{string_bytes, Result, Ok, Err}
use Rattle.fed_inbox.specs.declared.delivery.Delivery.{Delivery}
use Rattle.fed_inbox.specs.declared.delivery.Judged.{Judged}
use Rattle.fed_inbox.specs.declared.log.Accepted.{Accepted}
use Rattle.fed_inbox.specs.declared.outcome.Outcome.{Outcome}
use Rattle.fed_inbox.specs.declared.refusal.Refusal.{Refusal}
use Rattle.fed_inbox.specs.Log.{LogState}
use Rattle.fed_inbox.specs.Taking.{Taking}
use Rattle.fed_inbox.specs.Inbox.{InboxState}
use Rattle.fed_inbox.specs.OutcomeParts.{taking}
use Rattle.fed_inbox.specs.Answer.{Step, Steps}
use Rattle.fed_inbox.specs.AnswerParts.{answer_with, fresh_with}
use Rattle.fed_inbox.specs.Delivery.{DeliveryState, JudgedState, IsTaken}

abbrev pub delivered : Delivery → DeliveryState
delivered d = record { origin = string_bytes d.origin; txn = string_bytes d.txn; body = d.body }

abbrev pub taking_or : Result Outcome Refusal → Result Taking Refusal
taking_or (Ok outcome) = Ok (taking outcome)
taking_or (Err refusal) = Err refusal

abbrev pub judgement : Judged → JudgedState
judgement j = record { origin = string_bytes j.origin; txn = string_bytes j.txn; comes_to = taking_or j.comes_to }

abbrev pub IsStepped : LogState → Step → Result Accepted Refusal → LogState → Type 0
IsStepped old step result new = Steps old step (answer_with result) new (fresh_with result)

abbrev pub IsTriedTake : InboxState → JudgedState → Result Accepted Refusal → InboxState → Type 0
IsTriedTake old judged result new = IsTaken old judged (answer_with result) new (fresh_with result)
