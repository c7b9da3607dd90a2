-- A transaction on its way into an inbox, in the steps of a server that reads and judges it apart from the inbox (Server-Server API,
-- "Transactions").
use Rattle.std.specs.Prelude.{◌≡◌, ℕ, List, [], Option, Some, None, Result, Ok, Err}
use Rattle.std.specs.FinMap as finite
use Rattle.serde_json.specs.Data.{Data}
use Rattle.fed_event.specs.Keys.{Checks}
use Rattle.fed_event.specs.Checked.{CheckedEvent}
use Rattle.fed_http.specs.Message.{RequestValue}
use Rattle.fed_txn.specs.declared.fault.TxnFault.{TxnFault}
use Rattle.fed_txn.specs.Transaction.{Transaction, transaction_of}
use Rattle.fed_inbox.specs.declared.refusal.Refusal.{Refusal}
use Rattle.fed_inbox.specs.declared.refusal.Refusal.TheVariants.{ServerNotListed}
use Rattle.fed_inbox.specs.Refusal.{refusal_of}
use Rattle.fed_inbox.specs.Reply.{Answer, accepted, refused}
use Rattle.fed_inbox.specs.Log.{LogState}
use Rattle.fed_inbox.specs.Taking.{Taking, taking_of}
use Rattle.fed_inbox.specs.Inbox.{InboxState, log_at, with_log}
use Rattle.fed_inbox.specs.Answer.{SendRequest, Step, Steps, answered, taken, IsAnswered}
use Rattle.fed_inbox.specs.WholeRequest.{IsRefused, IsAnsweredWhole}
use Rattle.fed_inbox.specs.Receiver.{ReceiverState, IsInboxOf}

-- what a server delivers: its name, the transaction id, and the body, which is known to be its own
pub record DeliveryState : Type 0 where
  pub origin : List ℕ
  pub txn : List ℕ
  pub body : Data

-- and what that comes to: what is taken, or why it is refused where no reply is kept
pub record JudgedState : Type 0 where
  pub origin : List ℕ
  pub txn : List ℕ
  pub comes_to : Result Taking Refusal

module _ (checks : Checks) (rooms : List (List ℕ)) where
  abbrev pub comes_to : Result Transaction TxnFault → Result Taking Refusal
  comes_to (Err fault) = Err (refusal_of fault)
  comes_to (Ok transaction) = Ok (taking_of checks rooms transaction)

  abbrev pub judged_of : DeliveryState → JudgedState
  judged_of delivery = record { origin = delivery.origin; txn = delivery.txn; comes_to = comes_to (transaction_of delivery.body) }

-- the reply to a transaction that was not taken before, and the events that it then brings for the rooms
abbrev pub first_reply : Result Taking Refusal → Answer
first_reply (Err refusal) = refused refusal
first_reply (Ok taking) = accepted taking.reply

abbrev pub first_fresh : Result Taking Refusal → List CheckedEvent
first_fresh (Err refusal) = []
first_fresh (Ok taking) = taking.fresh

-- a transaction that is not taken before is taken, or its fault is answered
abbrev pub step_by : LogState → List ℕ → Result Taking Refusal → Step
step_by log txn (Err refusal) = answered log (refused refusal)
step_by log txn (Ok taking) = taken log txn taking

-- one that was taken before gets the kept reply, whatever it comes to
abbrev pub step_unless : LogState → List ℕ → Result Taking Refusal → Option (List ℕ) → Step
step_unless log txn comes_to (Some reply) = answered log (accepted reply)
step_unless log txn comes_to None = step_by log txn comes_to

abbrev pub step_in : LogState → JudgedState → Step
step_in log judged = step_unless log judged.txn judged.comes_to (finite.get log.replies judged.txn)

-- the inbox with another log of the origin
abbrev pub inbox_with : List ℕ → InboxState → LogState → InboxState
inbox_with origin inbox log = record { own = inbox.own; rooms = inbox.rooms; logs = with_log origin inbox.logs log }

-- What an inbox makes of a judged transaction: a step of the log of its origin, or, where it has none, the refusal.
pub data IsTaken (old : InboxState) (judged : JudgedState) (answer : Answer) (new : InboxState) (fresh : List CheckedEvent) : Type 0 where
  not_listed : log_at judged.origin old.logs ≡ None → IsRefused old ServerNotListed answer new fresh → IsTaken old judged answer new fresh
  in_log : (log now : LogState) → log_at judged.origin old.logs ≡ Some log → Steps log (step_in log judged) answer now fresh → new ≡ inbox_with judged.origin old now
      → IsTaken old judged answer new fresh

-- ---- by the keys that check signatures, and the server

module _ (checks : Checks) (r : ReceiverState) where
  -- whatever an inbox of the server makes of the judged transaction is its answer to the request
  abbrev pub Settles : RequestValue → JudgedState → Type 0
  Settles request judged = (old : InboxState) → IsInboxOf r old → (answer : Answer) (new : InboxState) (fresh : List CheckedEvent) → IsTaken old judged answer new fresh
      → IsAnsweredWhole checks old request answer new fresh

  -- each inbox of the server answers the request with this refusal, and takes nothing
  abbrev pub Refuses : RequestValue → Refusal → Type 0
  Refuses request refusal = (old : InboxState) → IsInboxOf r old → IsAnsweredWhole checks old request (refused refusal) old []

  -- the same of a request whose origin is known by other means than a signature, or by the means that it says
  abbrev pub SettlesBody : SendRequest → JudgedState → Type 0
  SettlesBody request judged = (old : InboxState) → IsInboxOf r old → (answer : Answer) (new : InboxState) (fresh : List CheckedEvent) → IsTaken old judged answer new fresh
      → IsAnswered checks old request answer new fresh

  abbrev pub RefusesBody : SendRequest → Refusal → Type 0
  RefusesBody request refusal = (old : InboxState) → IsInboxOf r old → IsAnswered checks old request (refused refusal) old []
