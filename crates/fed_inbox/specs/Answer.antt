-- What an inbox answers to a request `PUT /_matrix/federation/v1/send/{txnId}`, and its state afterwards (Server-Server API,
-- "Transactions"; a transaction that was answered before gets the same answer, and is not taken again).
use Rattle.std.specs.Prelude.{◌≡◌, ℕ, List, [], ◌++◌, Bool, true, false, not, Option, Some, None, option_map, unwrap_or, Result, Ok, Err, if◌then◌else◌}
use Rattle.std.specs.Str.{bytes_eq}
use Rattle.std.specs.FinMap as finite
use Rattle.serde_json.specs.Data.{Data}
use Rattle.fed_event.specs.Keys.{Checks}
use Rattle.fed_event.specs.Checked.{CheckedEvent}
use Rattle.fed_txn.specs.declared.fault.TxnFault.{TxnFault}
use Rattle.fed_txn.specs.Transaction.{Transaction, origin_of, transaction_of}
use Rattle.fed_txn.specs.Reading.{body_of}
use Rattle.fed_inbox.specs.declared.refusal.Refusal.TheVariants.{ServerNotListed, BadSignature, OriginDiffers, OutOfMemory}
use Rattle.fed_inbox.specs.Refusal.{refusal_of}
use Rattle.fed_inbox.specs.Reply.{Answer, accepted, refused}
use Rattle.fed_inbox.specs.Log.{LogState}
use Rattle.fed_inbox.specs.Taking.{Taking, taking_of}
use Rattle.fed_inbox.specs.Inbox.{InboxState, log_at, with_log}

-- a request of an origin, and whether it is signed by the origin where its body is of a value
pub record SendRequest : Type 0 where
  pub origin : List ℕ
  pub txn : List ℕ
  pub body : List ℕ
  pub is_signed : Data → Bool

-- the log with what a transaction came to, and its reply
abbrev pub with_taking : LogState → List ℕ → Taking → LogState
with_taking log txn taking = record {
  origin = log.origin;
  replies = finite.insert log.replies txn taking.reply;
  pdus = log.pdus ++ taking.pdus;
  edus = log.edus ++ taking.edus;
}

-- the body has a text `origin` that is not this one
abbrev pub names_other : Data → List ℕ → Bool
names_other body origin = unwrap_or (option_map (λ named. not (bytes_eq named origin)) (origin_of body)) false

-- an answer, the log of the origin afterwards, and the events that are handed on to the rooms
pub record Step : Type 0 where
  pub answer : Answer
  pub log : LogState
  pub fresh : List CheckedEvent

-- nothing is taken
abbrev pub answered : LogState → Answer → Step
answered log answer = record { answer = answer; log = log; fresh = [] }

abbrev pub taken : LogState → List ℕ → Taking → Step
taken log txn taking = record { answer = accepted taking.reply; log = with_taking log txn taking; fresh = taking.fresh }

-- ---- by the keys that check signatures, and the rooms that are known

module _ (checks : Checks) (rooms : List (List ℕ)) where
  -- a transaction that is not taken before is taken, or its fault is answered
  abbrev pub step_new : LogState → List ℕ → Result Transaction TxnFault → Step
  step_new log txn (Err fault) = answered log (refused (refusal_of fault))
  step_new log txn (Ok transaction) = taken log txn (taking_of checks rooms transaction)

  -- one that was taken before gets the kept reply, whatever its body
  abbrev pub step_kept : LogState → List ℕ → Data → Option (List ℕ) → Step
  step_kept log txn body (Some reply) = answered log (accepted reply)
  step_kept log txn body None = step_new log txn (transaction_of body)

  abbrev pub step_signed : LogState → List ℕ → Data → Step
  step_signed log txn body = if names_other body log.origin then answered log (refused OriginDiffers) else step_kept log txn body (finite.get log.replies txn)

  abbrev pub step_body : LogState → List ℕ → (Data → Bool) → Result Data TxnFault → Step
  step_body log txn is_signed (Err fault) = answered log (refused (refusal_of fault))
  step_body log txn is_signed (Ok body) = if is_signed body then step_signed log txn body else answered log (refused BadSignature)

  -- the step of a request of the log's origin
  abbrev pub step_of : LogState → SendRequest → Step
  step_of log request = step_body log request.txn request.is_signed (body_of request.body)

  abbrev pub answer_by : Option LogState → SendRequest → Answer
  answer_by None request = refused ServerNotListed
  answer_by (Some log) request = (step_of log request).answer

  abbrev pub logs_by : List LogState → Option LogState → SendRequest → List LogState
  logs_by logs None request = logs
  logs_by logs (Some log) request = with_log request.origin logs (step_of log request).log

  abbrev pub fresh_by : Option LogState → SendRequest → List CheckedEvent
  fresh_by None request = []
  fresh_by (Some log) request = (step_of log request).fresh

-- ---- by the keys that check signatures

module _ (checks : Checks) where
  -- the answer to a request, where memory is found
  abbrev pub answer_to : InboxState → SendRequest → Answer
  answer_to inbox request = answer_by checks inbox.rooms (log_at request.origin inbox.logs) request

  -- the state after it
  abbrev pub after : InboxState → SendRequest → InboxState
  after inbox request = record {
    own = inbox.own;
    rooms = inbox.rooms;
    logs = logs_by checks inbox.rooms inbox.logs (log_at request.origin inbox.logs) request;
  }

  -- the events that it brings for the rooms: those of a transaction that is taken, and else none
  abbrev pub fresh_to : InboxState → SendRequest → List CheckedEvent
  fresh_to inbox request = fresh_by checks inbox.rooms (log_at request.origin inbox.logs) request

  -- the answer and the state where memory is found, and where it is not: then the answer says so, and nothing changes
  abbrev pub marked_answer : InboxState → SendRequest → Bool → Answer
  marked_answer inbox request found = if found then answer_to inbox request else refused OutOfMemory

  abbrev pub marked_after : InboxState → SendRequest → Bool → InboxState
  marked_after inbox request found = if found then after inbox request else inbox

  abbrev pub marked_fresh : InboxState → SendRequest → Bool → List CheckedEvent
  marked_fresh inbox request found = if found then fresh_to inbox request else []

  -- the request was answered so, left the inbox so, and brought this for the rooms
  pub record IsAnswered (old : InboxState) (request : SendRequest) (answer : Answer) (new : InboxState) (fresh : List CheckedEvent) : Type 0 where
    pub found : Bool
    pub answer_is : answer ≡ marked_answer old request found
    pub new_is : new ≡ marked_after old request found
    pub fresh_is : fresh ≡ marked_fresh old request found

abbrev pub request_by : List ℕ → List ℕ → List ℕ → (Data → Bool) → SendRequest
request_by origin txn body is_signed = record { origin = origin; txn = txn; body = body; is_signed = is_signed }

-- a request whose origin is known by other means than a signature
abbrev pub request_of : List ℕ → List ℕ → List ℕ → SendRequest
request_of origin txn body = request_by origin txn body (λ _. true)

-- a log answered by a step, or for want of memory, and then it stays
pub record Steps (old : LogState) (step : Step) (answer : Answer) (new : LogState) (fresh : List CheckedEvent) : Type 0 where
  pub found : Bool
  pub answer_is : answer ≡ (if found then step.answer else refused OutOfMemory)
  pub log_is : new ≡ (if found then step.log else old)
  pub fresh_is : fresh ≡ (if found then step.fresh else [])
