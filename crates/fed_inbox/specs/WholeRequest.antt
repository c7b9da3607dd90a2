-- How a whole request is read and answered (Server-Server API, "Request Authentication" and "Transactions").
use Rattle.std.specs.Prelude.{◌≡◌, ◌≢◌, ℕ, List, [], Bool, true, false, bytes_eq, codes, Option, Some, None, option_and_then, Result, Ok, Err}
use Rattle.serde_json.specs.Data.{Data}
use Rattle.fed_event.specs.Keys.{Checks}
use Rattle.fed_event.specs.Checked.{CheckedEvent}
use Rattle.fed_http.specs.Framing.{values_of, only_of, if_text}
use Rattle.fed_http.specs.Message.{RequestValue}
use Rattle.fed_http.specs.XMatrixSigning.{signed_text}
use Rattle.fed_http.specs.XMatrix.{XMatrixValue, IsXMatrix}
use Rattle.fed_inbox.specs.declared.refusal.Refusal.{Refusal}
use Rattle.fed_inbox.specs.declared.refusal.Refusal.TheVariants.{NoSuchPath, MethodNotAllowed, BadAuthorization, WrongDestination, OutOfMemory}
use Rattle.fed_inbox.specs.Reply.{Answer, refused}
use Rattle.fed_inbox.specs.Inbox.{InboxState}
use Rattle.fed_inbox.specs.Answer.{SendRequest, request_by, IsAnswered}
use Rattle.fed_inbox.specs.SendPath.{txn_of}

-- what a request says before its body is read: the number of the transaction, and the sender with a signature
pub record Heading : Type 0 where
  pub txn : List ℕ
  pub header : XMatrixValue

-- the value of the one Authorization field, where it is a text
abbrev pub authorization_of : RequestValue → Option (List ℕ)
authorization_of r = option_and_then if_text (only_of (values_of (codes "authorization") r.fields))

-- exactly one Authorization field stands in the request, and its value says this
abbrev pub HasHeader : RequestValue → XMatrixValue → Type 0
HasHeader r header = (text : List ℕ) × (authorization_of r ≡ Some text) × IsXMatrix text header

-- no destination is named, or this server
abbrev pub is_for : List ℕ → Option (List ℕ) → Bool
is_for own None = true
is_for own (Some destination) = bytes_eq destination own

-- `PUT /_matrix/federation/v1/send/{txnId}`
abbrev pub IsSending : RequestValue → List ℕ → Type 0
IsSending r txn = (txn_of r.target ≡ Some txn) × (r.method ≡ codes "PUT")

-- What a request is read as by the server `own`, or its refusal: the first that holds.
pub data IsReadAs (own : List ℕ) (r : RequestValue) : Result Heading Refusal → Type 0 where
  no_such_path : txn_of r.target ≡ None → IsReadAs own r (Err NoSuchPath)
  other_method : (txn : List ℕ) → txn_of r.target ≡ Some txn → r.method ≢ codes "PUT" → IsReadAs own r (Err MethodNotAllowed)
  no_header : (txn : List ℕ) → IsSending r txn → ((header : XMatrixValue) → HasHeader r header → ⊥) → IsReadAs own r (Err BadAuthorization)
  other_destination : (txn : List ℕ) (header : XMatrixValue) → IsSending r txn → HasHeader r header → is_for own header.destination ≡ false
      → IsReadAs own r (Err WrongDestination)
  heading : (txn : List ℕ) (header : XMatrixValue) → IsSending r txn → HasHeader r header → is_for own header.destination ≡ true
      → IsReadAs own r (Ok (record { txn = txn; header = header }))

-- the signature of a header checks under the sender's key, where the body is of a value: the destination that is signed is `own`
abbrev pub is_signed_by : Checks → List ℕ → RequestValue → XMatrixValue → Data → Bool
is_signed_by checks own r header content =
    checks header.origin header.key (signed_text (record { method = r.method; target = r.target; origin = header.origin; destination = own; content = content })) header.signature

-- what the server `own` is asked
abbrev pub asked : Checks → List ℕ → RequestValue → Heading → SendRequest
asked checks own r read = request_by read.header.origin read.txn r.body (is_signed_by checks own r read.header)

-- the answer is this refusal, and nothing is taken or kept
pub record IsRefused (old : InboxState) (refusal : Refusal) (answer : Answer) (new : InboxState) (fresh : List CheckedEvent) : Type 0 where
  pub answer_is : answer ≡ refused refusal
  pub new_is : new ≡ old
  pub fresh_is : fresh ≡ []

-- The answer to a whole request, the state after it, and the events for the rooms: want of memory, the refusal that it is read as, or
-- the answer to what it asks.
pub data IsAnsweredWhole (checks : Checks) (old : InboxState) (r : RequestValue) (answer : Answer) (new : InboxState) (fresh : List CheckedEvent) : Type 0 where
  no_memory : IsRefused old OutOfMemory answer new fresh → IsAnsweredWhole checks old r answer new fresh
  not_read : (refusal : Refusal) → IsReadAs old.own r (Err refusal) → IsRefused old refusal answer new fresh → IsAnsweredWhole checks old r answer new fresh
  read : (read : Heading) → IsReadAs old.own r (Ok read) → IsAnswered checks old (asked checks old.own r read) answer new fresh
      → IsAnsweredWhole checks old r answer new fresh
