-- The way of a transaction and of its answer, in bytes (Matrix, Server-Server API, "PUT /_matrix/federation/v1/send/{txnId}").
use Rattle.std.specs.Prelude.{◌≡◌, ◌<◌, ◌≤◌, ◌^◌, ℕ, List, ◌++◌, length, codes, decimal, Option, Some, None, Ok}
use Rattle.fed_json.specs.CanonicalText.{canonical_text}
use Rattle.fed_outbox.specs.Transaction.{TransactionValue}
use Rattle.fed_txn.specs.Reading.{body_of}
use Rattle.fed_txn.specs.Writing.{body_value, IsWithinLimits}
use Rattle.fed_http.specs.Message.{RequestValue, Answer}
use Rattle.fed_http.specs.XMatrixSigning.{SignableJson, request_of}
use Rattle.fed_http.specs.Text.{BeginsWith}
use Rattle.fed_http.specs.Writing.{request_bytes, reply_bytes}
use Rattle.fed_http.specs.declared.message.Kind.{Kind}
use Rattle.fed_http.specs.declared.message.Kind.TheVariants.{Requests, Replies}
use Rattle.fed_http.specs.declared.message.Message.{Message}
use Rattle.fed_http.specs.declared.message.Message.TheVariants as message

-- the target of the request for transaction n: its id is the epoch and n, with a hyphen between them
abbrev pub target_of : ℕ → ℕ → List ℕ
target_of epoch n = codes "/_matrix/federation/v1/send/" ++ (decimal epoch ++ (codes "-" ++ decimal n))

-- what brings a transaction from the server `origin` to the server `dest`
abbrev pub asked_of : List ℕ → List ℕ → ℕ → TransactionValue → SignableJson
asked_of origin dest epoch t = record {
  method = codes "PUT";
  target = target_of epoch t.number;
  origin = origin;
  destination = dest;
  content = body_value origin t;
}

-- the bytes of its request, signed by a key of this name
abbrev pub bytes_sent : SignableJson → List ℕ → (List ℕ → List ℕ) → List ℕ
bytes_sent asked key sign = request_bytes (request_of asked key sign)

-- The id of a transaction is made of numbers of 64 bits, and the text of its body, where it is within its limits, is read as that body.
pub record IsReadable (origin : List ℕ) (epoch : ℕ) (t : TransactionValue) : Type 0 where
  pub epoch_fits : epoch < 2 ^ 64
  pub number_fits : t.number < 2 ^ 64
  pub body : IsWithinLimits t → length origin ≤ 65536 → body_of (canonical_text (body_value origin t)) ≡ Ok (body_value origin t)

-- bytes begin with the text of a request
abbrev pub IsRequestIn : List ℕ → RequestValue → Type 0
IsRequestIn bytes request = BeginsWith Requests bytes (message.Request request)

-- bytes begin with the text of a reply that has this status
abbrev pub HasStatus : List ℕ → ℕ → Type 0
HasStatus bytes status = (read : Answer) × (BeginsWith Replies bytes (message.Reply read) × (read.status ≡ status))

-- those of a reply do
abbrev pub IsStatusIn : Answer → ℕ → Type 0
IsStatusIn reply status = HasStatus (reply_bytes reply) status

-- they do not begin with the text of any request, or of any reply
abbrev pub HasNoRequest : List ℕ → Type 0
HasNoRequest bytes = (request : RequestValue) → ¬ (IsRequestIn bytes request)

abbrev pub HasNoReply : List ℕ → Type 0
HasNoReply bytes = (reply : Answer) → ¬ (BeginsWith Replies bytes (message.Reply reply))

-- the status of the reply that bytes begin with, where they begin with the text of one
abbrev pub IsStatusAt : List ℕ → Option ℕ → Type 0
IsStatusAt bytes (Some status) = HasStatus bytes status
IsStatusAt bytes None = HasNoReply bytes

-- the status that is read of a reply
abbrev pub IsStatusOf : Answer → Option ℕ → Type 0
IsStatusOf reply found = IsStatusAt (reply_bytes reply) found
