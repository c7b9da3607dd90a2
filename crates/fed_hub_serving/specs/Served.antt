-- What becomes of one request that comes to a server (Matrix, Server-Server API, "Transactions"; Client-Server API, "Standard error response").
use Rattle.std.specs.Prelude.{◌≡◌, ◌↔◌, ℕ, List, [], Option, Some, None}
use Rattle.std.specs.Io.KnownBytes.{Appends}
use Rattle.fed_event.specs.Checked.{CheckedEvent}
use Rattle.fed_keys.specs.Keys.{Checks}
use Rattle.fed_http.specs.FaultReplies.{reply_to}
use Rattle.fed_http.specs.Message.{RequestValue, Answer}
use Rattle.fed_http.specs.Sending.{AppendsFront}
use Rattle.fed_http.specs.Writing.{reply_bytes_to}
use Rattle.fed_http.specs.declared.fault.HttpFault.{HttpFault}
use Rattle.fed_http.specs.declared.message.Kind.TheVariants.{Requests}
use Rattle.fed_http.specs.declared.message.Message.TheVariants.{Request}
use Rattle.fed_inbox.specs.History.{Point, IsHistory}
use Rattle.fed_inbox.specs.Inbox.{InboxState}
use Rattle.fed_inbox.specs.WholeRequest.{IsAnsweredWhole}
use Rattle.fed_stream.specs.Reading.{Reads, IsUnread}
use Rattle.fed_stream.specs.declared.unread.Unread.TheVariants as unread
use Rattle.fed_hub_serving.specs.Answered.{AnsweredValue, with_answered}
use Rattle.fed_hub_serving.specs.Sections.{RequestIsTaken}
use Rattle.fed_hub_serving.specs.Serving.{ServingState}
use Rattle.fed_hub_serving.specs.declared.served.Served.{Served}
use Rattle.fed_hub_serving.specs.declared.served.Served.TheVariants.{Answered, ReadFault, EndedEarly, WriteFault}

-- The reply is the inbox's answer to the request after some history ("Transactions"): where memory ran out, 500.
pub record IsInboxReply (checks : Checks) (beginning : InboxState) (request : RequestValue) (reply : Answer) : Type 0 where
  pub points : List Point
  pub inbox : InboxState
  pub history : IsHistory checks beginning points inbox
  pub new : InboxState
  pub fresh : List CheckedEvent
  pub answered : IsAnsweredWhole checks inbox request reply new fresh

-- a request has no number just where its reply is of 500
abbrev pub IsNumbered : Answer → Option ℕ → Type 0
IsNumbered reply number = (number ≡ None) ↔ (reply.status ≡ 500)

-- Where the state of the inbox is known, it is the inbox that answered: the request is the next of its history, and the number is its place there; or
-- memory ran out, nothing changed, and there is no number. Where the state is not known, there is a number all the same, unless the reply is of 500.
pub data IsTakenIn (checks : Checks) (known : List (List ℕ)) (request : RequestValue) (reply : Answer) (number : Option ℕ) : Option ServingState → Option ServingState → Type 0 where
  hidden : (new : Option ServingState) → IsNumbered reply number → IsTakenIn checks known request reply number None new
  seen : (old new : ServingState) → RequestIsTaken checks known request old reply number new
      → IsTakenIn checks known request reply number (Some old) (Some new)

-- the bytes that the reader has left, those that the writer holds and the inbox, where they are known, and the requests that were answered
pub record Ends : Type 0 where
  pub left : Option (List ℕ)
  pub written : Option (List ℕ)
  pub inbox : Option ServingState
  pub given : List AnsweredValue

-- The reply to what the reader held, and the method of what it answers: of a request, which is kept with it and its number ("Transactions"); or none,
-- where the bytes are no request ("Standard error response").
pub data IsReply (checks : Checks) (known : List (List ℕ)) (beginning : InboxState) (old new : Ends) (reply : Answer) : List ℕ → Type 0 where
  to_request : (request : RequestValue) (number : Option ℕ) → Reads Requests old.left new.left (Request request) → IsInboxReply checks beginning request reply
      → IsTakenIn checks known request reply number old.inbox new.inbox → new.given ≡ with_answered old.given request reply number
      → IsReply checks known beginning old new reply request.method
  to_fault : (fault : HttpFault) → IsUnread Requests old.left new.left (unread.Http fault) → reply ≡ reply_to fault → new.inbox ≡ old.inbox → new.given ≡ old.given
      → IsReply checks known beginning old new reply []

-- nothing was written, and no request was answered
pub record IsUntouched (old new : Ends) : Type 0 where
  pub written : new.written ≡ old.written
  pub inbox : new.inbox ≡ old.inbox
  pub given : new.given ≡ old.given

-- What is told of it (this project's own): a reply was written whole, to a HEAD its head alone (RFC 9110, section 9.3.2), or a front of one; or the
-- input failed or ended, and nothing was written.
abbrev pub IsServed : Checks → List (List ℕ) → InboxState → Ends → Ends → Served → Type 0
IsServed checks known beginning old new (Answered status) =
    (reply : Answer) × (method : List ℕ) × IsReply checks known beginning old new reply method × Appends old.written new.written (reply_bytes_to method reply) × (status ≡ reply.status)
IsServed checks known beginning old new WriteFault =
    (reply : Answer) × (method : List ℕ) × IsReply checks known beginning old new reply method × AppendsFront old.written new.written (reply_bytes_to method reply)
IsServed checks known beginning old new ReadFault = IsUnread Requests old.left new.left unread.Read × IsUntouched old new
IsServed checks known beginning old new EndedEarly = IsUnread Requests old.left new.left unread.EndedEarly × IsUntouched old new
