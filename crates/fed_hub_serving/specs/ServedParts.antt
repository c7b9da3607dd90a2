-- The parts of what becomes of a request that comes to a server.
use Rattle.std.specs.Prelude.{◌≡◌, ℕ, List, Option}
use Rattle.std.specs.Io.KnownBytes.{Appends}
use Rattle.fed_keys.specs.Keys.{Checks}
use Rattle.fed_http.specs.Message.{RequestValue, Answer}
use Rattle.fed_http.specs.Sending.{AppendsFront}
use Rattle.fed_http.specs.Writing.{reply_bytes_to}
use Rattle.fed_inbox.specs.Inbox.{InboxState}
use Rattle.fed_hub_serving.specs.Answered.{AnsweredValue, with_answered}
use Rattle.fed_hub_serving.specs.Served.{IsInboxReply, IsTakenIn}
use Rattle.fed_hub_serving.specs.Serving.{ServingState}
use Rattle.fed_hub_serving.specs.declared.served.Served.{Served}
use Rattle.fed_hub_serving.specs.declared.served.Served.TheVariants.{Answered, ReadFault, EndedEarly, WriteFault}

-- a reply to this method was written: whole, and its status is told, or a front of it
abbrev pub IsSent : List ℕ → Option (List ℕ) → Option (List ℕ) → Answer → Served → Type 0
IsSent method old new reply (Answered status) = Appends old new (reply_bytes_to method reply) × (status ≡ reply.status)
IsSent method old new reply WriteFault = AppendsFront old new (reply_bytes_to method reply)
IsSent method old new reply ReadFault = ⊥
IsSent method old new reply EndedEarly = ⊥

-- a request was answered: the inbox's reply to it was sent, and both are kept with the number
pub record IsRequestServed (checks : Checks) (known : List (List ℕ)) (beginning : InboxState) (request : RequestValue) (inbox inbox' : Option ServingState) (given given' : List AnsweredValue) (old new : Option (List ℕ)) (served : Served) : Type 0 where
  pub reply : Answer
  pub number : Option ℕ
  pub of_inbox : IsInboxReply checks beginning request reply
  pub taken : IsTakenIn checks known request reply number inbox inbox'
  pub kept : given' ≡ with_answered given request reply number
  pub sent : IsSent request.method old new reply served
