-- What a thread does that serves (Matrix, Server-Server API, "Transactions"): one request after another, each off a connection of its own. What a
-- connection held and was given is not known, since a socket states nothing; what became of a request is.
use Rattle.std.specs.Prelude.{◌+◌, ℕ, List, None}
use Rattle.fed_inbox.specs.Inbox.{InboxState}
use Rattle.fed_keys.specs.Keys.{Checks}
use Rattle.fed_hub_serving.specs.Answered.{AnsweredValue}
use Rattle.fed_hub_serving.specs.Served.{IsServed}
use Rattle.fed_hub_serving.specs.declared.served.Served.{Served}
use Rattle.fed_hub_serving.specs.declared.served.Served.TheVariants.{Answered, ReadFault, EndedEarly, WriteFault}

-- this became of a request that came over a connection, and of what the thread keeps
abbrev pub IsServedOff : Checks → List (List ℕ) → InboxState → List AnsweredValue → List AnsweredValue → Served → Type 0
IsServedOff checks known beginning old new told =
    IsServed checks known beginning (record { left = None; written = None; inbox = None; given = old }) (record { left = None; written = None; inbox = None; given = new }) told

-- how many replies were written whole
abbrev pub replies_of : Served → ℕ
replies_of (Answered status) = 1
replies_of ReadFault = 0
replies_of EndedEarly = 0
replies_of WriteFault = 0

-- Requests were served, one after another and each off a connection of its own, and to so many of them the whole reply was written. Between them
-- nothing else was.
pub data ServesInTurn (checks : Checks) (known : List (List ℕ)) (beginning : InboxState) (first : List AnsweredValue) : List AnsweredValue → ℕ → Type 0 where
  begin : ServesInTurn checks known beginning first first 0
  served : (old new : List AnsweredValue) (count : ℕ) (told : Served) → ServesInTurn checks known beginning first old count
      → IsServedOff checks known beginning old new told → ServesInTurn checks known beginning first new (count + replies_of told)
