-- The state that the fields of an `Inbox` stand for: each log has the replies that the store keeps for its origin.
use Rattle.std.specs.Prelude.{◌≡◌, ℕ, List, map, filter, not}
use Rattle.std.specs.Str.{bytes_eq}
use Rattle.fed_replies.specs.Kept.{KeptReplies}
use Rattle.fed_inbox.specs.Log.{TakenFrom, with_replies, origin_of, AreByOrigin}
use Rattle.fed_inbox.specs.LogParts.{nothing_from}
use Rattle.fed_inbox.specs.Inbox.{InboxState}
use Rattle.fed_inbox.specs.Receiver.{ReceiverState, others_of}

abbrev pub state_of : List ℕ → List (List ℕ) → KeptReplies → List TakenFrom → InboxState
state_of own rooms kept logs = record { own = own; rooms = rooms; logs = map (with_replies kept) logs }

-- an empty log for each of these servers but `own`
abbrev pub nothing_from_all : List ℕ → List (List ℕ) → List TakenFrom
nothing_from_all own servers = map nothing_from (filter (λ server. not (bytes_eq server own)) servers)

-- logs in the order of their origins, which are the servers that are taken from
pub record AreOfReceiver (r : ReceiverState) (logs : List TakenFrom) : Type 0 where
  pub order : AreByOrigin logs
  pub origins : map origin_of logs ≡ others_of r.own r.servers
