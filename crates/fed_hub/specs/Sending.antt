-- What is to be done for a destination, turn after turn (Matrix, Server-Server API, "Transactions": a sender keeps a transaction, and sends it
-- again, until it is answered; when it sends again is this project's own).
use Rattle.std.specs.Prelude.{◌≡◌, ◌-◌, nat_le, if◌then◌else◌, ℕ, true, false, List, Some, Result, Ok, Err, alloc_error, slice_get}
use Rattle.std.specs.declared.alloc.AllocError.{AllocError}
use Rattle.fed_exchange.specs.Messages.{IsStatusAt, asked_of, bytes_sent}
use Rattle.fed_outbox.specs.Answering.{answered, failed_once}
use Rattle.fed_outbox.specs.Outbox.{OutboxState, cut, is_due, is_ended, is_unanswered}
use Rattle.fed_outbox.specs.Transaction.{TransactionValue}
use Rattle.fed_hub_rooms.specs.declared.ran.Ran.{Ran}
use Rattle.fed_hub_rooms.specs.declared.ran.Ran.TheVariants as ran
use Rattle.fed_hub.specs.declared.carrier.CarrierFault.{CarrierFault}
use Rattle.fed_hub.specs.declared.carrier.CarrierFault.TheVariants as carrier
use Rattle.fed_hub.specs.declared.collected.Collected.{Collected}
use Rattle.fed_hub.specs.declared.collected.Collected.TheVariants as collected
use Rattle.fed_hub.specs.declared.sending.Act.{Act}
use Rattle.fed_hub.specs.declared.sending.Act.TheVariants.{Drain, Exchange, Pause, Idle}
use Rattle.fed_hub.specs.declared.sending.Came.{Came}
use Rattle.fed_hub.specs.declared.sending.Came.TheVariants as came
use Rattle.fed_hub.specs.declared.sending.Next.TheVariants as next
use Rattle.fed_hub.specs.declared.sending.Turn.{Turn}
use Rattle.fed_hub.specs.declared.sending.Turn.TheVariants.{Made, Last}
use Rattle.fed_hub.specs.Collecting.{Collects}
use Rattle.fed_hub.specs.Held.{Held}
use Rattle.fed_hub.specs.Hub.{HubShape}

-- at a moment, by its outbox: nothing once that has ended; the request of the unanswered transaction is brought where that is due, and else not
-- before it is; where none is unanswered there is nothing to bring
abbrev pub IsNext : (TransactionValue → List ℕ) → OutboxState → ℕ → Act → Type 0
IsNext request_of o now Drain = is_ended o ≡ true
IsNext request_of o now (Exchange number request) = (is_due o now ≡ true) × ((t : TransactionValue) × (o.unanswered ≡ Some t) × (number ≡ t.number) × (request.items ≡ request_of t))
IsNext request_of o now (Pause until) = (is_unanswered o.unanswered ≡ true) × (is_due o now ≡ false) × (until ≡ o.due_at)
IsNext request_of o now Idle = (is_unanswered o.unanswered ≡ false) × (is_ended o ≡ false)

-- By some state of its outbox, behind a cut at that moment. A request is asked in the hub's name, of the destination's, with the hub's epoch.
pub record IsNextAt (hub : HubShape) (dest now : ℕ) (act : Act) : Type 0 where
  pub outbox : OutboxState
  pub name : List ℕ
  pub key : List ℕ
  pub sign : List ℕ → List ℕ
  pub named : slice_get hub.list dest ≡ Some name
  pub next : IsNext (λ t. bytes_sent (asked_of hub.name name hub.epoch t) key sign) (cut outbox now) now act

-- these bytes bring a transaction of this number from the hub to the destination
pub record IsAsked (hub : HubShape) (dest number : ℕ) (request : List ℕ) : Type 0 where
  pub transaction : TransactionValue
  pub name : List ℕ
  pub key : List ℕ
  pub sign : List ℕ → List ℕ
  pub named : slice_get hub.list dest ≡ Some name
  pub numbered : number ≡ transaction.number
  pub bytes : request ≡ bytes_sent (asked_of hub.name name hub.epoch transaction) key sign

-- a reply came, whose status is read so; or none came, and the reason is told
abbrev pub HasCome : List ℕ → Came → Type 0
HasCome reply (came.Reply status) = IsStatusAt reply status
HasCome reply came.Nothing = ⊥

abbrev pub came_of : CarrierFault → Result Came AllocError
came_of carrier.Failed = Ok came.Nothing
came_of carrier.Memory = Err alloc_error

-- the outbox, once it is entered what came of the exchange of transaction n
abbrev pub entered : OutboxState → ℕ → Came → ℕ → OutboxState
entered o n (came.Reply status) now = answered o n status now
entered o n came.Nothing now = failed_once o now

-- what is to be done behind a collect, where at most so many are moved before it acts
abbrev pub turn_of : Collected → ℕ → Turn
turn_of collected.Moved most = if nat_le most 1 then Made next.Act else Made (next.Collect (most - 1))
turn_of collected.Nothing most = Made next.Act
turn_of collected.Closed most = Made next.Act
turn_of collected.Memory most = Last ran.Memory

-- a turn is one collect
pub record IsTurnOf (most : ℕ) (old : Held) (turn : Turn) (new : Held) : Type 0 where
  pub told : Collected
  pub collects : Collects old told new
  pub made : turn ≡ turn_of told most

-- Where a turn is told to be the last since all is settled, the end came over the wire and was moved.
abbrev pub EndsSo : Ran → Held → Type 0
EndsSo ran.Drained held = held.ended ≡ true
EndsSo ran.TurnsSpent held = Unit {0}
EndsSo ran.Memory held = Unit {0}

abbrev pub LastsSo : Turn → Held → Type 0
LastsSo (Made other) held = Unit {0}
LastsSo (Last ran) held = EndsSo ran held
