-- How the parts of an outbox hold together.
use Rattle.std.specs.Prelude.{◌≡◌, ◌+◌, ◌<◌, ◌≤◌, length, Option, Some, None}
use Rattle.fed_outbox.specs.Transaction.{TransactionValue}
use Rattle.fed_outbox.specs.Outbox.{OutboxState, unanswered_pdus, unanswered_edus}

-- a transaction has at most 50 events and 100 EDUs (Server-Server API, "Transactions"), and at least one of them
pub record IsWhole (t : TransactionValue) : Type 0 where
  pub pdus : length t.pdus ≤ 50
  pub edus : length t.edus ≤ 100
  pub some : 0 < length t.pdus + length t.edus

-- an unanswered transaction is the newest one; without one there is nothing to send and there was no failure
abbrev pub IsNewest : OutboxState → Option TransactionValue → Type 0
IsNewest o None = (o.due_at ≡ 0) × (o.failures ≡ 0)
IsNewest o (Some t) = (t.number ≡ o.last) × IsWhole t

pub record HoldsTogether (o : OutboxState) : Type 0 where
  pub newest : IsNewest o o.unanswered
  pub failures : o.failures ≤ 13
  -- there are no more transactions than events and EDUs that were sent
  pub last : o.last ≤ length o.settled + length (unanswered_pdus o.unanswered) + (length o.settled_edus + length (unanswered_edus o.unanswered))
