-- What is told of a transaction that is made, whose sending fails or that is answered, and what the outbox is then (Matrix, Server-Server API,
-- "Transactions": a sender keeps a transaction, and sends it again, until it is answered).
use Rattle.std.specs.Prelude.{ℕ, Option, Some, None, option_map, if◌then◌else◌}
use Rattle.fed_outbox.specs.Transaction.{TransactionValue}
use Rattle.fed_outbox.specs.Outbox.{OutboxState, can_cut, next_transaction, failed, settle, has_number}
use Rattle.fed_outbox.specs.Settlement.{settlement}
use Rattle.fed_outbox.specs.declared.settlement.Settlement as declared
use Rattle.fed_outbox.specs.declared.settlement.Settlement.TheVariants.{Ignored, Failed}

-- the transaction that a cut makes
abbrev pub transaction_cut : OutboxState → ℕ → Option TransactionValue
transaction_cut o now = if can_cut o then Some (next_transaction o now) else None

-- the unanswered transaction has failed once more, where there is one; and when it is due then
abbrev pub failed_once : OutboxState → ℕ → OutboxState
failed_once o now = by o.unanswered
  where
    by : Option TransactionValue → OutboxState
    by None = o
    by (Some t) = failed o t.number now

abbrev pub due_told : OutboxState → ℕ → Option ℕ
due_told o now = option_map (λ (t : TransactionValue). (failed o t.number now).due_at) o.unanswered

-- transaction n was answered with this status, or with what is no answer that can be read, and has failed by that
abbrev pub answered : OutboxState → ℕ → Option ℕ → ℕ → OutboxState
answered o n (Some status) now = settle o n status now
answered o n None now = failed o n now

abbrev pub answer_told : OutboxState → ℕ → Option ℕ → declared.Settlement
answer_told o n (Some status) = settlement o n status
answer_told o n None = if has_number o.unanswered n then Failed else Ignored
