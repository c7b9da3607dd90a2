-- The outbox that the fields of an `Outbox` stand for: all that was accepted, and counts of what is settled and sent.
use Rattle.std.specs.Prelude.{ℕ, ◌+◌, ◌^◌, ◌≤◌, if◌then◌else◌, List, length, take, drop, Option, Some, None, option_map}
use Rattle.serde_json.specs.Data.{Data}
use Rattle.fed_event.specs.Checked.{CheckedEvent}
use Rattle.fed_outbox.specs.declared.sent.Sent.{Sent}
use Rattle.fed_outbox.specs.declared.outbox.Outbox.TheInside.{Inside}
use Rattle.fed_outbox.specs.Transaction.{TransactionValue}
use Rattle.fed_outbox.specs.Outbox.{OutboxState}
use Rattle.fed_outbox.specs.Together.{HoldsTogether}

-- how many events, and EDUs, the unanswered transaction has
abbrev pub pdus_sent : Option Sent → ℕ
pdus_sent None = 0
pdus_sent (Some s) = s.pdus

abbrev pub edus_sent : Option Sent → ℕ
edus_sent None = 0
edus_sent (Some s) = s.edus

-- the transaction of the first of these events and EDUs
abbrev pub transaction_of : List CheckedEvent → List Data → Sent → TransactionValue
transaction_of pdus edus s = record { number = s.number; at_ms = s.at_ms; pdus = take s.pdus pdus; edus = take s.edus edus }

abbrev pub outbox_of : Inside → OutboxState
outbox_of o = record {
  dest = o.dest;
  settled = take o.acked o.pdus.items;
  settled_edus = take o.acked_edus o.edus.items;
  unanswered = option_map (transaction_of (drop o.acked o.pdus.items) (drop o.acked_edus o.edus.items)) o.unanswered;
  waiting = drop (pdus_sent o.unanswered) (drop o.acked o.pdus.items);
  waiting_edus = drop (edus_sent o.unanswered) (drop o.acked_edus o.edus.items);
  last = o.last;
  failures = o.failures;
  due_at = o.due_at;
  has_end = o.has_end;
}

pub record IsKept (o : Inside) : Type 0 where
  pub pdus : o.acked + pdus_sent o.unanswered ≤ length o.pdus.items
  pub edus : o.acked_edus + edus_sent o.unanswered ≤ length o.edus.items
  -- as many were accepted as there are numbers of places
  pub few : length o.pdus.items + length o.edus.items + (if o.has_end then 1 else 0) ≤ 2 ^ 53 + 1
  pub together : HoldsTogether (outbox_of o)
