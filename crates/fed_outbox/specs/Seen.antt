-- The transaction that a `Transaction` lends.
use Rattle.fed_outbox.specs.declared.transaction.Transaction.{Transaction}
use Rattle.fed_outbox.specs.Transaction.{TransactionValue}

abbrev pub seen : Transaction → TransactionValue
seen t = record { number = t.number; at_ms = t.at_ms; pdus = t.pdus.now; edus = t.edus.now }
