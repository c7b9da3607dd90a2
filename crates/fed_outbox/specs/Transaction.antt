-- A transaction that is sent (Matrix, Server-Server API, "Transactions"): its number, when it was made, its events and its ephemeral
-- data units.
use Rattle.std.specs.Prelude.{ℕ, List, refl}
use Rattle.std.specs.Coded.{Coded, code_by, coded×, coded_ℕ, coded_list}
use Rattle.serde_json.specs.Data.{Data}
use Rattle.fed_json.specs.Code.{coded_data}
use Rattle.fed_event.specs.Checked.{CheckedEvent, checked_code}

pub record TransactionValue : Type 0 where
  pub number : ℕ
  pub at_ms : ℕ
  pub pdus : List CheckedEvent
  pub edus : List Data

abbrev pub transaction_code : Coded TransactionValue
transaction_code =
    code_by (ℕ × (ℕ × (List CheckedEvent × List Data)))
    (coded× coded_ℕ (coded× coded_ℕ (coded× (coded_list checked_code) (coded_list coded_data))))
    (λ t. (t.number, (t.at_ms, (t.pdus, t.edus))))
    (λ p. record { number = p.0; at_ms = p.1.0; pdus = p.1.1.0; edus = p.1.1.1 })
    (λ _. refl)
