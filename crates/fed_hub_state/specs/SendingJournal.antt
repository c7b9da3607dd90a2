-- What contracts see of the journal that sends: its entries, and whether it is shut down.
use Rattle.std.specs.Prelude.{◌≡◌, ◌≢◌, ◌<◌, ℕ, Bool, true, List, refl}
use Rattle.std.specs.Coded.{Coded, code_by, coded×, coded_bool, coded_list}
use Rattle.fed_journal.specs.declared.entry.Entry.{Entry}
use Rattle.fed_journal.specs.Entry.{entry_code}
use Rattle.fed_journal.specs.Journal.{is_closed}

pub record SendingState : Type 0 where
  pub entries : List Entry
  pub is_shut : Bool

abbrev pub sending_code : Coded SendingState
sending_code = code_by (List Entry × Bool) (coded× (coded_list entry_code) coded_bool) (λ j. (j.entries, j.is_shut)) (λ p. record { entries = p.0; is_shut = p.1 }) (λ _. refl)

-- the outboxes for the first so many servers but the own one are closed
abbrev pub AreClosed : ℕ → ℕ → List Entry → Type 0
AreClosed count own entries = (d : ℕ) → d < count → d ≢ own → is_closed entries d ≡ true
