-- A journal that is being shut down.
use Rattle.std.specs.Prelude.{◌≡◌, ◌≢◌, ◌<◌, ◌≤◌, ◌+◌, ℕ, true, false, List, length, Some}
use Rattle.fed_journal.specs.declared.parcel.Parcel.{Parcel}
use Rattle.fed_journal.specs.Journal.{JournalState, is_closed, next_place}
use Rattle.fed_journal.specs.Place.{PlaceValue}
use Rattle.fed_wires.specs.SendEnd.{Sender}
use Rattle.fed_wires.specs.WireId.{WireId}
use Rattle.fed_hub_state.specs.Closing.{ClosesOpen}
use Rattle.fed_hub_state.specs.ShuttingDown.{is_other_open, others_open, AreClosedInTurn}
use Rattle.fed_hub_state.specs.Spreading.{AreSent}
use Rattle.fed_hub_state.specs.WireRoom.{HaveRoom}

-- the outbox for a server is closed, where it is another one and open
pub data ClosesOther (own d : ℕ) (journal : JournalState) (end : Sender Parcel) : JournalState → Sender Parcel → Type 0 where
  left : is_other_open own journal.entries d ≡ false → ClosesOther own d journal end journal end
  closed : (place : PlaceValue) (after : JournalState) (new : Sender Parcel) → is_other_open own journal.entries d ≡ true → next_place journal.entries d ≡ Some place
      → ClosesOpen place journal end after new → ClosesOther own d journal end after new

-- those of the first i servers are closed; there is room in the journal for those of all, which are `count`, and in the wires of the others
pub record IsBeingShut (wires : List (WireId Parcel)) (own count i : ℕ) (before : JournalState) (journal : JournalState) (ends : List (Sender Parcel)) : Type 0 where
  pub turn : AreClosedInTurn before.entries (others_open i own before.entries) journal.entries
  pub sent : AreSent wires journal.entries ends
  pub room : length (others_open count own before.entries) ≤ journal.reserved + length (others_open i own before.entries)
  pub grown : length journal.entries ≡ length before.entries + length (others_open i own before.entries)
  pub rest : (d : ℕ) → i ≤ d → is_closed journal.entries d ≡ is_closed before.entries d
  pub shut : (d : ℕ) → d < i → d ≢ own → is_closed journal.entries d ≡ true
  pub credits : HaveRoom (λ d. (i ≤ d) × (is_other_open own before.entries d ≡ true)) ends
