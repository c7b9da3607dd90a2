-- The names of what the threads of a server share.
use Rattle.std.specs.Prelude.{ℕ, List}
use Rattle.fed_event.specs.Checked.{CheckedEvent}
use Rattle.fed_journal.specs.declared.parcel.Parcel.{Parcel}
use Rattle.fed_wires.specs.Board.{BoardId}
use Rattle.fed_wires.specs.WireId.{WireId}

-- the wires of parcels, by the places of their servers, and those of events, by the places of their rooms; the board; the ledgers of events and of
-- EDUs, and of how many parts they are; and how many seats at the board are for those who read it
pub record Names : Type 0 where
  pub wires : List (WireId Parcel)
  pub rooms : List (WireId CheckedEvent)
  pub board : BoardId
  pub events : ℕ
  pub edus : ℕ
  pub parts : ℕ
  pub readers : ℕ
