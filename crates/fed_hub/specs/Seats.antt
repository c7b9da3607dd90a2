-- The seats at a hub's board, once its threads have returned.
use Rattle.std.specs.Prelude.{◌≡◌, ◌≤◌, ℕ, [], length, vec_capacity}
use Rattle.fed_outbox.specs.Outbox.{OutboxState}
use Rattle.fed_wires.specs.Board.{BoardId}
use Rattle.fed_wires.specs.Seat.{Seated, IsReader, one_word}
use Rattle.fed_hub.specs.declared.seats.Spare.{Spare}

-- the seat at a board that owns the word of an outbox, and has raised it to the count of the events that are settled
abbrev pub IsSeatOf : BoardId → OutboxState → Seated → Type 0
IsSeatOf board outbox seat = (seat.board ≡ board) × (seat.owned ≡ one_word outbox.dest (length outbox.settled))

-- a seat at a board that owns no word
abbrev pub IsReaderAt : BoardId → Seated → Type 0
IsReaderAt board seat = (seat.board ≡ board) × IsReader seat

-- Room for so many outboxes, for what the board shows of each, and for so many seats; nothing is there yet.
pub record HasRoom (wires all : ℕ) (spare : Spare) : Type 0 where
  pub no_outbox : spare.outboxes.items ≡ []
  pub for_outboxes : wires ≤ vec_capacity spare.outboxes
  pub no_seat : spare.seats.items ≡ []
  pub for_seats : all ≤ vec_capacity spare.seats
  pub none_shown : spare.delivered.items ≡ []
  pub to_show : wires ≤ vec_capacity spare.delivered
