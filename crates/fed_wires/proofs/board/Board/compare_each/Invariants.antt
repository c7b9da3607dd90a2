use Rattle.std.proofs.Common.{◌≡◌, All, take}
use Rattle.fed_wires.specs.Seat.{HasShown}
use Rattle.fed_wires.proofs.board.Board.compare_each.Given as goal

-- as far as the loop has come; nothing changes
abbrev pub invariant-loop-word : goal.invariant-loop-word
invariant-loop-word l = record {
  seats : l.seats ≡ l.fn.seats;
  looker : l.looker ≡ l.fn.looker;
  below : All (HasShown l.fn.looker.seen) (take l.word l.fn.seats);
}
