use Rattle.std.proofs.Common.{◌≡◌, All, take}
use Rattle.fed_wires.specs.Seat.{Seated, HasShown}
use Rattle.fed_wires.proofs.board.Board.compare_all.Given as goal

-- as far as the loop has come; nothing changes
abbrev pub invariant-loop-place : goal.invariant-loop-place
invariant-loop-place l = record {
  same : l.seats ≡ l.fn.seats;
  below : All (λ (s : Seated). All (HasShown s.seen) (take l.words l.fn.seats)) (take l.place l.fn.seats);
}
