use Rattle.std.proofs.Common.{◌≡◌, [], replicate}
use Rattle.fed_wires.specs.Board.{board_of}
use Rattle.fed_wires.specs.BoardRule.{owned, look}
use Rattle.fed_wires.specs.Seat.{AreNewSeats, AreReaders, one_word}
use Rattle.fed_wires.proofs.board.Board.new.Given as goal

abbrev pub invariant-loop-word : goal.invariant-loop-word
invariant-loop-word l = record {
  root : l.root.table_id ≡ l.table.shared.table_id;
  me : l.root.me ≡ (look (owned l.word l.fn.words 0) (replicate l.fn.words 0) 0, []);
  owners : AreNewSeats (board_of l.table.shared.table_id) l.word (λ word. one_word word 0) l.owners.items;
}

abbrev pub invariant-loop : goal.invariant-loop
invariant-loop l = record {
  root : l.root.table_id ≡ l.table.shared.table_id;
  me : l.root.me ≡ (look (owned l.fn.words l.fn.words 0) (replicate l.fn.words 0) 0, []);
  readers : AreReaders (board_of l.table.shared.table_id) l.counter l.others.items;
}
