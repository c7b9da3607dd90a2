use Rattle.std.proofs.Common.{arith, ◌≡◌, ◌++◌, List, append-nil, drop, drop_of_length-le, length, take, take_all, ap, ◌∙◌, sym, subst}
use Rattle.fed_wires.specs.Board.{BoardId, Shown, board_of}
use Rattle.fed_wires.specs.Seat.{AreAt, Seated}
use Rattle.fed_wires.proofs.Counting.{joins}
use Rattle.fed_wires.proofs.Seats.{one_less}
use Rattle.fed_wires.proofs.board.Board.finish.Goals as goal

pub loop-seat-init : goal.loop-seat-init
loop-seat-init c =
    let seats = c.args.seats.items in
    let compared : List Seated → List Seated = λ xs. take c.args.seats.len (xs ++ drop (length xs) seats) in
    let whole : List Seated = compared c.compare_all.new.seats in
    let same : whole ≡ seats = ap compared (c.compare_all.ensures.same ∙ c.deref_mut.ensures.value) ∙ ap (λ xs. take c.args.seats.len (seats ++ xs)) (drop_of_length-le seats (omega arith)) ∙ ap (take c.args.seats.len) (append-nil seats) ∙ take_all c.args.seats.len seats (omega (arith, c.args.seats.ok.0)) in
    let all = subst (λ (x : Shown). AreAt x.id seats) (sym c.self.view_is) c.requires.all.same_board in
    let board = board_of c.self.inside.table.shared.table_id in
    let h = one_less board whole c.pop.new.self.items c.in-Some.first c.in-Some.ensures.items (subst (AreAt board) (sym same) all) in
    record { root = ap (λ (x : Seated). x.board.table) c.first.view_is ∙ ap (λ (x : BoardId). x.table) h.1; seats = h.0 }

pub join_seat-requires : goal.join_seat-requires
join_seat-requires c =
    let h = one_less (board_of c.self.inside.table.shared.table_id) c.loop-seat.seats.items c.pop-in-loop-seat.new.self.items c.in-Some-pop.seat c.in-Some-pop.ensures.items c.loop-seat.invariant.seats in
    (c.loop-seat.invariant.root, ap (λ (x : Seated). x.board.table) c.seat.view_is ∙ ap (λ (x : BoardId). x.table) h.1, c.seat.invariant.0, c.self.invariant.1, joins _ _ _ _ _)

pub loop-seat-preserved : goal.loop-seat-preserved
loop-seat-preserved c =
    let h = one_less (board_of c.self.inside.table.shared.table_id) c.loop-seat.seats.items c.pop-in-loop-seat.new.self.items c.in-Some-pop.seat c.in-Some-pop.ensures.items c.loop-seat.invariant.seats in
    record { root = c.join_seat.ensures.0 ∙ c.loop-seat.invariant.root; seats = h.0 }
