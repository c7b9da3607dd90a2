use Rattle.std.proofs.Common.{arith, get_or, ap, sym, ◌∙◌, subst}
use Rattle.std.proofs.lemmas.List.Elements.{All-more}
use Rattle.fed_wires.specs.Seat.{AreAt, Seated, HasShown}
use Rattle.fed_wires.proofs.Seats.{owner_at, put_back}
use Rattle.fed_wires.proofs.board.Board.compare_each.Goals as goal

pub compare-requires-clause-board : goal.compare-requires-clause-board
compare-requires-clause-board c =
    let seats = c.loop-word.invariant.seats in
    let at = subst (AreAt c.args.self.now.id) (sym seats) c.requires.board.0 in
    (at c.loop-word.word c.index-seats-word.result (omega arith), ap (λ (s : Seated). s.board) c.loop-word.invariant.looker ∙ c.requires.board.1)

pub compare-requires-clause-owner : goal.compare-requires-clause-owner
compare-requires-clause-owner c =
    owner_at c.args.words c.args.seats.now c.loop-word.seats c.loop-word.word c.index-seats-word.result c.loop-word-test.true c.requires.owners.0 c.loop-word.invariant.seats c.requires.owners.1

pub loop-word-preserved : goal.loop-word-preserved
loop-word-preserved c =
    let seats = c.loop-word.invariant.seats in
    let looker = c.loop-word.invariant.looker in
    let word = c.loop-word.word in
    let d = c.index-seats-word.result in
    let below = subst (λ (s : Seated). HasShown s.seen (get_or c.args.seats.now word d)) looker (subst (λ xs. HasShown c.loop-word.looker.seen (get_or xs word d)) seats c.compare.ensures.below) in
    record {
      seats = put_back c.args.seats.now c.loop-word.seats word c.compare.new.owner d seats c.compare.ensures.same.0;
      looker = c.compare.ensures.same.1 ∙ looker;
      below = All-more (HasShown c.args.looker.now.seen) c.args.seats.now word d (omega arith) c.loop-word.invariant.below below;
    }
