use Rattle.std.proofs.Common.{◌≡◌, is_some, true, false, position, refl, rules, arith}
use Rattle.std.specs.declared.io.Error.{Error}
use Rattle.fed_app.specs.Input.{is_newline, ahead_of, left_of}
use Rattle.fed_app.proofs.LineLemmas.{Holds, taken_to_newline, taken_at_end, holds_first, holds_all, holds_on, plain_more}
use Rattle.fed_app.proofs.input.Input.read_line.Goals as goal

pub loop-self-init : goal.loop-self-init
loop-self-init g c = rw c.clear.ensures.items (holds_first _, refl, search (arith, rules))

pub loop-self-preserved : goal.loop-self-preserved
loop-self-preserved g c =
    let none : is_some (position is_newline (ahead_of c.loop-self.self)) ≡ false = search rules in
    let (held, plain, room) = c.loop-self.invariant in
    let taken = holds_all _ (g.R.Read.remaining c.loop-self.self.reader) c.loop-self.line.items (ahead_of c.loop-self.self) none held in
    let kept : Holds (left_of g.R.Read.remaining c.args.self.now) (left_of g.R.Read.remaining c.refill.new.self) c.take_piece.new.line.items = holds_on _ _ _ _ c.in_ok-refill.ensures.left (rw (c.in_ok-take_piece.ensures.piece, c.in_ok-take_piece.ensures.rest, c.take_piece.ensures.reader) taken) in
    (kept, rw c.in_ok-take_piece.ensures.piece (plain_more c.loop-self.line.items (ahead_of c.loop-self.self) plain), search (arith, rules))

pub returns-then-not-branch-2-clause-line : goal.returns-then-not-branch-2-clause-line
returns-then-not-branch-2-clause-line g c =
    let none : is_some (position is_newline (ahead_of c.loop-self.self)) ≡ false = search rules in
    let (held, plain, room) = c.loop-self.invariant in
    let taken = holds_all _ (g.R.Read.remaining c.loop-self.self.reader) c.loop-self.line.items (ahead_of c.loop-self.self) none held in
    let kept : Holds (left_of g.R.Read.remaining c.args.self.now) (left_of g.R.Read.remaining c.refill.new.self) c.take_piece.new.line.items = holds_on _ _ _ _ c.in_ok-refill.ensures.left (rw (c.in_ok-take_piece.ensures.piece, c.in_ok-take_piece.ensures.rest, c.take_piece.ensures.reader) taken) in
    taken_at_end Error _ _ c.take_piece.new.line.items _ (search (arith, rules))
    (rw c.in_ok-take_piece.ensures.piece (plain_more c.loop-self.line.items (ahead_of c.loop-self.self) plain))
    (c.in_ok-refill.ensures.end (search rules)) kept

pub returns-clause-line : goal.returns-clause-line
returns-clause-line g c =
    let some : is_some (position is_newline (ahead_of c.loop-self.self)) ≡ true = search rules in
    let (held, plain, room) = c.loop-self.invariant in
    rw (c.in_ok-take_piece.ensures.piece, c.in_ok-take_piece.ensures.rest, c.take_piece.ensures.reader)
    (taken_to_newline Error _ (g.R.Read.remaining c.loop-self.self.reader) c.loop-self.line.items (ahead_of c.loop-self.self) plain some held)
