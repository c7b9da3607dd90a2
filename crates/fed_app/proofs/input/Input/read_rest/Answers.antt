use Rattle.std.proofs.Common.{arith, rules}
use Rattle.fed_app.specs.Input.{ahead_of, left_of, room_of}
use Rattle.fed_app.proofs.LineLemmas.{Grows, grows_first, grows_more, grows_on, grown_at_end, grown_within}
use Rattle.fed_app.proofs.input.Input.read_rest.Goals as goal

pub loop-self-init : goal.loop-self-init
loop-self-init g c = (
  rw (c.in_ok-take_all.ensures.text, c.in_ok-take_all.ensures.rest, c.take_all.ensures.reader) (grows_more _ (g.R.Read.remaining c.args.self.now.reader) c.args.text.now.items c.args.text.now.items (ahead_of c.args.self.now) (grows_first _ c.args.text.now.items)),
  c.in_ok-take_all.ensures.rest,
  c.in_ok-take_all.ensures.empty,
  c.in_ok-take_all.ensures.room,
)

pub loop-self-preserved : goal.loop-self-preserved
loop-self-preserved g c =
    let (grown, taken, empty, room) = c.loop-self.invariant in
    let kept : Grows (left_of g.R.Read.remaining c.args.self.now) (left_of g.R.Read.remaining c.refill.new.self) c.args.text.now.items c.loop-self.text.items = grows_on _ _ _ _ _ c.in_ok-refill.ensures.left grown in (
      rw (c.in_ok-take_all-2.ensures.text, c.in_ok-take_all-2.ensures.rest, c.take_all-in-loop-self.ensures.reader)
          (grows_more _ (g.R.Read.remaining c.refill.new.self.reader) c.args.text.now.items c.loop-self.text.items (ahead_of c.refill.new.self) kept),
      c.in_ok-take_all-2.ensures.rest,
      c.in_ok-take_all-2.ensures.empty,
      omega (arith, room, c.in_ok-take_all-2.ensures.room, c.in_ok-refill.ensures.room),
    )

pub returns-clause-text : goal.returns-clause-text
returns-clause-text g c =
    let (grown, taken, empty, room) = c.loop-self.invariant in
    let kept : Grows (left_of g.R.Read.remaining c.args.self.now) (left_of g.R.Read.remaining c.refill.new.self) c.args.text.now.items c.loop-self.text.items = grows_on _ _ _ _ _ c.in_ok-refill.ensures.left grown in
    grown_at_end _ _ c.args.text.now.items c.loop-self.text.items (c.in_ok-refill.ensures.end (search rules)) kept

pub returns-clause-limit : goal.returns-clause-limit
returns-clause-limit g c =
    let (grown, taken, empty, room) = c.loop-self.invariant in
    grown_within _ c.args.text.now.items c.loop-self.text.items (room_of c.args.self.now) (room_of c.loop-self.self) (returns-clause-text g c) room
