use Rattle.std.proofs.Common.{◌+◌, ◌≤◌}
use Rattle.fed_app.specs.Input.{left_of, room_of}
use Rattle.fed_app.proofs.Limit.{Within}
use Rattle.fed_app.proofs.Reached.{Runs}
use Rattle.fed_app.proofs.lines.answer_lines.Given as goal

abbrev pub invariant-loop-out : goal.invariant-loop-out
invariant-loop-out g l =
    Runs (left_of g.R.Read.remaining l.fn.input) l.fn.inbox.state (g.W.Write.contents l.fn.writer) (g.W.Write.contents l.writer) l.inbox.state (left_of g.R.Read.remaining l.input) l.number
    × Within (left_of g.R.Read.remaining l.fn.input) (left_of g.R.Read.remaining l.input) (room_of l.fn.input) (room_of l.input)
    × (l.number + room_of l.input ≤ 1 + room_of l.fn.input)

abbrev pub decreases-loop-out : goal.decreases-loop-out
decreases-loop-out g l = room_of l.input
