use Rattle.std.proofs.Common.{◌≡◌, ◌+◌, ◌≤◌, length, false}
use Rattle.std.specs.List.{list_any}
use Rattle.fed_app.specs.Input.{is_newline, left_of, room_of}
use Rattle.fed_app.proofs.LineLemmas.{Holds}
use Rattle.fed_app.proofs.input.Input.read_line.Given as goal

abbrev pub invariant-loop-self : goal.invariant-loop-self
invariant-loop-self g l =
    Holds (left_of g.R.Read.remaining l.fn.self) (left_of g.R.Read.remaining l.self) l.line.items
    × (list_any is_newline l.line.items ≡ false)
    × (length l.line.items + room_of l.self ≤ room_of l.fn.self)

abbrev pub decreases-loop-self : goal.decreases-loop-self
decreases-loop-self g l = l.self.reads
