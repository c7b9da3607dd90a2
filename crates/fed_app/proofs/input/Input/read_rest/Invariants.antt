use Rattle.std.proofs.Common.{◌≡◌, ◌+◌, ◌≤◌, [], length}
use Rattle.fed_app.specs.Input.{ahead_of, left_of, room_of}
use Rattle.fed_app.proofs.LineLemmas.{Grows}
use Rattle.fed_app.proofs.input.Input.read_rest.Given as goal

-- what was read so far is behind the text, and all of it was taken
abbrev pub invariant-loop-self : goal.invariant-loop-self
invariant-loop-self g l =
    Grows (left_of g.R.Read.remaining l.fn.self) (left_of g.R.Read.remaining l.self) l.fn.text.items l.text.items
    × (ahead_of l.self ≡ [])
    × (l.self.start ≡ l.self.end)
    × (length l.text.items + room_of l.self ≤ length l.fn.text.items + room_of l.fn.self)

abbrev pub decreases-loop-self : goal.decreases-loop-self
decreases-loop-self g l = l.self.reads
