use Rattle.std.proofs.Common.{map, take}
use Rattle.fed_hub_told.proofs.Marked.{AreMarked}
use Rattle.fed_hub_told.proofs.comparing.are_as_told.Given as goal

-- the notes of the holders so far tell what is there, and their numbers are marked
abbrev pub invariant-loop-notes : goal.invariant-loop-notes
invariant-loop-notes g l = AreMarked g.N.Note.number g.N.Note.IsOf l.things (map (λ notes. notes.now) (take l.notes-index l.told)) l.marks
