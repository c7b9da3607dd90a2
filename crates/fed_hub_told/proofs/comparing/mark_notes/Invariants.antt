use Rattle.std.proofs.Common.{take}
use Rattle.fed_hub_told.proofs.Marked.{IsFrontMarked}
use Rattle.fed_hub_told.proofs.comparing.mark_notes.Given as goal

-- the notes so far tell what is there, and their numbers are marked
abbrev pub invariant-loop-note : goal.invariant-loop-note
invariant-loop-note g l = IsFrontMarked g.N.Note.number g.N.Note.IsOf l.things (take l.note-index l.notes) l.fn.marks l.marks
