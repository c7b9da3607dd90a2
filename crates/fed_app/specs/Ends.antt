-- How a run ends: what was written, by the result.
use Rattle.std.specs.Prelude.{◌≡◌, ℕ, List, ◌++◌, Bool, Option, Some, None, Result, Ok, Err}
use Rattle.std.specs.Io.KnownBytes.{Appends}
use Rattle.fed_http.specs.Sending.{AppendsFront}
use Rattle.fed_inbox.specs.Inbox.{InboxState}
use Rattle.fed_inbox.specs.Answer.{SendRequest}
use Rattle.fed_app.specs.Lines.{wrong_line}
use Rattle.fed_app.specs.Output.{output_of}
use Rattle.fed_app.specs.declared.fault.RunFault.{RunFault}
use Rattle.fed_app.specs.declared.fault.RunFault.TheVariants.{Memory, WrongWords, Io}

-- the whole output was written, by some marks
abbrev pub IsWritten : InboxState → List (Option SendRequest) → Option (List ℕ) → Option (List ℕ) → Type 0
IsWritten inbox words old new = (marks : List Bool) × Appends old new (output_of inbox words marks)

-- a front of it was
abbrev pub IsCut : InboxState → List (Option SendRequest) → Option (List ℕ) → Option (List ℕ) → Type 0
IsCut inbox words old new = (marks : List Bool) × AppendsFront old new (output_of inbox words marks)

-- every line has the right words and is answered; or the lines before the first that has not are; or a fault cut the output
abbrev pub IsEnd : InboxState → List (Option SendRequest) → Option (List ℕ) → Option (List ℕ) → Result (Unit {0}) RunFault → Type 0
IsEnd inbox words old new (Ok done) = (wrong_line words ≡ None) × IsWritten inbox words old new
IsEnd inbox words old new (Err (WrongWords line)) = (wrong_line words ≡ Some line) × IsWritten inbox words old new
IsEnd inbox words old new (Err Memory) = IsCut inbox words old new
IsEnd inbox words old new (Err Io) = IsCut inbox words old new
