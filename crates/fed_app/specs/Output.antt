-- The text of the answers.
use Rattle.std.specs.Prelude.{ℕ, List, [], ◌∷◌, ◌++◌, Bool, true, Option, codes, decimal}
use Rattle.std.specs.List.{flat_map}
use Rattle.fed_event.specs.Trusting.{trusting_checks}
use Rattle.fed_inbox.specs.Inbox.{InboxState}
use Rattle.fed_inbox.specs.Reply.{Answer}
use Rattle.fed_inbox.specs.Answer.{SendRequest}
use Rattle.fed_app.specs.Lines.{requests_of}
use Rattle.fed_inbox.specs.Runs.{MarkedRequest, answers}

-- the status in digits, a space, the body and a newline
abbrev pub line_of : Answer → List ℕ
line_of answer = decimal answer.status ++ codes " " ++ answer.body ++ codes "\n"

-- the requests, each with its mark whether memory was found for it; it was where no mark is left
abbrev pub marked : List SendRequest → List Bool → List MarkedRequest
marked [] marks = []
marked (request ∷ requests) [] = (request, true) ∷ marked requests []
marked (request ∷ requests) (found ∷ marks) = (request, found) ∷ marked requests marks

-- a line for each request before the first line that has not the right words; every signature of an event checks
abbrev pub output_of : InboxState → List (Option SendRequest) → List Bool → List ℕ
output_of inbox words marks = flat_map line_of (answers trusting_checks inbox (marked (requests_of words) marks))
