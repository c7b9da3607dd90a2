-- The history of an inbox beside what its threads hold of the requests that they answered: each point of the history was told to one thread, with the
-- number that it has there.
use Rattle.std.specs.Prelude.{List}
use Rattle.fed_inbox.specs.History.{Point}
use Rattle.fed_hub_told.specs.AsTold.{AreAsTold}
use Rattle.fed_hub_serving.specs.Answered.{AnsweredValue, IsPointOf}

-- The numbers that each thread holds rise; over all threads they are those from 1 to the count of the points, each once; and the point of each number
-- is of the request that it stands beside, with the reply.
abbrev pub AreAnswered : List Point → List (List AnsweredValue) → Type 0
AreAnswered points tokens = AreAsTold (λ (a : AnsweredValue). a.number) IsPointOf points tokens
