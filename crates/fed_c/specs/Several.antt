-- What the calls on several texts answer.
use Rattle.std.specs.Prelude.{ℕ, List, [], ◌∷◌, ◌++◌, take, drop, Result, Ok}
use Rattle.serde_json.specs.Data.{Data}
use Rattle.fed_c.specs.declared.status.Status.{Status}
use Rattle.fed_c.specs.Results.{and_then}
use Rattle.fed_c.specs.Texts.{of_value}
use Rattle.fed_c.specs.Values.{value_of}

-- the texts that stand one behind another, by their lengths; one past the end stands for what is left
abbrev pub cut : List ℕ → List ℕ → List (List ℕ)
cut bytes [] = []
cut bytes (len ∷ lens) = take len bytes ∷ cut (drop len bytes) lens

-- f of the value of each, one behind another, or the first fault
abbrev pub of_values : (Data → List ℕ) → List (List ℕ) → Result (List ℕ) Status
of_values f [] = Ok []
of_values f (text ∷ texts) = and_then (of_value f (value_of text)) (λ bytes. and_then (of_values f texts) (λ others. Ok (bytes ++ others)))
