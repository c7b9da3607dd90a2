-- What is made of texts one after another, for the clauses and the proofs of private functions.
use Rattle.std.specs.Prelude.{ℕ, List, [], ◌∷◌, ◌++◌, Result, Ok}
use Rattle.serde_json.specs.Data.{Data}
use Rattle.fed_redaction.specs.ContentHash.{content_hash_of}
use Rattle.fed_c.specs.declared.several.Made.{Made}
use Rattle.fed_c.specs.declared.several.Made.TheVariants.{EventId, ContentHash}
use Rattle.fed_c.specs.declared.status.Status.{Status}
use Rattle.fed_c.specs.Results.{and_then}
use Rattle.fed_c.specs.Texts.{of_value, event_id_in}
use Rattle.fed_c.specs.Values.{value_of}

abbrev pub maker_of : Made → Data → List ℕ
maker_of (EventId version) = event_id_in version
maker_of ContentHash = content_hash_of

-- these bytes, and behind them what f makes of each text
abbrev pub with_values : (Data → List ℕ) → List ℕ → List (List ℕ) → Result (List ℕ) Status
with_values f before [] = Ok before
with_values f before (text ∷ texts) = and_then (of_value f (value_of text)) (λ bytes. with_values f (before ++ bytes) texts)
