-- The JSON value of bytes.
use Rattle.std.specs.Prelude.{◌==◌, ℕ, List, length, nat_lt, if◌then◌else◌, Option, Some, None, Result, Ok, Err}
use Rattle.std.specs.Str.{is_utf8}
use Rattle.serde_json.specs.Data.{Data, depth}
use Rattle.serde_json.specs.Read.{read}
use Rattle.fed_json.specs.Profile.{all_whole}
use Rattle.fed_c.specs.declared.status.Status.{Status}
use Rattle.fed_c.specs.declared.status.Status.TheVariants.{NotUtf8, NotJson, NotCanonical, TooDeep}

-- a value of whole numbers in the range that a double holds exactly (Matrix, appendix "Canonical JSON"), at most so many levels deep
abbrev pub canonical_value : ℕ → Data → Result Data Status
canonical_value levels value = if all_whole value then (if nat_lt levels (depth value) then Err TooDeep else Ok value) else Err NotCanonical

abbrev pub value_or_fault : ℕ → Option Data → Result Data Status
value_or_fault levels None = Err NotJson
value_or_fault levels (Some value) = canonical_value levels value

-- the value of bytes that are UTF-8, JSON, canonical and shallow enough, or the first fault; `read` takes at most 127 levels
abbrev pub value_within : ℕ → List ℕ → Result Data Status
value_within levels bytes = value_or_fault levels (if is_utf8 bytes then read bytes else None)

abbrev pub value_of : List ℕ → Result Data Status
value_of = value_within 127

abbrev pub text_of : List ℕ → Result (List ℕ) Status
text_of bytes = if is_utf8 bytes then Ok bytes else Err NotUtf8

-- no text stands for nothing
abbrev pub unless_empty : List ℕ → Option (List ℕ)
unless_empty text = if length text == 0 then None else Some text
