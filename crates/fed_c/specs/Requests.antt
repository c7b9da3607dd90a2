-- What the call on the signed text of a request answers (Matrix, Server-Server API, "Request Authentication").
use Rattle.std.specs.Prelude.{ℕ, List, [], ◌∷◌, Bool, ◌&&◌, if◌then◌else◌, Result, Ok, Err}
use Rattle.std.specs.Str.{is_utf8}
use Rattle.serde_json.specs.Data.{Data}
use Rattle.fed_http.specs.XMatrixSigning.{Signable, signed_bytes, signed_text}
use Rattle.fed_c.specs.declared.status.Status.{Status}
use Rattle.fed_c.specs.declared.status.Status.TheVariants.{NotUtf8}
use Rattle.fed_c.specs.Texts.{of_value}
use Rattle.fed_c.specs.Values.{value_of}

-- the canonical JSON of a request with this value as its content
abbrev pub with_content : Signable → Data → List ℕ
with_content asked content =
    signed_text (record { method = asked.method; target = asked.target; origin = asked.origin; destination = asked.destination; content = content })

-- by the value of its body; a request with an empty one has no content
abbrev pub by_content : Signable → List ℕ → Result (List ℕ) Status
by_content asked [] = Ok (signed_bytes asked)
by_content asked (b ∷ bytes) = of_value (with_content asked) (value_of (b ∷ bytes))

-- the four texts are UTF-8
abbrev pub are_texts : Signable → Bool
are_texts asked = is_utf8 asked.method && (is_utf8 asked.target && (is_utf8 asked.origin && is_utf8 asked.destination))

abbrev pub request_answer : Signable → Result (List ℕ) Status
request_answer asked = if are_texts asked then by_content asked asked.content else Err NotUtf8
