-- What the calls on the Authorization field of a request answer (Matrix, Server-Server API, "Request Authentication").
use Rattle.std.specs.Prelude.{◌≡◌, ℕ, List, [], false, IsUtf8, Result, unwrap_or}
use Rattle.std.specs.Result.{IsErrAnd, MatchResult}
use Rattle.std.specs.Str.{is_utf8}
use Rattle.fed_http.specs.XMatrix.{XMatrixValue, IsXMatrix}
use Rattle.fed_c.specs.declared.status.Status.{Status}
use Rattle.fed_c.specs.declared.status.Status.TheVariants.{Memory, NotUtf8, BadHeader}

-- the parts of what a field says
abbrev pub whole : XMatrixValue → XMatrixValue
whole said = said

abbrev pub origin_of : XMatrixValue → List ℕ
origin_of said = said.origin

abbrev pub destination_of : XMatrixValue → List ℕ
destination_of said = unwrap_or said.destination []

abbrev pub key_of : XMatrixValue → List ℕ
key_of said = said.key

abbrev pub signature_of : XMatrixValue → List ℕ
signature_of said = said.signature

-- what a call answers of a field: the part of what the field says; else that it is none of the scheme, or no text
pub record Answers {X : Type 0} (part : XMatrixValue → X) (header : List ℕ) (IsAnswer : X → Type 0) (IsRefusal : Status → Type 0) : Type 0 where
  pub says : IsUtf8 header → (said : XMatrixValue) → IsXMatrix header said → IsAnswer (part said)
  pub says_nothing : IsUtf8 header → ((said : XMatrixValue) → IsXMatrix header said → ⊥) → IsRefusal BadHeader
  pub no_text : is_utf8 header ≡ false → IsRefusal NotUtf8

-- this is what was made, or memory ran out
abbrev pub IsMade : {X Y : Type 0} → Result Y Status → (Y → X) → X → Type 0
IsMade answer seen wanted = MatchResult answer (λ value. wanted ≡ seen value) (λ status. status ≡ Memory)

-- this is why nothing was made
abbrev pub IsWhy : {Y : Type 0} → Result Y Status → Status → Type 0
IsWhy answer why = IsErrAnd answer (λ status. status ≡ why)
