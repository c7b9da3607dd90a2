-- What the call that writes an Authorization field answers (Matrix, Server-Server API, "Request Authentication").
use Rattle.std.specs.Prelude.{◌==◌, ◌&&◌, ℕ, List, length, if◌then◌else◌, Result, Ok, Err}
use Rattle.std.specs.Str.{is_utf8}
use Rattle.fed_http.specs.XMatrix.{XMatrixValue}
use Rattle.fed_http.specs.XMatrixWriting.{header_text}
use Rattle.fed_c.specs.declared.status.Status.{Status}
use Rattle.fed_c.specs.declared.status.Status.TheVariants.{NotUtf8, BadSignature}
use Rattle.fed_c.specs.Values.{unless_empty}

-- the parts as they are given: without a destination the field names none
pub record Parts : Type 0 where
  pub origin : List ℕ
  pub destination : List ℕ
  pub key : List ℕ
  pub signature : List ℕ

abbrev pub signature_in : List ℕ → Result (List ℕ) Status
signature_in bytes = if length bytes == 64 then Ok bytes else Err BadSignature

abbrev pub said_of : Parts → Result XMatrixValue Status
said_of parts =
    if is_utf8 parts.origin && (is_utf8 parts.destination && is_utf8 parts.key)
    then (if length parts.signature == 64
    then Ok (record { origin = parts.origin; destination = unless_empty parts.destination; key = parts.key; signature = parts.signature })
    else Err BadSignature)
    else Err NotUtf8

abbrev pub header_answer : Result XMatrixValue Status → Result (List ℕ) Status
header_answer (Ok said) = Ok (header_text said)
header_answer (Err why) = Err why
