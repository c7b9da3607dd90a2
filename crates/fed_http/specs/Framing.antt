-- How the end of a body is found (RFC 9112, sections 6.1 to 6.3), from the fields of the head.
use Rattle.std.specs.Prelude.{ℕ, List, [], ◌∷◌, Bool, ◌&&◌, Option, Some, None, if◌then◌else◌, length, nat_lt, nat_le, map, filter, codes}
use Rattle.std.specs.List.{list_all}
use Rattle.std.specs.Char.{is_ascii_digit}
use Rattle.std.specs.Str.{is_utf8, str_eq_ignore_ascii_case}
use Rattle.std.specs.Str.Parse.{digits_value}
use Rattle.fed_http.specs.Limits.{max_length_digits}
use Rattle.fed_http.specs.declared.framing.Framing.{Framing}
use Rattle.fed_http.specs.declared.framing.Framing.TheVariants.{NoBody, Fixed, Chunked}

-- the values of the fields of this name, whose letters are of any case
abbrev pub values_of : List ℕ → List (List ℕ × List ℕ) → List (List ℕ)
values_of name fields = map (λ f. f.1) (filter (λ f. str_eq_ignore_ascii_case f.0 name) fields)

-- the only one, where there is just one
abbrev pub only_of : List (List ℕ) → Option (List ℕ)
only_of [] = None
only_of (value ∷ []) = Some value
only_of (value ∷ other ∷ values) = None

-- a value that is a text
abbrev pub if_text : List ℕ → Option (List ℕ)
if_text value = if is_utf8 value then Some value else None

-- Content-Length (RFC 9110, section 8.6)
abbrev pub content_length : List ℕ
content_length = codes "content-length"

-- Transfer-Encoding (RFC 9112, section 6.1)
abbrev pub transfer_encoding : List ℕ
transfer_encoding = codes "transfer-encoding"

-- from 1 to 19 digits
abbrev pub is_length : List ℕ → Bool
is_length value = nat_lt 0 (length value) && nat_le (length value) max_length_digits && list_all is_ascii_digit value

-- the length that a value of Content-Length gives
abbrev pub length_of : List ℕ → Option Framing
length_of value = if is_length value then Some (Fixed (digits_value 10 value)) else None

-- the coding that a value of Transfer-Encoding gives: chunked is the only one that is read
abbrev pub coding_of : List ℕ → Option Framing
coding_of value = if str_eq_ignore_ascii_case value (codes "chunked") then Some Chunked else None

-- one length, or one coding, or neither; all else has no one meaning
abbrev pub framing_from : List (List ℕ) → List (List ℕ) → Option Framing
framing_from [] [] = Some NoBody
framing_from (value ∷ []) [] = length_of value
framing_from [] (value ∷ []) = coding_of value
framing_from lengths codings = None

abbrev pub framing_of : List (List ℕ × List ℕ) → Option Framing
framing_of fields = framing_from (values_of content_length fields) (values_of transfer_encoding fields)
