-- What an Authorization field of the scheme X-Matrix says (Matrix, Server-Server API, "Request Authentication"), and its text, in the
-- shape of credentials (RFC 9110, section 11.4). The grammar is this server's own, and lenient.
use Rattle.std.specs.Prelude.{◌≡◌, ◌≢◌, ◌⊎◌, ℕ, List, [], ◌∷◌, ◌++◌, ◌==◌, ◌&&◌, ◌||◌, Bool, not, IsTrue, Option, length, map, if◌then◌else◌, bytes_eq, codes, refl}
use Rattle.std.specs.Char.{to_ascii_lowercase}
use Rattle.std.specs.Coded.{Coded, code_by, coded×, coded_ℕ, coded_list, coded_option}
use Rattle.std.specs.List.{list_all}
use Rattle.std.specs.Option.{option_to_list}
use Rattle.base64.specs.Engines.{standard_no_pad}
use Rattle.base64.specs.GeneralPurpose.{IsBytes, encode_of}

-- who sends, to whom, and the signature by the sender's key of this name
pub record XMatrixValue : Type 0 where
  pub origin : List ℕ
  pub destination : Option (List ℕ)
  pub key : List ℕ
  pub signature : List ℕ

abbrev pub x_matrix_code : Coded XMatrixValue
x_matrix_code =
    code_by (List ℕ × (Option (List ℕ) × (List ℕ × List ℕ)))
    (coded× (coded_list coded_ℕ) (coded× (coded_option (coded_list coded_ℕ)) (coded× (coded_list coded_ℕ) (coded_list coded_ℕ))))
    (λ h. (h.origin, (h.destination, (h.key, h.signature)))) (λ p. record { origin = p.0; destination = p.1.0; key = p.1.1.0; signature = p.1.1.1 }) (λ _. refl)

-- ---- characters

-- a space or a tab
abbrev pub is_white : ℕ → Bool
is_white c = c == 32 || c == 9

-- what ends a value that is not quoted: a comma, a space, a tab or a quote
abbrev pub is_delimiter : ℕ → Bool
is_delimiter c = c == 44 || is_white c || c == 34

abbrev pub is_plain : ℕ → Bool
is_plain c = not (is_delimiter c)

-- of a name: no `=` either, which is 61
abbrev pub is_name_char : ℕ → Bool
is_name_char c = is_plain c && not (c == 61)

-- at least one character, each of which passes
abbrev pub IsRunOf : (ℕ → Bool) → List ℕ → Type 0
IsRunOf test [] = ⊥
IsRunOf test (c ∷ text) = IsTrue (list_all test (c ∷ text))

abbrev pub IsWhite : List ℕ → Type 0
IsWhite text = IsTrue (list_all is_white text)

-- ---- parameters

-- how a value stands between quotes: each character as it is or behind a backslash, which is 92; a quote and a backslash behind one
abbrev pub IsEscaped : List ℕ → List ℕ → Type 0
IsEscaped [] text = text ≡ []
IsEscaped (c ∷ value) text = (rest : List ℕ) × IsEscaped value rest × ((text ≡ 92 ∷ c ∷ rest) ⊎ ((c ≢ 34) × (c ≢ 92) × (text ≡ c ∷ rest)))

-- how a value is written: between quotes, or as it is
abbrev pub IsWritten : List ℕ → List ℕ → Type 0
IsWritten value text = ((inner : List ℕ) × IsEscaped value inner × (text ≡ 34 ∷ (inner ++ 34 ∷ []))) ⊎ (IsRunOf is_plain value × (text ≡ value))

-- a name and a value
abbrev pub Parameter : Type 0
Parameter = List ℕ × List ℕ

-- `name=value`
abbrev pub IsParameter : Parameter → List ℕ → Type 0
IsParameter p text = (written : List ℕ) × IsRunOf is_name_char p.0 × IsWritten p.1 written × (text ≡ p.0 ++ 61 ∷ written)

-- further parameters, each behind a comma, which has white space around it or not
abbrev pub AreFurther : List Parameter → List ℕ → Type 0
AreFurther [] text = text ≡ []
AreFurther (p ∷ ps) text =
    (before : List ℕ) × (behind : List ℕ) × (parameter : List ℕ) × (rest : List ℕ)
    × IsWhite before × IsWhite behind × IsParameter p parameter × AreFurther ps rest
    × (text ≡ before ++ 44 ∷ (behind ++ (parameter ++ rest)))

-- one parameter or more
abbrev pub AreParameters : List Parameter → List ℕ → Type 0
AreParameters [] text = ⊥
AreParameters (p ∷ ps) text = (parameter : List ℕ) × (rest : List ℕ) × IsParameter p parameter × AreFurther ps rest × (text ≡ parameter ++ rest)

-- ---- what they say

-- the values under a name, which may be written in any case
abbrev pub values_under : List ℕ → List Parameter → List (List ℕ)
values_under name [] = []
values_under name (p ∷ ps) = if bytes_eq (map to_ascii_lowercase p.0) name then p.1 ∷ values_under name ps else values_under name ps

-- the unpadded standard base64 of 64 bytes
pub record IsSignatureText (signature text : List ℕ) : Type 0 where
  pub bytes : IsBytes signature
  pub count : length signature ≡ 64
  pub text_is : text ≡ encode_of standard_no_pad signature

-- the four names are there once, but `destination` may be missing; others count for nothing
pub record Says (ps : List Parameter) (h : XMatrixValue) : Type 0 where
  pub origin : values_under (codes "origin") ps ≡ h.origin ∷ []
  pub destination : values_under (codes "destination") ps ≡ option_to_list h.destination
  pub key : values_under (codes "key") ps ≡ h.key ∷ []
  pub signature : (text : List ℕ) × (values_under (codes "sig") ps ≡ text ∷ []) × IsSignatureText h.signature text

-- the scheme in any case, one space or more, and parameters that say this
abbrev pub IsXMatrix : List ℕ → XMatrixValue → Type 0
IsXMatrix text h =
    (scheme : List ℕ) × (spaces : List ℕ) × (list : List ℕ) × (ps : List Parameter)
    × (map to_ascii_lowercase scheme ≡ codes "x-matrix") × IsTrue (list_all (λ c. c == 32) spaces) × AreParameters ps list × Says ps h
    × (text ≡ scheme ++ 32 ∷ (spaces ++ list))
