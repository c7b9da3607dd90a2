-- What the clauses of private functions say of a text that is scanned.
use Rattle.std.specs.Prelude.{◌≡◌, ℕ, suc, List, [], ◌∷◌, ◌++◌, ◌==◌, ◌≤◌, Bool, true, false, IsTrue, Option, Some, None, option_map, if◌then◌else◌, length, map, codes}
use Rattle.std.specs.Char.{to_ascii_lowercase}
use Rattle.std.specs.List.{list_all}
use Rattle.fed_http.specs.declared.x_matrix.parameter.Raw.{Raw}
use Rattle.fed_http.specs.declared.x_matrix.parameter.Parameter.{Parameter as Scanned}
use Rattle.fed_http.specs.declared.x_matrix.named_values.NamedValues.{NamedValues}
use Rattle.fed_http.specs.declared.x_matrix.x_matrix_ref.XMatrixRef.{XMatrixRef}
use Rattle.fed_http.specs.XMatrix.{XMatrixValue, is_delimiter, is_name_char, IsRunOf, IsWhite, IsWritten, Parameter, values_under, Says}

-- where the quote stands that ends a quoted value, whose first character stands behind a backslash or not
abbrev pub quote_index : Bool → List ℕ → Option ℕ
quote_index escaped [] = None
quote_index true (c ∷ text) = option_map suc (quote_index false text)
quote_index false (c ∷ text) = if c == 34 then Some 0 else option_map suc (quote_index (c == 92) text)

-- what the text between quotes stands for
abbrev pub unescaped : Bool → List ℕ → List ℕ
unescaped escaped [] = []
unescaped true (c ∷ text) = c ∷ unescaped false text
unescaped false (c ∷ text) = if c == 92 then unescaped true text else c ∷ unescaped false text

-- what a value in a text stands for
abbrev pub value_of : Raw → List ℕ
value_of raw = if raw.quoted then unescaped false raw.text.now else raw.text.now

-- what may stand behind a value
abbrev pub IsEnd : List ℕ → Type 0
IsEnd [] = Unit {0}
IsEnd (c ∷ text) = IsTrue (is_delimiter c)

-- a parameter, and what stands behind it
pub record StartsWith (name value rest text : List ℕ) : Type 0 where
  pub written : List ℕ
  pub name_is : IsRunOf is_name_char name
  pub value_is : IsWritten value written
  pub text_is : text ≡ name ++ 61 ∷ (written ++ rest)

-- a value, and what stands behind it
pub record StartsWithValue (value rest text : List ℕ) : Type 0 where
  pub written : List ℕ
  pub value_is : IsWritten value written
  pub text_is : text ≡ written ++ rest

-- a comma with white space around it, and what stands behind it
pub record StartsWithComma (rest text : List ℕ) : Type 0 where
  pub before : List ℕ
  pub behind : List ℕ
  pub before_is : IsWhite before
  pub behind_is : IsWhite behind
  pub text_is : text ≡ before ++ 44 ∷ (behind ++ rest)

-- the scheme and spaces, and what stands behind them
pub record StartsWithScheme (rest text : List ℕ) : Type 0 where
  pub scheme : List ℕ
  pub spaces : List ℕ
  pub scheme_is : map to_ascii_lowercase scheme ≡ codes "x-matrix"
  pub spaces_are : IsTrue (list_all (λ c. c == 32) spaces)
  pub text_is : text ≡ scheme ++ 32 ∷ (spaces ++ rest)

-- the text is empty, or begins with another character
abbrev pub BeginsWithout : (ℕ → Bool) → List ℕ → Type 0
BeginsWithout test [] = Unit {0}
BeginsWithout test (c ∷ text) = test c ≡ false

-- the rest is the text without the characters in front that pass
pub record SkipsRun (test : ℕ → Bool) (text rest : List ℕ) : Type 0 where
  pub run : List ℕ
  pub run_is : IsTrue (list_all test run)
  pub text_is : text ≡ run ++ rest
  pub stops : BeginsWithout test rest

abbrev pub slot_values : Option Raw → List (List ℕ)
slot_values None = []
slot_values (Some raw) = value_of raw ∷ []

-- what was found is what these parameters have under the four names
pub record Holds (ps : List Parameter) (found : NamedValues) : Type 0 where
  pub origin : values_under (codes "origin") ps ≡ slot_values found.origin
  pub destination : values_under (codes "destination") ps ≡ slot_values found.destination
  pub key : values_under (codes "key") ps ≡ slot_values found.key
  pub signature : values_under (codes "sig") ps ≡ slot_values found.signature

abbrev pub pair_of : Scanned → Parameter
pair_of p = (p.name.now, value_of p.value)

-- however they go on, these parameters are not those of a header
abbrev pub DoesNotSay : List Parameter → Type 0
DoesNotSay ps = (more : List Parameter) (h : XMatrixValue) → Says (ps ++ more) h → ⊥

abbrev pub IsTwice : List ℕ → List Parameter → Type 0
IsTwice name ps = 2 ≤ length (values_under name ps)

abbrev pub said_by : XMatrixRef → XMatrixValue
said_by said = record { origin = value_of said.origin; destination = option_map value_of said.destination; key = value_of said.key; signature = said.signature }
