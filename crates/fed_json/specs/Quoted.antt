-- A text in quotes (appendix "Canonical JSON", "Grammar"): a short escape where there is one, `\u00` and two lower-case digits for
-- every other character below U+0020, and all else as it stands.
use Rattle.std.specs.Prelude.{ℕ, ◌+◌, ◌/◌, ◌%◌, ◌==◌, List, [], ◌∷◌, ◌++◌, nat_lt, if◌then◌else◌, flat_map, codes}

-- the lower-case digit
abbrev pub hex_digit : ℕ → ℕ
hex_digit n = if nat_lt n 10 then 48 + n else 87 + n

unfoldable pub escaped : ℕ → List ℕ
escaped x =
    if x == 34 then codes "\\\"" else
    (if x == 92 then codes "\\\\" else
    (if x == 8 then codes "\\b" else
    (if x == 9 then codes "\\t" else
    (if x == 10 then codes "\\n" else
    (if x == 12 then codes "\\f" else
    (if x == 13 then codes "\\r" else
    (if nat_lt x 32 then codes "\\u00" ++ hex_digit (x / 16) ∷ hex_digit (x % 16) ∷ [] else x ∷ [])))))))

abbrev pub in_quotes : List ℕ → List ℕ
in_quotes text = codes "\"" ++ (flat_map escaped text ++ codes "\"")
