-- The text of an Authorization field as this server writes it (Matrix, Server-Server API, "Request Authentication").
use Rattle.std.specs.Prelude.{ℕ, List, [], ◌∷◌, ◌++◌, ◌==◌, ◌||◌, Option, Some, None, codes, if◌then◌else◌}
use Rattle.base64.specs.Engines.{standard_no_pad}
use Rattle.base64.specs.GeneralPurpose.{encode_of}
use Rattle.fed_http.specs.XMatrix.{XMatrixValue}

-- a backslash before each quote, which is 34, and each backslash, which is 92
abbrev pub escaped : List ℕ → List ℕ
escaped [] = []
escaped (c ∷ value) = if c == 34 || c == 92 then 92 ∷ c ∷ escaped value else c ∷ escaped value

abbrev pub in_quotes : List ℕ → List ℕ
in_quotes value = 34 ∷ (escaped value ++ 34 ∷ [])

abbrev pub destination_text : Option (List ℕ) → List ℕ
destination_text None = []
destination_text (Some name) = codes ",destination=" ++ in_quotes name

-- `X-Matrix origin="..",destination="..",key="..",sig=".."`
abbrev pub header_text : XMatrixValue → List ℕ
header_text h =
    codes "X-Matrix origin=" ++ (in_quotes h.origin ++ (destination_text h.destination
    ++ (codes ",key=" ++ (in_quotes h.key ++ (codes ",sig=" ++ in_quotes (encode_of standard_no_pad h.signature))))))
