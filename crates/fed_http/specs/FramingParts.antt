-- What the parts of `framing_of` answer.
use Rattle.std.specs.Prelude.{◌≡◌, ℕ, List, [], ◌∷◌, Option, Some, None}
use Rattle.fed_http.specs.declared.framing.Framing.{Framing}
use Rattle.fed_http.specs.declared.framing.Framing.TheVariants.{Fixed}
use Rattle.fed_http.specs.declared.framing.Values.{Values}
use Rattle.fed_http.specs.declared.framing.Values.TheVariants.{Missing, One, Several}

-- none, one, or more
abbrev pub AreValues : Values → List (List ℕ) → Type 0
AreValues Missing values = values ≡ []
AreValues (One value) values = values ≡ value.now ∷ []
AreValues Several values = (a : List ℕ) × (b : List ℕ) × (rest : List (List ℕ)) × (values ≡ a ∷ b ∷ rest)

abbrev pub as_fixed : Option ℕ → Option Framing
as_fixed None = None
as_fixed (Some n) = Some (Fixed n)
