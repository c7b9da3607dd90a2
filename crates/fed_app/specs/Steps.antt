-- What reading one line does.
use Rattle.std.specs.Prelude.{⊤, ◌≡◌, ℕ, List, [], ◌∷◌, Bool, true, false, Option, Some, Result, Ok, Err}
use Rattle.fed_app.specs.Lines.{lines_of}

-- the first line was taken, and these bytes are left
abbrev pub TakesFirst : List ℕ → Option (List ℕ) → List ℕ → Type 0
TakesFirst bytes left line = (rest : List ℕ) × (left ≡ Some rest) × (lines_of bytes ≡ line ∷ lines_of rest)

-- there is no line where nothing is left; an error says nothing of the bytes
abbrev pub TakesLine : {E : Type 0} → List ℕ → Option (List ℕ) → List ℕ → Result Bool E → Type 0
TakesLine bytes left line (Ok true) = TakesFirst bytes left line
TakesLine bytes left line (Ok false) = bytes ≡ []
TakesLine bytes left line (Err error) = ⊤
