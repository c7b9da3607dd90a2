-- What a writer holds after bytes were written to it, where that is known.
use Rattle.std.specs.Prelude.{◌≡◌, ℕ, List, ◌++◌, Option, Result, Ok, Err}
use Rattle.std.specs.Io.KnownBytes.{Appends}

-- a front of these bytes was written, and nothing else
abbrev pub AppendsFront : Option (List ℕ) → Option (List ℕ) → List ℕ → Type 0
AppendsFront old new bytes = (front : List ℕ) × (rest : List ℕ) × (bytes ≡ front ++ rest) × Appends old new front

-- all of them were written, or on an error a front of them
abbrev pub WritesWhole : {T E : Type 0} → Option (List ℕ) → Option (List ℕ) → List ℕ → Result T E → Type 0
WritesWhole old new bytes (Ok done) = Appends old new bytes
WritesWhole old new bytes (Err error) = AppendsFront old new bytes
