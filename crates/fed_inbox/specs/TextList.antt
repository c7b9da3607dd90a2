-- Texts that lie one after another in one buffer, and lists of such texts one after another.
use Rattle.std.specs.Prelude.{ℕ, List, [], ◌∷◌, ◌++◌, take, drop}

-- the texts of these lengths that the bytes are
abbrev pub texts_in : List ℕ → List ℕ → List (List ℕ)
texts_in [] bytes = []
texts_in (length ∷ lengths) bytes = take length bytes ∷ texts_in lengths (drop length bytes)

-- the texts of all these lists
abbrev pub joined : List (List (List ℕ)) → List (List ℕ)
joined [] = []
joined (texts ∷ lists) = texts ++ joined lists
