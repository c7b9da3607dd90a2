-- Ids among other ids.
use Rattle.std.specs.Prelude.{ℕ, List, Bool, ◌&&◌, bytes_eq}
use Rattle.std.specs.List.{list_any, list_all}

-- each of these ids is among the others
abbrev pub are_among : List (List ℕ) → List (List ℕ) → Bool
are_among ids others = list_all (λ id. list_any (λ named. bytes_eq named id) others) ids

-- the same ids, in any order
abbrev pub are_same : List (List ℕ) → List (List ℕ) → Bool
are_same ids others = are_among others ids && are_among ids others
