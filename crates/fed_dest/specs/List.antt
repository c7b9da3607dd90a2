-- The servers that a server sends to and takes from.
use Rattle.std.specs.Prelude.{◌==◌, ◌||◌, ℕ, List, [], ◌∷◌, Bool, false, Option, Some, None, nat_lt, length, bytes_eq, if◌then◌else◌}
use Rattle.std.specs.List.{list_any, position}
use Rattle.fed_dest.specs.declared.list.ListFault.{ListFault}
use Rattle.fed_dest.specs.declared.list.ListFault.TheVariants.{Empty, TooMany, Doubled}

-- some name stands there twice
abbrev pub has_doubled : List (List ℕ) → Bool
has_doubled [] = false
has_doubled (name ∷ names) = list_any (bytes_eq name) names || has_doubled names

-- why names make no list: the first of these that holds
abbrev pub list_fault : List (List ℕ) → Option ListFault
list_fault names =
    if length names == 0 then Some Empty
    else (if nat_lt 64 (length names) then Some TooMany
    else (if has_doubled names then Some Doubled
    else None))

-- the place of a name, counted from 0
abbrev pub place_of : List (List ℕ) → List ℕ → Option ℕ
place_of names name = position (λ other. bytes_eq other name) names
