-- Marks for the numbers from 1 to a count: for each of them in turn, whether it is marked.
use Rattle.std.specs.Prelude.{ℕ, ◌-◌, Bool, true, false, not, ◌&&◌, List, [], ◌∷◌, length, get_or, set, replicate, Option, Some, None, if◌then◌else◌}
use Rattle.std.specs.List.{list_all}
use Rattle.fed_hub_told.specs.Numbers.{is_within}

-- none of the numbers from 1 to n
abbrev pub no_marks : ℕ → List Bool
no_marks n = replicate n false

-- a number that is not marked yet
abbrev pub is_free : List Bool → ℕ → Bool
is_free marks number = is_within (length marks) number && not (get_or marks (number - 1) false)

-- with one more number
abbrev pub with_mark : List Bool → ℕ → List Bool
with_mark marks number = if is_free marks number then set marks (number - 1) true else marks

-- all numbers
abbrev pub are_all_marked : List Bool → Bool
are_all_marked marks = list_all (λ is_marked. is_marked) marks

-- the marks after these numbers, one after another; none where one of them is not free when it comes
abbrev pub marks_after : List Bool → List ℕ → Option (List Bool)
marks_after marks [] = Some marks
marks_after marks (number ∷ numbers) = if is_free marks number then marks_after (with_mark marks number) numbers else None
