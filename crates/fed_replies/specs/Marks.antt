-- The marks of packed verdicts: 0 where the event was accepted; where it has failed one more than the number of its text, or 255 where that
-- number is 254 or more and stands in a list of its own.
use Rattle.std.specs.Prelude.{◌≡◌, ℕ, ◌+◌, ◌-◌, ◌<◌, nat_lt, ◌==◌, List, [], ◌∷◌, length, drop, slice_index, Option, Some, None, if◌then◌else◌}

-- the mark of a verdict, by the number of its text
abbrev pub mark_for : Option ℕ → ℕ
mark_for None = 0
mark_for (Some number) = if nat_lt number 254 then number + 1 else 255

-- what stands in the list
abbrev pub large_for : Option ℕ → List ℕ
large_for None = []
large_for (Some number) = if nat_lt number 254 then [] else number ∷ []

-- the number that a mark tells, where these are left of the list
abbrev pub number_at : ℕ → List ℕ → Option ℕ
number_at mark left = if mark == 0 then None else Some (if mark == 255 then slice_index left 0 else mark - 1)

-- what is left behind it
abbrev pub numbers_behind : ℕ → List ℕ → List ℕ
numbers_behind mark left = if mark == 255 then drop 1 left else left

-- there is a number where the mark needs one
abbrev pub HasLarge : ℕ → List ℕ → Type 0
HasLarge mark left = mark ≡ 255 → 0 < length left
