-- Numbers that were given to things in order, from 1.
use Rattle.std.specs.Prelude.{◌≡◌, ℕ, ◌-◌, ◌==◌, nat_le, Bool, ◌&&◌, List, Option, None, slice_get, count_by, if◌then◌else◌}

-- one of the numbers from 1 to n
abbrev pub is_within : ℕ → ℕ → Bool
is_within n number = nat_le 1 number && nat_le number n

-- how often a number stands in a list
abbrev pub times : ℕ → List ℕ → ℕ
times number numbers = count_by (λ other. other == number) numbers

-- the numbers are those from 1 to n, each once, and no others
abbrev pub AreEachOnce : ℕ → List ℕ → Type 0
AreEachOnce n numbers = (number : ℕ) → times number numbers ≡ (if is_within n number then 1 else 0)

-- the thing with a number
abbrev pub numbered : {X : Type 0} → List X → ℕ → Option X
numbered things number = if number == 0 then None else slice_get things (number - 1)
