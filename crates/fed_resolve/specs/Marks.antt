-- Sets of places as marks: one for each place.
use Rattle.std.specs.Prelude.{◌≡◌, ◌<◌, ℕ, List, Bool, false, length, slice_index_or}

-- a mark for each of so many places, which is set where the test is passed
pub record AreMarks (count : ℕ) (test : ℕ → Bool) (marks : List Bool) : Type 0 where
  pub long : length marks ≡ count
  pub each : (place : ℕ) → place < count → slice_index_or marks place false ≡ test place
