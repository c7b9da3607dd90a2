-- How what one client was told changes the marks for the numbers of the journal. Nothing else is said of it.
use Rattle.std.specs.Prelude.{◌≡◌, ℕ, Bool, List, Some, map}
use Rattle.fed_hub_told.specs.AsTold.{IsClientAsTold}
use Rattle.fed_hub_told.specs.Marks.{marks_after}

-- what a client was told is as it was told, and its numbers are marked
pub record IsMarked {T X : Type 0} (number : T → ℕ) (IsOf : T → X → Type 0) (things : List X) (told : List T) (before after : List Bool) : Type 0 where
  pub client : IsClientAsTold number IsOf things told
  pub marks : marks_after before (map number told) ≡ Some after
