-- The rooms that a server knows, as a set: their ids in the order of their bytes, each once.
use Rattle.std.specs.Prelude.{ℕ, List, [], ◌∷◌}
use Rattle.std.specs.BTreeSet.{insert_key}
use Rattle.std.specs.Ordering.{nat_cmp}
use Rattle.std.specs.Cmp.Lexicographic.{slice_cmp}

-- the set with these rooms
abbrev pub with_rooms : List (List ℕ) → List (List ℕ) → List (List ℕ)
with_rooms set [] = set
with_rooms set (room ∷ rooms) = with_rooms (insert_key (slice_cmp nat_cmp) set room) rooms

abbrev pub room_set : List (List ℕ) → List (List ℕ)
room_set rooms = with_rooms [] rooms
