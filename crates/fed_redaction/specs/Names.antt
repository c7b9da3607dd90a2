-- Members by their names.
use Rattle.std.specs.Prelude.{ℕ, List, [], ◌∷◌, Bool, not, Option, Some, None, bytes_eq, if◌then◌else◌}
use Rattle.std.specs.List.{list_any}
use Rattle.serde_json.specs.Data.{Data, null, boolean, number, string, array, object, Members, no_members, member}

-- whether this is one of the names
abbrev pub is_one_of : List (List ℕ) → List ℕ → Bool
is_one_of names name = list_any (λ n. bytes_eq name n) names

-- the members whose names pass the test, in their order
abbrev pub select : (List ℕ → Bool) → Members → Members
select test no_members = no_members
select test (member k d ms) = if test k then member k d (select test ms) else select test ms

-- the members with one more before them, where there is a value for it
abbrev pub member_if : List ℕ → Option Data → Members → Members
member_if k None ms = ms
member_if k (Some d) ms = member k d ms

-- of each member what the test leaves of its value, where it leaves something
abbrev pub keep : (List ℕ → Data → Option Data) → Members → Members
keep left no_members = no_members
keep left (member k d ms) = member_if k (left k d) (keep left ms)

-- the members, with f of the value under this name in its place
abbrev pub at_name : List ℕ → (Data → Data) → Members → Members
at_name name f no_members = no_members
at_name name f (member k d ms) = member k (if bytes_eq k name then f d else d) (at_name name f ms)

-- an object but for the members of these names, and any other value as it is
abbrev pub leave_out : List (List ℕ) → Data → Data
leave_out names null = null
leave_out names (boolean b) = boolean b
leave_out names (number n) = number n
leave_out names (string s) = string s
leave_out names (array ds) = array ds
leave_out names (object ms) = object (select (λ k. not (is_one_of names k)) ms)

-- the members of these names and values
abbrev pub members_of : List (List ℕ × Data) → Members
members_of [] = no_members
members_of (p ∷ ps) = member p.0 p.1 (members_of ps)
