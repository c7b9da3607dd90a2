-- Where entries of one kind stand in a journal.
use Rattle.std.specs.Prelude.{ℕ, ◌+◌, List, [], ◌∷◌, Option, Some, None, is_some, slice_get, if◌then◌else◌}
use Rattle.std.specs.List.{filter_map}
use Rattle.fed_journal.specs.declared.entry.Entry.{Entry}

-- what is picked from an entry, if there is one
abbrev pub picked : {X : Type 0} → (Entry → Option X) → Option Entry → Option X
picked pick None = None
picked pick (Some entry) = pick entry

-- what is picked from the entries at these places
abbrev pub what_stands : {X : Type 0} → (Entry → Option X) → List Entry → List ℕ → List X
what_stands pick entries places = filter_map (λ place. picked pick (slice_get entries place)) places

-- the places, counted from n on, of the entries from which something is picked
abbrev pub places_from : {X : Type 0} → (Entry → Option X) → ℕ → List Entry → List ℕ
places_from pick n [] = []
places_from pick n (entry ∷ entries) = if is_some (pick entry) then n ∷ places_from pick (n + 1) entries else places_from pick (n + 1) entries
