-- Some servers of a list, by their places in it, in order.
use Rattle.std.specs.Prelude.{ℕ, List, Bool, ◌==◌}
use Rattle.std.specs.List.{list_any}

abbrev pub is_among : List ℕ → ℕ → Bool
is_among servers server = list_any (λ other. other == server) servers
