-- Events that wait to be listed, for the clauses of private functions.
use Rattle.std.specs.Prelude.{◌≡◌, ◌<◌, ◌≤◌, ℕ, zero, suc, List, [], ◌∷◌, ◌++◌, Bool, true, not, ◌&&◌, Option, None, Some, All, filter, length, take, option_map, slice_index_or, if◌then◌else◌}
use Rattle.std.specs.List.{list_all}
use Rattle.std.specs.Ordering.{is_lt}
use Rattle.std.specs.declared.cmp.Ordering.{Ordering}
use Rattle.fed_resolve.specs.declared.order.Candidate.{Candidate}
use Rattle.fed_resolve.specs.ChainParts.{is_marked}
use Rattle.fed_resolve.specs.Order.{is_among, and_later}

abbrev pub candidate_place : {R : Type 0} → Candidate R → ℕ
candidate_place one = one.place

-- its place, and those that it comes after, are below the count
pub record IsWithin {R : Type 0} (count : ℕ) (one : Candidate R) : Type 0 where
  pub place : one.place < count
  pub after : All (λ place. place < count) one.after.items

-- it is not listed, but all that it comes after
abbrev pub may_follow : {R : Type 0} → (ℕ → Bool) → Candidate R → Bool
may_follow is_listed one = not (is_listed one.place) && list_all is_listed one.after.items

-- so many at the front are marked
pub record IsListedFront (marks : List Bool) (places : List ℕ) (front : ℕ) : Type 0 where
  pub within : front ≤ length places
  pub marked : list_all (is_marked marks) (take front places) ≡ true

-- for each event, so many at the front of what it comes after are marked
pub record AreListedFronts {R : Type 0} (marks : List Bool) (all : List (Candidate R)) (fronts : List ℕ) : Type 0 where
  pub long : length fronts ≡ length all
  pub each : (index : ℕ) (d : Candidate R) → index < length all → IsListedFront marks (slice_index_or all index d).after.items (slice_index_or fronts index 0)

module _ {R : Type 0} (cmp : R → R → Ordering) where
  abbrev pub earlier_candidate : Candidate R → Option (Candidate R) → Candidate R
  earlier_candidate one None = one
  earlier_candidate one (Some other) = if is_lt (cmp other.rank one.rank) then other else one

  -- the first by rank
  abbrev pub first_candidate : List (Candidate R) → Option (Candidate R)
  first_candidate [] = None
  first_candidate (one ∷ others) = Some (earlier_candidate one (first_candidate others))

  abbrev pub next_place : (ℕ → Bool) → List (Candidate R) → Option ℕ
  next_place is_listed all = option_map candidate_place (first_candidate (filter (may_follow is_listed) all))

  -- of those that are not listed, the first that may follow, and then the others, in at most so many steps
  abbrev pub candidates_from : List (Candidate R) → ℕ → List ℕ → List ℕ
  candidates_from all zero listed = []
  candidates_from all (suc steps) listed = and_later (λ place. candidates_from all steps (listed ++ place ∷ [])) (next_place (is_among listed) all)
