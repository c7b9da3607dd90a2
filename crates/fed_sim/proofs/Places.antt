-- Places of servers that are gathered, each once.
use Rattle.std.proofs.Common.{arith, ◌≡◌, ◌<◌, ℕ, ◌==◌, ◌++◌, ◌∷◌, [], List, ◌||◌, ◌&&◌, not, nat_lt, Bool, true, false, true≢false, if◌then◌else◌, length, Option, Some, None, refl, sym, ap, subst, ◌∙◌}
use Rattle.std.specs.Prelude.{slice_get}
use Rattle.std.specs.List.{list_any, IsDistinct}
use Rattle.std.specs.Ordering.{nat_cmp}
use Rattle.std.specs.List.Sorted.{IsPermutation, IsSortedByKey, IsStrictlyIncreasing}
use Rattle.std.proofs.lemmas.List.Sorted.{IsNonDecreasingBy-from_sort}
use Rattle.std.proofs.lemmas.Map.Keys.{IsDistinct-push, IsDistinct-IsPermutation, IsStrictlyIncreasing-from_distinct}
use Rattle.std.proofs.lemmas.Cmp.{nat_eq_equiv}
use Rattle.std.proofs.lemmas.Bool.{eqb-true, ltb-true}
use Rattle.std.proofs.lemmas.Option.{slice_get_within}
use Rattle.fed_event.specs.Tests.{holds}
use Rattle.fed_room_contract.specs.declared.graph.Stored.{Stored}
use Rattle.fed_room_contract.specs.State.{StateMap}
use Rattle.fed_dest.specs.Joined.{is_joined, is_joined_place, is_destination}
use Rattle.fed_dest.specs.ServerSet.{is_among}
use Rattle.fed_sim.specs.Offering.{others_among}

pub second : (a b : Bool) → (a && b) ≡ true → b ≡ true
second true b both = both
second false b both = absurd (true≢false (sym both))

pub none_twice : (places : List ℕ) → places ≡ [] → IsDistinct ◌==◌ places
unfolding IsDistinct
none_twice places none = let P : List ℕ → Type 0 = λ xs. IsDistinct ◌==◌ xs in subst P (sym none) tt

either_way : (places : List ℕ) (place : ℕ) → list_any (λ other. place == other) places ≡ is_among places place
either_way [] place = refl
either_way (other ∷ places) place = ap (λ b. b || list_any (λ p. place == p) places) (nat_eq_equiv.symm place other) ∙ ap (λ b. (other == place) || b) (either_way places place)

pub one_more : (before after : List ℕ) (place : ℕ) → after ≡ before ++ place ∷ [] → is_among before place ≡ false → IsDistinct ◌==◌ before → IsDistinct ◌==◌ after
one_more before after place grown other apart =
    let P : List ℕ → Type 0 = λ xs. IsDistinct ◌==◌ xs in
    subst P (sym grown) (IsDistinct-push nat_eq_equiv before place apart (either_way before place ∙ other))

pub sorted_rise : (places sorted : List ℕ) → IsDistinct ◌==◌ places → IsPermutation places sorted → IsSortedByKey (λ x. x) nat_cmp sorted → IsStrictlyIncreasing sorted
sorted_rise places sorted apart moved up =
    IsStrictlyIncreasing-from_distinct sorted (IsNonDecreasingBy-from_sort (λ x. x) sorted up) (IsDistinct-IsPermutation ◌==◌ nat_eq_equiv.symm places sorted moved apart)

-- one of the others is among so many
pub among_others : (own count : ℕ) (servers : List ℕ) (d : ℕ) → is_among (others_among own count servers) d ≡ true → d < count
among_others own count [] d e = absurd (true≢false (sym e))
among_others own count (x ∷ xs) d e = by (not (x == own) && nat_lt x count) refl (among_others own count xs d) e
  where
    which : nat_lt x count ≡ true → (same : Bool) → (x == d) ≡ same → (is_among (others_among own count xs) d ≡ true → d < count) → (same || is_among (others_among own count xs) d) ≡ true → d < count
    which listed true is later e = let at = eqb-true x d is in let below = ltb-true x count listed in omega (arith, at, below)
    which listed false is later e = later e

    by : (kept : Bool) → (not (x == own) && nat_lt x count) ≡ kept → (is_among (others_among own count xs) d ≡ true → d < count)
        → is_among (if kept then x ∷ others_among own count xs else others_among own count xs) d ≡ true → d < count
    by true is later e = which (second (not (x == own)) (nat_lt x count) is) (x == d) refl later e
    by false is later e = later e

-- a destination is listed
pub listed_destination : (events : List Stored) (before : StateMap) (names : List (List ℕ)) (own d : ℕ) → is_destination events before names own d ≡ true → d < length names
listed_destination events before names own d e = by (slice_get names d) refl (second (not (d == own)) (is_joined_place events before names d) e)
  where
    by : (name : Option (List ℕ)) → slice_get names d ≡ name → holds (is_joined events before) name ≡ true → d < length names
    by None none e = absurd (true≢false (sym e))
    by (Some name) there e = slice_get_within names d name there
