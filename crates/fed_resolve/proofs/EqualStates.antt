-- States that are all equal resolve to one of them.
use Rattle.std.proofs.Common.{◌≡◌, ◌<◌, ℕ, zero, suc, List, [], ◌∷◌, All, Contains, length, get_or, sym, ◌∙◌, arith}
use Rattle.std.specs.List.{AllByRecursion}
use Rattle.std.proofs.lemmas.List.Elements.{recursion_from_All}
use Rattle.fed_room_contract.specs.declared.graph.Stored.{Stored}
use Rattle.fed_room_contract.specs.State.{StateMap}
use Rattle.fed_resolve.specs.Resolution.{resolved_of}
use Rattle.fed_resolve.proofs.Resolved.{one-resolved}
use Rattle.fed_resolve.proofs.SameStates.{any_order}

module _ (first : StateMap) where
  one_of : (others : List StateMap) → AllByRecursion (λ other. other ≡ first) others → (k : ℕ) (state : StateMap) → k < length others → get_or others k state ≡ state → first ≡ state
  one_of [] all k state below e = absurd (omega arith)
  one_of (other ∷ others) all zero state below e = sym all.0 ∙ e
  one_of (other ∷ others) all (suc k) state below e = one_of others all.1 k state (omega arith) e

  only : (others : List StateMap) → All (λ other. other ≡ first) others → (state : StateMap) → Contains (first ∷ others) state → Contains (first ∷ []) state
  only others all state (zero, below, e) = (0, omega arith, e)
  only others all state (suc k, below, e) = (0, omega arith, one_of others (recursion_from_All (λ other. other ≡ first) others all) k state (omega arith) e)

  there : (others : List StateMap) (state : StateMap) → Contains (first ∷ []) state → Contains (first ∷ others) state
  there others state (zero, below, e) = (0, omega arith, e)
  there others state (suc k, below, e) = absurd (omega arith)

  pub all-resolved : (events : List Stored) (others : List StateMap) → All (λ other. other ≡ first) others → resolved_of events (first ∷ others) ≡ first
  all-resolved events others all = any_order events (first ∷ others) (first ∷ []) (record { there = only others all; back = there others }) ∙ one-resolved events first
