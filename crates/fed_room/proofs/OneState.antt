-- Places of one state: it is what the states there resolve to.
use Rattle.std.proofs.Common.{◌≡◌, ◌≢◌, ◌<◌, ℕ, zero, suc, List, [], ◌∷◌, length, Contains, All, refl, sym, subst, ◌∙◌, arith}
use Rattle.std.specs.List.{slice_index_or}
use Rattle.fed_room_contract.specs.State.{StateMap}
use Rattle.fed_room_contract.specs.Steps.{state_at}
use Rattle.fed_room_contract.specs.declared.graph.Stored.{Stored}
use Rattle.fed_resolve.specs.Resolution.{resolved_of}
use Rattle.fed_resolve.proofs.Resolved.{one-resolved}
use Rattle.fed_resolve.proofs.SameStates.{any_order}
use Rattle.fed_room.specs.StatesParts.{at_places, IsKeptIn, IsThere}
use Rattle.fed_room.specs.declared.resolved.Resolved.{Resolved}
use Rattle.fed_room.specs.declared.resolved.Resolved.TheVariants.{Kept, Made}

module _ (states : List StateMap) (state : StateMap) where
  abbrev AreAt : List ℕ → Type 0
  AreAt places = (k d : ℕ) → k < length places → state_at states (slice_index_or places k d) ≡ state

  only-it : (places : List ℕ) → AreAt places → (s : StateMap) → Contains (at_places states places) s → state ≡ s
  only-it [] all s (k, below, is) = absurd (omega (arith, below))
  only-it (p ∷ places) all s (zero, below, is) = sym (all 0 0 (omega arith)) ∙ is
  only-it (p ∷ places) all s (suc k, below, is) = only-it places (λ j d less. all (suc j) d (omega (arith, less))) s (k, omega (arith, below), is)

  there : (places : List ℕ) → places ≢ [] → AreAt places → Contains (at_places states places) state
  there [] some all = absurd (some refl)
  there (p ∷ places) some all = (0, omega arith, all 0 0 (omega arith))

  it-alone : (s : StateMap) → Contains (state ∷ []) s → state ≡ s
  it-alone s (zero, below, is) = is
  it-alone s (suc k, below, is) = absurd (omega (arith, below))

  pub one-state : (events : List Stored) (places : List ℕ) → places ≢ [] → All (λ place. state_at states place ≡ state) places → state ≡ resolved_of events (at_places states places)
  one-state events places some all =
      sym (any_order events (at_places states places) (state ∷ [])
      (record {
        there = λ s held. subst (Contains (state ∷ [])) (only-it places all s held) (0, omega arith, refl);
        back = λ s held. subst (Contains (at_places states places)) (it-alone s held) (there places some all);
      })
      ∙ one-resolved events state)

-- what is kept among these states is kept at its place
pub kept-there : (states : List StateMap) (resolved : Resolved) → IsKeptIn states resolved → IsThere resolved
kept-there states (Kept kept place) is = subst (λ (xs : List StateMap). place < length xs) (sym is.0) is.1
kept-there states (Made over merged) is = tt
