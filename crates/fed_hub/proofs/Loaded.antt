-- A load for one server more.
use Rattle.std.proofs.Common.{◌≡◌, ℕ, zero, suc, List, [], ◌∷◌, ◌++◌, replicate, refl, ap}
use Rattle.fed_journal.specs.declared.parcel.Load.{Load}
use Rattle.fed_hub_state.specs.declared.unplaced.Unplaced.{Unplaced}
use Rattle.fed_hub_state.specs.Spreading.{AreAll, dests_of}

pub dests_more : (loads : List Unplaced) (u : Unplaced) → dests_of (loads ++ u ∷ []) ≡ dests_of loads ++ u.dest ∷ []
dests_more [] u = refl
dests_more (x ∷ loads) u = ap (λ ds. x.dest ∷ ds) (dests_more loads u)

pub all_more : (load : Load) (loads : List Unplaced) (u : Unplaced) → AreAll load loads → u.load ≡ load → AreAll load (loads ++ u ∷ [])
all_more load [] u all is = (is, tt)
all_more load (x ∷ loads) u all is = (all.0, all_more load loads u all.1 is)

-- one more of what is repeated
pub replicate_more : {X : Type 0} (n : ℕ) (x : X) → replicate n x ++ x ∷ [] ≡ replicate (suc n) x
replicate_more zero x = refl
replicate_more (suc n) x = ap (λ xs. x ∷ xs) (replicate_more n x)
