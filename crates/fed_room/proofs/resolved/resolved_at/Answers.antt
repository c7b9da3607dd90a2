use Rattle.std.proofs.Common.{◌<◌, ◌∷◌, [], ℕ, List, All, Contains, Option, IfSome, length, refl, subst, sym, ◌∙◌, arith}
use Rattle.std.proofs.lemmas.List.Elements.{All-head}
use Rattle.std.specs.List.{slice_get}
use Rattle.fed_room_contract.specs.State.{StateMap}
use Rattle.fed_room_contract.specs.Steps.{IsAlikeBut, state_at}
use Rattle.fed_resolve.specs.declared.kept.Merged.{Merged}
use Rattle.fed_room.specs.StatesParts.{IsMadeOver}
use Rattle.fed_room.proofs.OneState.{one-state}
use Rattle.fed_room.proofs.resolved.resolved_at.Goals as goal

pub returns-in-Some : goal.returns-in-Some
returns-in-Some c =
    let states = c.args.states.now.after in
    let one = c.in-Some.ensures in
    record { kept = (refl, one.within); state = one-state states (state_at states c.in-Some.place) c.args.graph.now.stored c.args.places.now one.some one.same }

over-first : (after : List StateMap) (merged : Merged) (places : List ℕ) → All (λ place. place < length after) places
    → ((place : ℕ) → Contains places place → IsAlikeBut merged.keys (state_at after place) merged.state) → IfSome (slice_get places 0) (IsMadeOver after merged)
over-first after merged [] all alike = tt
over-first after merged (place ∷ places) all alike = (All-head (λ p. p < length after) place places all, alike place (0, omega arith, refl))

pub returns-clause-kept : goal.returns-clause-kept
returns-clause-kept c =
    let after = c.args.states.now.after in
    let merged : Merged = c.in_ok-merged.merged in
    subst (λ (o : Option ℕ). IfSome o (IsMadeOver after merged)) (sym (c.copied.ensures ∙ c.first.ensures.value))
    (over-first after merged c.args.places.now c.requires c.in_ok-merged.ensures.alike)
