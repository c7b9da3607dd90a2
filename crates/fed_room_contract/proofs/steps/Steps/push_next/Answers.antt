use Rattle.std.proofs.Common.{◌≡◌, ◌<◌, ◌++◌, ◌∷◌, [], List, Option, None, Some, IfSome, option_map, is_ok, if◌then◌else◌, vec_len, vec_capacity, sym, ap, subst, ◌∙◌}
use Rattle.fed_room_contract.specs.Steps.{KeptStates}
use Rattle.fed_room_contract.specs.StepParts.{states_of, step_state, IsLower, AreSteps, IsSharedOf}
use Rattle.fed_room_contract.specs.declared.step.Step.{Step}
use Rattle.fed_room_contract.proofs.KeptSteps.{pushed, more-steps, shared-stays}
use Rattle.fed_room_contract.proofs.steps.Steps.push_next.Goals as goal

pub invariant_of-self : goal.invariant_of-self
invariant_of-self c =
    let steps = c.self.inside.steps.items in
    let step = c.in-Some.step in
    let begun : c.push.new.self.items ≡ steps ++ step ∷ [] = c.push.ensures.items ∙ ap (λ r. if is_ok r then steps ++ step ∷ [] else steps) c.unwrap.ensures in
    let is : c.self.inside.next ≡ Some step = sym c.take.ensures.value ∙ c.in-Some.is in
    let lower : IsLower steps step = subst (λ (o : Option Step). IfSome o (λ s. IsLower steps s)) is c.self.invariant.next in
    record {
      steps = subst AreSteps (sym begun) (more-steps steps step c.self.invariant.steps lower);
      next = subst (λ (o : Option Step). IfSome o (λ s. IsLower c.push.new.self.items s)) (sym c.take.ensures.after) tt;
      room = subst (λ (o : Option Step). IfSome o (λ _. vec_len c.push.new.self < vec_capacity c.push.new.self)) (sym c.take.ensures.after) tt;
      shared = subst (λ (xs : List Step). IfSome c.self.inside.shared (IsSharedOf xs)) (sym begun) (shared-stays steps step c.self.inside.shared c.self.invariant.shared);
    }

pub returns : goal.returns
returns c =
    let steps = c.self.inside.steps.items in
    let step = c.in-Some.step in
    let begun : c.push.new.self.items ≡ steps ++ step ∷ [] = c.push.ensures.items ∙ ap (λ r. if is_ok r then steps ++ step ∷ [] else steps) c.unwrap.ensures in
    let is : c.self.inside.next ≡ Some step = sym c.take.ensures.value ∙ c.in-Some.is in
    let now : KeptStates = record { after = states_of c.push.new.self.items; next = option_map (step_state (states_of c.push.new.self.items)) c.take.new.self } in
    let made : now ≡ record { after = states_of steps ++ step_state (states_of steps) step ∷ []; next = None } =
    λ i. record { after = (ap states_of begun ∙ pushed steps step) i; next = option_map (step_state (states_of c.push.new.self.items)) (c.take.ensures.after i) } in
    subst (λ (k : KeptStates). IfSome k.next (λ state. now ≡ record { after = k.after ++ state ∷ []; next = None })) c.self.view_is
    (subst (λ (o : Option Step). IfSome (option_map (step_state (states_of steps)) o) (λ state. now ≡ record { after = states_of steps ++ state ∷ []; next = None })) (sym is) made)
