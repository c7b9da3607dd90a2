use Rattle.std.proofs.Common.{◌≡◌, ◌<◌, ◌+◌, ◌-◌, ℕ, List, false, Some, refl, subst, sym, ap, ◌∙◌, arith}
use Rattle.std.proofs.lemmas.Option.{slice_get_read}
use Rattle.std.specs.FinMap as finite
use Rattle.std.specs.List.{slice_get}
use Rattle.fed_room_contract.specs.State.{StateMap, key_cmp}
use Rattle.fed_room_contract.specs.Steps.{state_at}
use Rattle.fed_room_contract.specs.ChangeParts.{with_changes, is_changed}
use Rattle.fed_room_contract.specs.StepParts.{AreSteps, states_of}
use Rattle.fed_room_contract.specs.declared.change.Change.{Change}
use Rattle.fed_room_contract.specs.declared.step.Laid.{Laid as LaidChanges}
use Rattle.fed_room_contract.specs.declared.step.Over.{Over}
use Rattle.fed_room_contract.specs.declared.step.Step.{Step}
use Rattle.fed_room_contract.specs.declared.step.Step.TheVariants.{Same, Laid, Whole}
use Rattle.fed_room_contract.specs.declared.step.Whole.{Whole as WholeState}
use Rattle.fed_room_contract.proofs.Changes.{second-not, unchanged, none-there}
use Rattle.fed_room_contract.proofs.KeptSteps.{at-step, parent-before, laid-before, whole-over}
use Rattle.fed_room_contract.proofs.Heads.{head-is, head-next}
use Rattle.fed_room_contract.proofs.differing.below.Goals.{in-Laid, in-Whole+in-Some}
use Rattle.fed_room_contract.proofs.differing.below.Goals as goal

pub overflow_add-result : goal.overflow_add-result
overflow_add-result c =
    let steps = c.args.steps.now in
    let there = slice_get_read steps _ (c.args.head - 1) c.index-steps-head.result refl (omega (arith, c.requires.some, c.requires.within)) c.index-steps-head.is ∙ ap (λ (s : Step). Some s) c.in-Same.is in
    let less = parent-before steps (c.args.head - 1) c.in-Same.parent c.requires.steps there in
    record { fits = omega (arith, less, c.ranges.head.fits) }

pub returns-in-Same-clause-before : goal.returns-in-Same-clause-before
returns-in-Same-clause-before c =
    let steps = c.args.steps.now in
    let there = slice_get_read steps _ (c.args.head - 1) c.index-steps-head.result refl (omega (arith, c.requires.some, c.requires.within)) c.index-steps-head.is ∙ ap (λ (s : Step). Some s) c.in-Same.is in
    let less = parent-before steps (c.args.head - 1) c.in-Same.parent c.requires.steps there in
    omega (arith, less)

pub returns-in-Same-clause-alike : goal.returns-in-Same-clause-alike
returns-in-Same-clause-alike c = λ key missing.
    let steps = c.args.steps.now in
    let there = slice_get_read steps _ (c.args.head - 1) c.index-steps-head.result refl (omega (arith, c.requires.some, c.requires.within)) c.index-steps-head.is ∙ ap (λ (s : Step). Some s) c.in-Same.is in
    ap (λ (s : StateMap). finite.get s key) (head-is (states_of steps) c.args.head c.requires.some ∙ at-step steps (c.args.head - 1) (Same c.in-Same.parent) c.requires.steps there ∙ sym (head-next (states_of steps) c.in-Same.parent))

pub returns-in-None-clause-alike : goal.returns-in-None-clause-alike
returns-in-None-clause-alike c = λ key missing.
    let steps = c.args.steps.now in
    let there = slice_get_read steps _ (c.args.head - 1) c.index-steps-head.result refl (omega (arith, c.requires.some, c.requires.within)) c.index-steps-head.is ∙ ap (λ (s : Step). Some s) c.in-Whole.is in
    let none = second-not (finite.contains_key c.args.keys.now key) (finite.contains_key c.in-Whole.whole.state key) (sym (c.in_ok-add_entries-in-None.ensures.each key) ∙ missing) in
    ap (λ (s : StateMap). finite.get s key) (head-is (states_of steps) c.args.head c.requires.some ∙ at-step steps (c.args.head - 1) (Whole c.in-Whole.whole) c.requires.steps there)
    ∙ none-there (finite.get c.in-Whole.whole.state key) none ∙ sym (finite.get-empty {X = List ℕ} key_cmp key)

-- the state was made of another one by changes
abbrev IsMadeOver : List Step → ℕ → Over → Type 0
IsMadeOver steps head over = (over.parent + 1 < head) × (state_at (states_of steps) (head - 1) ≡ with_changes (state_at (states_of steps) over.parent) over.changes.items)

laid-made : (steps : List Step) (head : ℕ) (laid : LaidChanges) → AreSteps steps → 0 < head → slice_get steps (head - 1) ≡ Some (Laid laid) → IsMadeOver steps head laid.over
laid-made steps head laid are some there =
    let less = laid-before steps (head - 1) laid are there in
    (omega (arith, some, less), at-step steps (head - 1) (Laid laid) are there)

whole-made : (steps : List Step) (head : ℕ) (whole : WholeState) (over : Over) → AreSteps steps → 0 < head → slice_get steps (head - 1) ≡ Some (Whole whole) → whole.over ≡ Some over → IsMadeOver steps head over
whole-made steps head whole over are some there is =
    let made = whole-over steps (head - 1) whole over are there is in
    let less = made.0 in
    (omega (arith, some, less), at-step steps (head - 1) (Whole whole) are there ∙ made.1.1)

pub overflow_add-result-2 : goal.overflow_add-result-2
overflow_add-result-2 c =
    let steps = c.args.steps.now in
    let there = slice_get_read steps _ (c.args.head - 1) c.index-steps-head.result refl (omega (arith, c.requires.some, c.requires.within)) c.index-steps-head.is in
    let made : IsMadeOver steps c.args.head c.match-steps-head.over.now = elim c.match-steps-head.branch as (λ _. IsMadeOver steps c.args.head c.match-steps-head.over.now) [
      | in-Laid w ↦ subst (IsMadeOver steps c.args.head) (sym (ap (λ o. o.now) w.over-is)) (laid-made steps c.args.head w.in-Laid.laid c.requires.steps c.requires.some (there ∙ ap (λ (s : Step). Some s) w.in-Laid.is))
      | in-Whole+in-Some w ↦ subst (IsMadeOver steps c.args.head) (sym (ap (λ o. o.now) w.over-is)) (whole-made steps c.args.head w.in-Whole.whole w.in-Some.over c.requires.steps c.requires.some (there ∙ ap (λ (s : Step). Some s) w.in-Whole.is) w.in-Some.is)
    ] in
    let less = made.0 in
    record { fits = omega (arith, less, c.ranges.head.fits) }

pub returns-clause-before : goal.returns-clause-before
returns-clause-before c =
    let steps = c.args.steps.now in
    let there = slice_get_read steps _ (c.args.head - 1) c.index-steps-head.result refl (omega (arith, c.requires.some, c.requires.within)) c.index-steps-head.is in
    let made : IsMadeOver steps c.args.head c.match-steps-head.over.now = elim c.match-steps-head.branch as (λ _. IsMadeOver steps c.args.head c.match-steps-head.over.now) [
      | in-Laid w ↦ subst (IsMadeOver steps c.args.head) (sym (ap (λ o. o.now) w.over-is)) (laid-made steps c.args.head w.in-Laid.laid c.requires.steps c.requires.some (there ∙ ap (λ (s : Step). Some s) w.in-Laid.is))
      | in-Whole+in-Some w ↦ subst (IsMadeOver steps c.args.head) (sym (ap (λ o. o.now) w.over-is)) (whole-made steps c.args.head w.in-Whole.whole w.in-Some.over c.requires.steps c.requires.some (there ∙ ap (λ (s : Step). Some s) w.in-Whole.is) w.in-Some.is)
    ] in
    made.0

pub returns-clause-alike : goal.returns-clause-alike
returns-clause-alike c = λ key missing.
    let steps = c.args.steps.now in
    let there = slice_get_read steps _ (c.args.head - 1) c.index-steps-head.result refl (omega (arith, c.requires.some, c.requires.within)) c.index-steps-head.is in
    let made : IsMadeOver steps c.args.head c.match-steps-head.over.now = elim c.match-steps-head.branch as (λ _. IsMadeOver steps c.args.head c.match-steps-head.over.now) [
      | in-Laid w ↦ subst (IsMadeOver steps c.args.head) (sym (ap (λ o. o.now) w.over-is)) (laid-made steps c.args.head w.in-Laid.laid c.requires.steps c.requires.some (there ∙ ap (λ (s : Step). Some s) w.in-Laid.is))
      | in-Whole+in-Some w ↦ subst (IsMadeOver steps c.args.head) (sym (ap (λ o. o.now) w.over-is)) (whole-made steps c.args.head w.in-Whole.whole w.in-Some.over c.requires.steps c.requires.some (there ∙ ap (λ (s : Step). Some s) w.in-Whole.is) w.in-Some.is)
    ] in
    let states : List StateMap = states_of steps in
    let over : Over = c.match-steps-head.over.now in
    let cs : List Change = over.changes.items in
    let changed : is_changed cs key ≡ false =
    ap (λ (xs : List Change). is_changed xs key) (sym c.deref.ensures.value)
    ∙ second-not (finite.contains_key c.args.keys.now key) (is_changed c.deref.result.now key) (sym (c.in_ok-add_keys.ensures.each key) ∙ missing) in
    ap (λ (s : StateMap). finite.get s key) (head-is states c.args.head c.requires.some ∙ made.1)
    ∙ unchanged (state_at states over.parent) cs key changed
    ∙ ap (λ (s : StateMap). finite.get s key) (sym (head-next states over.parent))
