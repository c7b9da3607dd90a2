use Rattle.std.proofs.Common.{◌≡◌, List, None, Some, All, find, option_map, refl, subst, sym, ap, ◌∙◌}
use Rattle.std.specs.Int.Bits.{bit_and}
use Rattle.std.proofs.lemmas.Option.{slice_get_past, slice_get_read}
use Rattle.fed_room_contract.specs.State.{StateMap, entry_at}
use Rattle.fed_room_contract.specs.Steps.{state_at}
use Rattle.fed_room_contract.specs.ChangeParts.{IsTagged, bit_of, is_change_at}
use Rattle.fed_room_contract.specs.StepParts.{states_of}
use Rattle.fed_room_contract.specs.declared.change.Change.{Change}
use Rattle.fed_room_contract.specs.declared.step.Step.{Step}
use Rattle.fed_room_contract.specs.declared.step.Step.TheVariants.{Same, Laid, Whole}
use Rattle.fed_room_contract.proofs.Changes.{found, found-changes}
use Rattle.fed_room_contract.proofs.KeptSteps.{at-step, at-none, parent-before, laid-before, base-before, passed-laid}
use Rattle.fed_room_contract.proofs.steps.find.Goals as goal

pub loop-step-smaller-in-Same : goal.loop-step-smaller-in-Same
loop-step-smaller-in-Same c =
    let steps = c.args.steps.now in
    let there = slice_get_read steps _ c.loop-step.place c.in-Some.step.now refl c.in-Some.ensures.lookup.3.0 c.in-Some.ensures.lookup.1 ∙ ap (λ (s : Step). Some s) c.in-Same.is in
    parent-before steps c.loop-step.place c.in-Same.parent c.requires.steps there

pub loop-step-preserved-in-Same : goal.loop-step-preserved-in-Same
loop-step-preserved-in-Same c =
    let steps = c.args.steps.now in
    let there = slice_get_read steps _ c.loop-step.place c.in-Some.step.now refl c.in-Some.ensures.lookup.3.0 c.in-Some.ensures.lookup.1 ∙ ap (λ (s : Step). Some s) c.in-Same.is in
    sym (ap (λ (s : StateMap). entry_at s c.args.kind.now c.args.state_key.now) (at-step steps c.loop-step.place (Same c.in-Same.parent) c.requires.steps there)) ∙ c.loop-step.invariant

pub loop-step-smaller-then-laid-bit-eq0 : goal.loop-step-smaller-then-laid-bit-eq0
loop-step-smaller-then-laid-bit-eq0 c =
    let steps = c.args.steps.now in
    let there = slice_get_read steps _ c.loop-step.place c.in-Some.step.now refl c.in-Some.ensures.lookup.3.0 c.in-Some.ensures.lookup.1 ∙ ap (λ (s : Step). Some s) c.in-Laid.is in
    base-before steps c.loop-step.place c.in-Laid.laid c.requires.steps there

pub loop-step-preserved-then-laid-bit-eq0 : goal.loop-step-preserved-then-laid-bit-eq0
loop-step-preserved-then-laid-bit-eq0 c =
    let steps = c.args.steps.now in
    let laid = c.in-Laid.laid in
    let there = slice_get_read steps _ c.loop-step.place c.in-Some.step.now refl c.in-Some.ensures.lookup.3.0 c.in-Some.ensures.lookup.1 ∙ ap (λ (s : Step). Some s) c.in-Laid.is in
    let bit = c.bit_of-bit.ensures ∙ ap bit_of c.requires.tag in
    let none = ap (bit_and laid.bits) (sym bit) ∙ c.if-laid-bit-eq0.true in
    passed-laid steps c.args.kind.now c.args.state_key.now c.loop-step.place laid c.requires.steps there none ∙ c.loop-step.invariant

pub change_at-requires-clause-tags : goal.change_at-requires-clause-tags
change_at-requires-clause-tags c =
    let steps = c.args.steps.now in
    let there = slice_get_read steps _ c.loop-step.place c.in-Some.step.now refl c.in-Some.ensures.lookup.3.0 c.in-Some.ensures.lookup.1 ∙ ap (λ (s : Step). Some s) c.in-Laid.is in
    subst (All IsTagged) (sym c.deref.ensures.value) (c.requires.steps c.loop-step.place (Laid c.in-Laid.laid) there).tags

pub returns-in-Some-change_at : goal.returns-in-Some-change_at
returns-in-Some-change_at c =
    let steps = c.args.steps.now in
    let laid = c.in-Laid.laid in
    let there = slice_get_read steps _ c.loop-step.place c.in-Some.step.now refl c.in-Some.ensures.lookup.3.0 c.in-Some.ensures.lookup.1 ∙ ap (λ (s : Step). Some s) c.in-Laid.is in
    let kind = c.args.kind.now in
    let key = c.args.state_key.now in
    let cs : List Change = laid.over.changes.items in
    let below : StateMap = state_at (states_of steps) laid.over.parent in
    let some : find (is_change_at kind key) cs ≡ Some c.in-Some-change_at.change.now = ap (find (is_change_at kind key)) (sym c.deref.ensures.value) ∙ sym c.change_at.ensures ∙ ap (option_map (λ c. c.now)) c.in-Some-change_at.is in
    c.id.ensures
    ∙ sym (sym c.loop-step.invariant ∙ ap (λ (s : StateMap). entry_at s kind key) (at-step steps c.loop-step.place (Laid laid) c.requires.steps there) ∙ found-changes below cs kind key ∙ ap (λ o. found o (entry_at below kind key)) some)

pub loop-step-smaller : goal.loop-step-smaller
loop-step-smaller c =
    let steps = c.args.steps.now in
    let there = slice_get_read steps _ c.loop-step.place c.in-Some.step.now refl c.in-Some.ensures.lookup.3.0 c.in-Some.ensures.lookup.1 ∙ ap (λ (s : Step). Some s) c.in-Laid.is in
    laid-before steps c.loop-step.place c.in-Laid.laid c.requires.steps there

pub loop-step-preserved : goal.loop-step-preserved
loop-step-preserved c =
    let steps = c.args.steps.now in
    let laid = c.in-Laid.laid in
    let there = slice_get_read steps _ c.loop-step.place c.in-Some.step.now refl c.in-Some.ensures.lookup.3.0 c.in-Some.ensures.lookup.1 ∙ ap (λ (s : Step). Some s) c.in-Laid.is in
    let kind = c.args.kind.now in
    let key = c.args.state_key.now in
    let cs : List Change = laid.over.changes.items in
    let below : StateMap = state_at (states_of steps) laid.over.parent in
    let none : find (is_change_at kind key) cs ≡ None = ap (find (is_change_at kind key)) (sym c.deref.ensures.value) ∙ sym c.change_at.ensures ∙ ap (option_map (λ c. c.now)) c.in_default-change_at.is in
    sym (ap (λ (s : StateMap). entry_at s kind key) (at-step steps c.loop-step.place (Laid laid) c.requires.steps there) ∙ found-changes below cs kind key ∙ ap (λ o. found o (entry_at below kind key)) none)
    ∙ c.loop-step.invariant

pub returns-in-Whole : goal.returns-in-Whole
returns-in-Whole c =
    let steps = c.args.steps.now in
    let there = slice_get_read steps _ c.loop-step.place c.in-Some.step.now refl c.in-Some.ensures.lookup.3.0 c.in-Some.ensures.lookup.1 ∙ ap (λ (s : Step). Some s) c.in-Whole.is in
    c.get-in-Whole.ensures ∙ sym (ap (λ (s : StateMap). entry_at s c.args.kind.now c.args.state_key.now) (at-step steps c.loop-step.place (Whole c.in-Whole.whole) c.requires.steps there)) ∙ c.loop-step.invariant

pub returns : goal.returns
returns c =
    let steps = c.args.steps.now in
    sym (sym c.loop-step.invariant ∙ at-none steps c.loop-step.place c.args.kind.now c.args.state_key.now (slice_get_past steps c.loop-step.place c.in_default.ensures.lookup.3))
