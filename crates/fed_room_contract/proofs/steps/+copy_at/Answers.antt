use Rattle.std.proofs.Common.{Some, refl, sym, ap, ◌∙◌, arith}
use Rattle.std.proofs.lemmas.Option.{slice_get_read}
use Rattle.std.proofs.lemmas.Result.{IfOk-weaker}
use Rattle.fed_room_contract.specs.ChangeParts.{with_changes}
use Rattle.fed_room_contract.specs.declared.step.Step.{Step}
use Rattle.fed_room_contract.specs.declared.step.Step.TheVariants.{Same, Laid, Whole}
use Rattle.fed_room_contract.proofs.KeptSteps.{at-step, parent-before, laid-before, same-root, laid-root}
use Rattle.fed_room_contract.proofs.steps.+copy_at.Goals as goal

pub copy_at-requires : goal.copy_at-requires
copy_at-requires t c =
    let steps = c.args.steps.now in
    let there = slice_get_read steps _ c.args.place c.index-steps-place.result refl c.requires.within c.index-steps-place.is ∙ ap (λ (s : Step). Some s) c.in-Same.is in
    let less = parent-before steps c.args.place c.in-Same.parent c.requires.steps there in
    (omega (arith, less, c.decreases), (c.requires.steps, (same-root steps c.args.place c.in-Same.parent c.requires.steps there).within))

pub copy_at-requires-in-Laid : goal.copy_at-requires-in-Laid
copy_at-requires-in-Laid t c =
    let steps = c.args.steps.now in
    let there = slice_get_read steps _ c.args.place c.index-steps-place.result refl c.requires.within c.index-steps-place.is ∙ ap (λ (s : Step). Some s) c.in-Laid.is in
    let less = laid-before steps c.args.place c.in-Laid.laid c.requires.steps there in
    (omega (arith, less, c.decreases), (c.requires.steps, (laid-root steps c.args.place c.in-Laid.laid c.requires.steps there).within))

pub returns-in-Same : goal.returns-in-Same
returns-in-Same t c =
    let steps = c.args.steps.now in
    let there = slice_get_read steps _ c.args.place c.index-steps-place.result refl c.requires.within c.index-steps-place.is ∙ ap (λ (s : Step). Some s) c.in-Same.is in
    IfOk-weaker c.copy_at.result _ _ (λ state same. same ∙ sym (at-step steps c.args.place (Same c.in-Same.parent) c.requires.steps there)) c.copy_at.ensures

pub returns-in_ok-make_all-in-Laid : goal.returns-in_ok-make_all-in-Laid
returns-in_ok-make_all-in-Laid t c =
    let steps = c.args.steps.now in
    let there = slice_get_read steps _ c.args.place c.index-steps-place.result refl c.requires.within c.index-steps-place.is ∙ ap (λ (s : Step). Some s) c.in-Laid.is in
    c.in_ok-make_all-in-Laid.ensures ∙ (λ i. with_changes (c.in_ok-state-in-Laid.ensures i) (c.deref.ensures.value i)) ∙ sym (at-step steps c.args.place (Laid c.in-Laid.laid) c.requires.steps there)

pub returns-in-Whole : goal.returns-in-Whole
returns-in-Whole t c =
    let steps = c.args.steps.now in
    let there = slice_get_read steps _ c.args.place c.index-steps-place.result refl c.requires.within c.index-steps-place.is ∙ ap (λ (s : Step). Some s) c.in-Whole.is in
    IfOk-weaker c.copy.result _ _ (λ state same. same ∙ sym (at-step steps c.args.place (Whole c.in-Whole.whole) c.requires.steps there)) c.copy.ensures
