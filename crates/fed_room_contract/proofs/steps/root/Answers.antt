use Rattle.std.proofs.Common.{Some, refl, sym, ap, ◌∙◌}
use Rattle.std.proofs.lemmas.Option.{slice_get_read}
use Rattle.fed_room_contract.specs.declared.step.Step.{Step}
use Rattle.fed_room_contract.specs.declared.step.Step.TheVariants.{Same}
use Rattle.fed_room_contract.proofs.KeptSteps.{at-step, same-root, root-there}
use Rattle.fed_room_contract.proofs.steps.root.Goals as goal

pub returns-in-Same-clause-within : goal.returns-in-Same-clause-within
returns-in-Same-clause-within c =
    let steps = c.args.steps.now in
    let there = slice_get_read steps _ c.args.place c.index-steps-place.result refl c.requires.within c.index-steps-place.is ∙ ap (λ (s : Step). Some s) c.in-Same.is in
    (same-root steps c.args.place c.in-Same.parent c.requires.steps there).within

pub returns-in-Same-clause-root : goal.returns-in-Same-clause-root
returns-in-Same-clause-root c =
    let steps = c.args.steps.now in
    let there = slice_get_read steps _ c.args.place c.index-steps-place.result refl c.requires.within c.index-steps-place.is ∙ ap (λ (s : Step). Some s) c.in-Same.is in
    (same-root steps c.args.place c.in-Same.parent c.requires.steps there).root

pub returns-in-Same-clause-same : goal.returns-in-Same-clause-same
returns-in-Same-clause-same c =
    let steps = c.args.steps.now in
    let there = slice_get_read steps _ c.args.place c.index-steps-place.result refl c.requires.within c.index-steps-place.is ∙ ap (λ (s : Step). Some s) c.in-Same.is in
    sym (at-step steps c.args.place (Same c.in-Same.parent) c.requires.steps there)

pub returns-in-Laid-clause-root : goal.returns-in-Laid-clause-root
returns-in-Laid-clause-root c =
    root-there c.args.steps.now c.args.place c.index-steps-place.result (slice_get_read c.args.steps.now _ c.args.place c.index-steps-place.result refl c.requires.within c.index-steps-place.is) c.in-Laid.is

pub returns-in-Laid-2-clause-root : goal.returns-in-Laid-2-clause-root
returns-in-Laid-2-clause-root c =
    root-there c.args.steps.now c.args.place c.index-steps-place.result (slice_get_read c.args.steps.now _ c.args.place c.index-steps-place.result refl c.requires.within c.index-steps-place.is) c.in-Laid.is
