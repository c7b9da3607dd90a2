use Rattle.std.proofs.Common.{◌≡◌, ◌+◌, ◌∷◌, List, [], drop, ap, sym, ◌∙◌, subst}
use Rattle.std.proofs.lemmas.Bool.{false≢true}
use Rattle.std.proofs.lemmas.List.{drop_all}
use mathlib.Core.List.{IsPrefix}
use Rattle.fed_event.specs.Checked.{CheckedEvent}
use Rattle.fed_room_contract.specs.declared.input.Input.{Input}
use Rattle.fed_hub_kept.specs.Received.{received}
use Rattle.fed_hub_kept.proofs.Arrivals.{came_first, first, none_is_front, not_first, rest_of}
use Rattle.fed_hub_kept.proofs.brought.behind.Goals as goal

pub returns-then-eq : goal.returns-then-eq
returns-then-eq c = λ later.
    let inputs = c.args.inputs.now in
    let event = c.args.event.now in
    let rest = drop (c.loop-place.place + 1) inputs in
    let came = c.in-Receive.came in
    let all = came_first inputs c.loop-place.place c.index-inputs-place.result came c.loop-place-test.true c.index-inputs-place.is c.in-Receive.is c.loop-place.invariant in
    let front = first came event (received rest) later (c.eq.ensures.same.0 c.if-eq.true) in
    let Came : List CheckedEvent → Type 0 = λ xs. IsPrefix xs (event ∷ later) in
    let Left : List Input → Type 0 = λ xs. IsPrefix (received xs) later in (
      (λ f. subst Left (sym (rest_of inputs (c.loop-place.place + 1))) (front.0 (subst Came all f))),
      (λ f. subst Came (sym all) (front.1 (subst Left (rest_of inputs (c.loop-place.place + 1)) f))),
    )

pub returns-in-loop-place : goal.returns-in-loop-place
returns-in-loop-place c = λ later f.
    let inputs = c.args.inputs.now in
    let came = c.in-Receive.came in
    let all = came_first inputs c.loop-place.place c.index-inputs-place.result came c.loop-place-test.true c.index-inputs-place.is c.in-Receive.is c.loop-place.invariant in
    not_first came c.args.event.now (received (drop (c.loop-place.place + 1) inputs)) later (λ same. false≢true (sym c.if-eq.false ∙ c.eq.ensures.same.1 same))
    (subst (λ xs. IsPrefix xs (c.args.event.now ∷ later)) all f)

pub returns : goal.returns
returns c =
    let none : received c.args.inputs.now ≡ [] = c.loop-place.invariant ∙ ap received (drop_all c.loop-place.place c.args.inputs.now c.loop-place-test.false) in
    λ later. (
      (λ _. none_is_front later),
      (λ _. subst (λ xs. IsPrefix xs (c.args.event.now ∷ later)) (sym none) (none_is_front (c.args.event.now ∷ later))),
    )
