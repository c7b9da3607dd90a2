use Rattle.std.proofs.Common.{◌≡◌, List, [], ◌∷◌, length, refl, sym, ap, ◌∙◌, arith}
use Rattle.std.proofs.lemmas.Result.{IfOk-weaker}
use Rattle.fed_room_contract.specs.State.{StateMap}
use Rattle.fed_resolve.specs.Resolution.{resolved_of}
use Rattle.fed_resolve.proofs.EqualStates.{all-resolved}
use Rattle.fed_resolve.proofs.Resolved.{none-resolved}
use Rattle.fed_resolve.proofs.resolution.resolve_by.Goals as goal

nothing : (states : List StateMap) → length states ≡ 0 → states ≡ []
nothing [] e = refl
nothing (state ∷ states) e = absurd (omega arith)

pub returns-in_default : goal.returns-in_default
returns-in_default c =
    let events = c.args.graph.now.stored in
    c.new.ensures ∙ sym (ap (resolved_of events) (nothing c.args.states.now c.in_default.ensures.cases) ∙ none-resolved events)

pub returns-then-equal : goal.returns-then-equal
returns-then-equal c =
    let events = c.args.graph.now.stored in
    let whole : c.args.states.now ≡ c.in-Some.first.now ∷ c.in-Some.others.now = c.in-Some.ensures.cases.0 in
    let same = ap (resolved_of events) whole ∙ all-resolved c.in-Some.first.now events c.in-Some.others.now (c.in_ok-equal.ensures c.if-equal.true) in
    IfOk-weaker c.copy.result _ _ (λ copy h. h ∙ sym same) c.copy.ensures
