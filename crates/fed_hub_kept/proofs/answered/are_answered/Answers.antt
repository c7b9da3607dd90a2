use Rattle.std.proofs.Common.{◌≡◌, ◌↔◌, IsTrue, IfOk, List, map, ap, ◌∙◌, subst}
use Rattle.fed_hub_serving.specs.Answered.{AnsweredValue}
use Rattle.fed_hub_kept.specs.Answered.{AreAnswered}
use Rattle.fed_hub_kept.proofs.answered.are_answered.Goals as goal

pub returns : goal.returns
returns g c =
    let same : map (λ answered. answered.now) c.deref.result.now ≡ c.args.tokens.now = ap (map (λ answered. answered.now)) c.deref.ensures.value ∙ c.in_ok-answered.ensures in
    subst (λ (tokens : List (List AnsweredValue)). IfOk c.are_as_told.result (λ are. IsTrue are ↔ AreAnswered c.args.points.now tokens)) same c.are_as_told.ensures
