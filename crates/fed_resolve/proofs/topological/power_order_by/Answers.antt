use Rattle.std.proofs.Common.{◌<◌, All, ℕ, length, map, refl, subst, sym, ap, ◌∙◌}
use Rattle.std.proofs.lemmas.Result.{IfOk-weaker}
use Rattle.std.proofs.lemmas.List.Elements.{All-same}
use Rattle.fed_resolve.specs.OrderParts.{IsWithin, candidate_place}
use Rattle.fed_resolve.specs.RankParts.{IsPowerCandidate}
use Rattle.fed_resolve.specs.PowerOrder.{is_before_in_power, has_chain_listed}
use Rattle.fed_resolve.proofs.Orders.{order-holds}
use Rattle.fed_resolve.proofs.Orderings.{power-listed, power-within}
use Rattle.fed_resolve.proofs.topological.power_order_by.Goals as goal

pub in_order-requires : goal.in_order-requires
in_order-requires c =
    let events = c.args.graph.now.stored in
    let all = c.in_ok-candidates.candidates.items in
    All-same (IsWithin c.len.result) c.deref.result.now all c.deref.ensures.value
    (subst (λ (n : ℕ). All (IsWithin n) all) (sym c.len.ensures) (power-within events c.args.set.now c.requires all c.in_ok-candidates.ensures.each))

pub returns : goal.returns
returns c =
    let events = c.args.graph.now.stored in
    let set = c.args.set.now in
    let each = All-same (IsPowerCandidate events set) c.deref.result.now c.in_ok-candidates.candidates.items c.deref.ensures.value c.in_ok-candidates.ensures.each in
    let order = power-listed events set _ (λ one other. refl) c.deref.result.now (ap (map candidate_place) c.deref.ensures.value ∙ c.in_ok-candidates.ensures.places) each in
    record {
      places = IfOk-weaker c.in_order.result _ _ (λ places h. h ∙ order) c.in_order.ensures;
      within = IfOk-weaker c.in_order.result _ _ (λ places h. subst (All (λ p. p < length events)) (sym (h ∙ order)) (order-holds (has_chain_listed events set) (is_before_in_power events) (λ p. p < length events) set c.requires)) c.in_order.ensures;
    }
