use Rattle.std.proofs.Common.{◌<◌, All, ℕ, List, Option, length, map, refl, subst, sym, ap, ◌∙◌}
use Rattle.std.proofs.lemmas.Result.{IfOk-weaker}
use Rattle.std.proofs.lemmas.List.Elements.{All-same}
use Rattle.fed_resolve.specs.OrderParts.{IsWithin, candidate_place}
use Rattle.fed_resolve.specs.Mainline.{mainline, is_before_in_mainline, at_once}
use Rattle.fed_resolve.specs.RankParts.{AreIndices, IsMainlineCandidate}
use Rattle.fed_resolve.proofs.Orders.{order-holds}
use Rattle.fed_resolve.proofs.Orderings.{mainline-compares, mainline-listed, mainline-within}
use Rattle.fed_resolve.proofs.mainline.mainline_order_by.Goals as goal

pub in_order-requires : goal.in_order-requires
in_order-requires c =
    let events = c.args.graph.now.stored in
    let line : List ℕ = mainline events c.args.levels in
    let all = c.in_ok-candidates.candidates.items in
    let indices : AreIndices (length events) line c.deref-2.result.now =
    subst (λ (is : List (Option ℕ)). AreIndices (length events) line is) (sym c.deref-2.ensures.value)
    (subst (λ (n : ℕ). AreIndices n line c.in_ok-indices.indices.items) (ap length c.events.ensures.stored)
    (subst (λ (ps : List ℕ). AreIndices (length c.events.result.now) ps c.in_ok-indices.indices.items) (c.deref.ensures.value ∙ c.in_ok-line.ensures.line) c.in_ok-indices.ensures)) in
    All-same (IsWithin c.len.result) c.deref-3.result.now all c.deref-3.ensures.value
    (subst (λ (n : ℕ). All (IsWithin n) all) (sym c.len.ensures) (mainline-within events line all (c.in_ok-candidates.ensures.each c.args.levels indices)))

pub returns : goal.returns
returns c =
    let events = c.args.graph.now.stored in
    let set = c.args.set.now in
    let line : List ℕ = mainline events c.args.levels in
    let indices : AreIndices (length events) line c.deref-2.result.now =
    subst (λ (is : List (Option ℕ)). AreIndices (length events) line is) (sym c.deref-2.ensures.value)
    (subst (λ (n : ℕ). AreIndices n line c.in_ok-indices.indices.items) (ap length c.events.ensures.stored)
    (subst (λ (ps : List ℕ). AreIndices (length c.events.result.now) ps c.in_ok-indices.indices.items) (c.deref.ensures.value ∙ c.in_ok-line.ensures.line) c.in_ok-indices.ensures)) in
    let each = All-same (IsMainlineCandidate events line) c.deref-3.result.now c.in_ok-candidates.candidates.items c.deref-3.ensures.value (c.in_ok-candidates.ensures.each c.args.levels indices) in
    let order =
    mainline-listed events line _ mainline-compares c.args.levels set refl c.deref-3.result.now (ap (map candidate_place) c.deref-3.ensures.value ∙ c.in_ok-candidates.ensures.places) each in
    record {
      places = IfOk-weaker c.in_order.result _ _ (λ places h. h ∙ order) c.in_order.ensures;
      within = IfOk-weaker c.in_order.result _ _ (λ places h. subst (All (λ p. p < length events)) (sym (h ∙ order)) (order-holds at_once (is_before_in_mainline events (mainline events c.args.levels)) (λ p. p < length events) set c.requires.set)) c.in_order.ensures;
    }
