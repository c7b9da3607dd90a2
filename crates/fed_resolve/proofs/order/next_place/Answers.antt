use Rattle.std.proofs.Common.{◌≡◌, ◌-◌, ◌&&◌, not, true, false, Some, vec_len, get_or, set, ap, sym, ◌∙◌, arith}
use Rattle.std.specs.List.{list_all}
use Rattle.std.proofs.lemmas.List.{get_or-set_same}
use Rattle.std.proofs.lemmas.Bool.{eq-eqb, ne_eqb, and_right}
use Rattle.fed_resolve.specs.ChainParts.{is_marked}
use Rattle.fed_resolve.specs.OrderParts.{may_follow, earlier_candidate, first_candidate}
use Rattle.fed_resolve.proofs.Orders.{fronts-set, follow-step}
use Rattle.fed_resolve.proofs.order.next_place.Goals as goal

pub loop-index-preserved-then-fronts-index : goal.loop-index-preserved-then-fronts-index
loop-index-preserved-then-fronts-index g c =
    let marks = c.args.is_listed.now in
    let all = c.args.candidates.now in
    let one = c.index-candidates-index.result in
    let here : get_or (set c.loop-index.fronts (c.loop-index.index - 1) c.listed_front.result) (c.loop-index.index - 1) 0 ≡ c.listed_front.result =
    get_or-set_same c.loop-index.fronts (c.loop-index.index - 1) c.listed_front.result 0 (omega (arith, c.loop-index.invariant.fronts.long)) in
    let listed : list_all (is_marked marks) one.after.items ≡ true =
    sym c.listed_front.ensures.whole ∙ eq-eqb c.listed_front.result (vec_len one.after) (sym here ∙ c.if-fronts-index.true ∙ c.len.ensures) in
    let follows : may_follow (is_marked marks) one ≡ true = ap (λ b. not b && list_all (is_marked marks) one.after.items) c.if-not-is_listed-one.true ∙ listed in
    record {
      first =
          ap Some c.earlier.ensures ∙ ap (λ o. Some (earlier_candidate g.R.Ord.cmp one o)) c.loop-index.invariant.first
          ∙ ap (first_candidate g.R.Ord.cmp) (sym (follow-step (is_marked marks) all c.loop-index.index one (omega arith) (omega arith) c.index-candidates-index.is true follows));
      fronts = fronts-set marks all c.loop-index.fronts (c.loop-index.index - 1) c.listed_front.result one (omega arith) c.index-candidates-index.is c.listed_front.ensures.front c.loop-index.invariant.fronts;
    }

pub loop-index-preserved-else-fronts-index : goal.loop-index-preserved-else-fronts-index
loop-index-preserved-else-fronts-index g c =
    let marks = c.args.is_listed.now in
    let all = c.args.candidates.now in
    let one = c.index-candidates-index.result in
    let here : get_or (set c.loop-index.fronts (c.loop-index.index - 1) c.listed_front.result) (c.loop-index.index - 1) 0 ≡ c.listed_front.result =
    get_or-set_same c.loop-index.fronts (c.loop-index.index - 1) c.listed_front.result 0 (omega (arith, c.loop-index.invariant.fronts.long)) in
    let listed : list_all (is_marked marks) one.after.items ≡ false =
    sym c.listed_front.ensures.whole ∙ ne_eqb c.listed_front.result (vec_len one.after) (λ e. c.if-fronts-index.false (here ∙ e ∙ sym c.len.ensures)) in
    let follows : may_follow (is_marked marks) one ≡ false = and_right (not (is_marked marks one.place)) (list_all (is_marked marks) one.after.items) listed in
    record {
      first =
          c.loop-index.invariant.first
          ∙ ap (first_candidate g.R.Ord.cmp) (sym (follow-step (is_marked marks) all c.loop-index.index one (omega arith) (omega arith) c.index-candidates-index.is false follows));
      fronts = fronts-set marks all c.loop-index.fronts (c.loop-index.index - 1) c.listed_front.result one (omega arith) c.index-candidates-index.is c.listed_front.ensures.front c.loop-index.invariant.fronts;
    }
