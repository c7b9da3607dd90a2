use Rattle.std.proofs.Common.{◌≡◌, ◌<◌, ◌+◌, ◌-◌, ◌++◌, ◌∷◌, [], List, ℕ, Bool, Some, length, set, true, append_assoc, append-nil, subst, sym, ap, ◌∙◌, arith}
use Rattle.fed_resolve.specs.ChainParts.{is_marked}
use Rattle.fed_resolve.specs.Order.{is_among}
use Rattle.fed_resolve.specs.OrderParts.{AreListedFronts, candidates_from, next_place}
use Rattle.fed_resolve.proofs.Marks.{written}
use Rattle.fed_resolve.proofs.Orders.{order-next, order-end, first-marked, next-below, marks-more, fronts-more}
use Rattle.fed_resolve.proofs.order.in_plain_order.Goals.{else-loop-test, then-loop-test+in_default}
use Rattle.fed_resolve.proofs.order.in_plain_order.Goals as goal

pub index_mut-requires : goal.index_mut-requires
index_mut-requires g c =
    let cmp = g.R.Ord.cmp in
    let all = c.args.candidates.now in
    let marks = c.loop.is_listed.items in
    let first : next_place cmp (is_among c.loop.listed.items) all ≡ Some c.in-Some.place =
    sym (first-marked cmp all c.loop.listed.items c.args.count marks c.loop.invariant.marks c.requires) ∙ ap (λ ms. next_place cmp (is_marked ms) all) (sym c.deref.ensures.value) ∙ sym c.in-Some.ensures.first in
    let below : c.in-Some.place < c.args.count = next-below cmp all c.loop.listed.items c.args.count c.in-Some.place c.requires first in
    omega (arith, c.loop.invariant.marks.long, ap length c.deref.ensures.value, c.deref.ensures.len)

pub loop-preserved : goal.loop-preserved
loop-preserved g c =
    let cmp = g.R.Ord.cmp in
    let all = c.args.candidates.now in
    let count = length all in
    let steps = count - (c.loop.counter + 1) in
    let listed = c.loop.listed.items in
    let marks = c.loop.is_listed.items in
    let place = c.in-Some.place in
    let fronts = c.next_place.new.fronts in
    let first : next_place cmp (is_among listed) all ≡ Some place =
    sym (first-marked cmp all listed c.args.count marks c.loop.invariant.marks c.requires) ∙ ap (λ ms. next_place cmp (is_marked ms) all) (sym c.deref.ensures.value) ∙ sym c.in-Some.ensures.first in
    let below : place < c.args.count = next-below cmp all listed c.args.count place c.requires first in
    let kept : AreListedFronts marks all fronts = subst (λ (ms : List Bool). AreListedFronts ms all fronts) c.deref.ensures.value c.in-Some.ensures.fronts in
    let long : length fronts ≡ c.loop.fronts.len = omega (arith, kept.long, c.loop.invariant.fronts.long, ap length c.deref_mut.ensures.value, c.deref_mut.ensures.len) in
    let inside : place < length marks = omega (arith, c.loop.invariant.marks.long) in
    record {
      rest =
          ap (λ ps. ps ++ candidates_from cmp all steps ps) c.in_ok-push.ensures.items
          ∙ append_assoc listed (place ∷ []) (candidates_from cmp all steps (listed ++ place ∷ []))
          ∙ ap (λ ps. listed ++ ps) (sym (order-next cmp all listed count c.loop.counter place (omega arith) first))
          ∙ c.loop.invariant.rest;
      marks = marks-more c.args.count listed c.push.new.self.items marks place below c.in_ok-push.ensures.items c.loop.invariant.marks;
      fronts = subst (λ (fs : List ℕ). AreListedFronts (set marks place true) all fs) (sym (written c.loop.fronts.len fronts c.loop.fronts.items long)) (fronts-more marks place all fronts inside kept);
    }

pub returns : goal.returns
returns g c =
    let cmp = g.R.Ord.cmp in
    let all = c.args.candidates.now in
    let listed = c.loop.listed.items in
    let marks = c.loop.is_listed.items in
    let steps = length all - c.loop.counter in
    let none : candidates_from cmp all steps listed ≡ [] =
    elim c.loop-test.branch [
      | else-loop-test w ↦ let zero : steps ≡ 0 = omega (arith, w.loop-test.false) in ap (λ k. candidates_from cmp all k listed) zero
      | then-loop-test+in_default w ↦
          order-end cmp all listed steps
          (sym (first-marked cmp all listed c.args.count marks c.loop.invariant.marks c.requires)
          ∙ ap (λ ms. next_place cmp (is_marked ms) all) (sym w.deref.ensures.value) ∙ sym w.next_place.ensures.first ∙ w.in_default.is)
    ] in
    sym (append-nil listed) ∙ ap (λ ps. listed ++ ps) (sym none) ∙ c.loop.invariant.rest
