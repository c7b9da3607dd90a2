use Rattle.std.proofs.Common.{◌≡◌, ◌+◌, ◌-◌, ◌++◌, ◌∷◌, [], List, ℕ, Bool, Some, All, length, true, false, append_assoc, append-nil, subst, sym, ap, ◌∙◌, arith}
use Rattle.std.proofs.lemmas.List.{get_or-set_same, length-set}
use Rattle.std.specs.declared.cmp.Ordering.{Ordering}
use Rattle.fed_resolve.specs.declared.order.Candidate.{Candidate}
use Rattle.fed_resolve.specs.ChainParts.{is_marked}
use Rattle.fed_resolve.specs.Marks.{AreMarks}
use Rattle.fed_resolve.specs.Order.{is_among}
use Rattle.fed_resolve.specs.OrderParts.{IsWithin, candidates_from, next_place}
use Rattle.fed_resolve.specs.ReadyParts.{IsReadySet, none_left, is_left_at, is_left_waiting}
use Rattle.fed_resolve.proofs.Orders.{order-next, order-end, first-marked, next-below, marks-more}
use Rattle.fed_resolve.proofs.ReadySets.{listed-more}
use Rattle.fed_resolve.proofs.ready.in_ready_order.Goals.{else-loop-test, then-loop-test+in_default}
use Rattle.fed_resolve.proofs.ready.in_ready_order.Goals as goal

-- the place that comes next, by what is listed
first-place : {R : Type 0} (cmp : R → R → Ordering) (all : List (Candidate R)) (listed : List ℕ) (count : ℕ) (marks seen : List Bool) (place : ℕ) → AreMarks count (is_among listed) marks → All (IsWithin count) all → seen ≡ marks
    → Some place ≡ next_place cmp (is_marked seen) all → next_place cmp (is_among listed) all ≡ Some place
first-place cmp all listed count marks seen place are within same first = sym (first-marked cmp all listed count marks are within) ∙ ap (λ ms. next_place cmp (is_marked ms) all) (sym same) ∙ sym first

pub index_mut-requires : goal.index_mut-requires
index_mut-requires g c =
    let first = first-place g.R.Ord.cmp c.args.candidates.now c.loop.listed.items c.args.count c.loop.is_listed.items _ c.in-Some.place c.loop.invariant.marks c.requires c.deref-in-loop.ensures.value c.in-Some.ensures.first in
    let below = next-below g.R.Ord.cmp c.args.candidates.now c.loop.listed.items c.args.count c.in-Some.place c.requires first in
    omega (arith, below, c.loop.invariant.marks.long, ap length c.deref-in-loop.ensures.value, c.deref-in-loop.ensures.len)

pub wake-requires-clause-within : goal.wake-requires-clause-within
wake-requires-clause-within g c =
    let long : length c.deref-in-loop-2.result.now ≡ c.args.count = ap length c.deref-in-loop-2.ensures.value ∙ length-set c.loop.is_listed.items c.in-Some.place true ∙ c.loop.invariant.marks.long in
    subst (λ n. All (IsWithin n) c.args.candidates.now) (sym long) c.requires

pub wake-requires-clause-place : goal.wake-requires-clause-place
wake-requires-clause-place g c =
    let first = first-place g.R.Ord.cmp c.args.candidates.now c.loop.listed.items c.args.count c.loop.is_listed.items _ c.in-Some.place c.loop.invariant.marks c.requires c.deref-in-loop.ensures.value c.in-Some.ensures.first in
    let below = next-below g.R.Ord.cmp c.args.candidates.now c.loop.listed.items c.args.count c.in-Some.place c.requires first in
    let long : length c.deref-in-loop-2.result.now ≡ c.args.count = ap length c.deref-in-loop-2.ensures.value ∙ length-set c.loop.is_listed.items c.in-Some.place true ∙ c.loop.invariant.marks.long in
    omega (arith, below, long)

pub wake-requires-clause-listed : goal.wake-requires-clause-listed
wake-requires-clause-listed g c =
    let first = first-place g.R.Ord.cmp c.args.candidates.now c.loop.listed.items c.args.count c.loop.is_listed.items _ c.in-Some.place c.loop.invariant.marks c.requires c.deref-in-loop.ensures.value c.in-Some.ensures.first in
    let below = next-below g.R.Ord.cmp c.args.candidates.now c.loop.listed.items c.args.count c.in-Some.place c.requires first in
    let long = c.loop.invariant.marks.long in
    ap (λ ms. is_marked ms c.in-Some.place) c.deref-in-loop-2.ensures.value ∙ get_or-set_same c.loop.is_listed.items c.in-Some.place true false (omega (arith, below, long))

pub wake-requires-clause-ready : goal.wake-requires-clause-ready
wake-requires-clause-ready g c =
    let all = c.args.candidates.now in
    let marks = c.loop.is_listed.items in
    let place = c.in-Some.place in
    let ready = c.pop.new.self in
    let first = first-place g.R.Ord.cmp all c.loop.listed.items c.args.count marks _ place c.loop.invariant.marks c.requires c.deref-in-loop.ensures.value c.in-Some.ensures.first in
    let below = next-below g.R.Ord.cmp all c.loop.listed.items c.args.count place c.requires first in
    let long = c.loop.invariant.marks.long in
    subst (λ (ms : List Bool). IsReadySet (is_left_waiting ready place) ms all ready) (sym c.deref-in-loop-2.ensures.value)
    (listed-more marks all ready place (omega (arith, below, long)) (subst (λ (ms : List Bool). IsReadySet (is_left_at all place) ms all ready) c.deref-in-loop.ensures.value c.in-Some.ensures.ready))

pub loop-preserved : goal.loop-preserved
loop-preserved g c =
    let cmp = g.R.Ord.cmp in
    let all = c.args.candidates.now in
    let count = length all in
    let steps = count - (c.loop.counter + 1) in
    let listed = c.loop.listed.items in
    let marks = c.loop.is_listed.items in
    let place = c.in-Some.place in
    let first = first-place cmp all listed c.args.count marks _ place c.loop.invariant.marks c.requires c.deref-in-loop.ensures.value c.in-Some.ensures.first in
    let below = next-below cmp all listed c.args.count place c.requires first in
    record {
      rest =
          ap (λ ps. ps ++ candidates_from cmp all steps ps) c.in_ok-push.ensures.items
          ∙ append_assoc listed (place ∷ []) (candidates_from cmp all steps (listed ++ place ∷ []))
          ∙ ap (λ ps. listed ++ ps) (sym (order-next cmp all listed count c.loop.counter place (omega arith) first))
          ∙ c.loop.invariant.rest;
      marks = marks-more c.args.count listed c.push.new.self.items marks place below c.in_ok-push.ensures.items c.loop.invariant.marks;
      ready = subst (λ (ms : List Bool). IsReadySet none_left ms all c.wake.new.self) c.deref-in-loop-2.ensures.value c.in_ok-wake.ensures;
    }

pub returns : goal.returns
returns g c =
    let cmp = g.R.Ord.cmp in
    let all = c.args.candidates.now in
    let listed = c.loop.listed.items in
    let steps = length all - c.loop.counter in
    let none : candidates_from cmp all steps listed ≡ [] =
    elim c.loop-test.branch [
      | else-loop-test w ↦ let zero : steps ≡ 0 = omega (arith, w.loop-test.false) in ap (λ k. candidates_from cmp all k listed) zero
      | then-loop-test+in_default w ↦
          order-end cmp all listed steps
          (sym (first-marked cmp all listed c.args.count c.loop.is_listed.items c.loop.invariant.marks c.requires)
          ∙ ap (λ ms. next_place cmp (is_marked ms) all) (sym w.deref-in-loop.ensures.value) ∙ sym w.pop.ensures.first ∙ w.in_default.is)
    ] in
    sym (append-nil listed) ∙ ap (λ ps. listed ++ ps) (sym none) ∙ c.loop.invariant.rest
