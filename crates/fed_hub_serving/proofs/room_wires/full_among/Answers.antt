use Rattle.std.proofs.Common.{arith, ◌≡◌, ◌+◌, ◌<◌, suc, inl, inr, Some, take, sym, subst, ⊎_elim}
use Rattle.fed_hub_serving.specs.declared.bound.Bound.{Bound}
use Rattle.fed_hub_serving.specs.WireRoom.{count_for}
use Rattle.fed_hub_serving.proofs.WireRooms.{taken_none, taken_more, first_for, room_stays, room_both}
use Rattle.fed_hub_serving.proofs.room_wires.full_among.Goals as goal

pub loop-one-init : goal.loop-one-init
loop-one-init g c = record { same = taken_none c.args.wires.now; room = λ k wire some. absurd (omega (arith, some)) }

pub loop-one-preserved : goal.loop-one-preserved
loop-one-preserved g c =
    let bound = c.args.bound.now in
    let i = c.loop-one.one-index in
    let new = c.full_for.new.wires in
    let next : i + 1 ≡ suc i = omega arith in
    record {
      same = taken_more c.args.wires.now c.loop-one.wires new c.loop-one.invariant.same c.in_default.ensures.same;
      room =
          room_both (λ k. 0 < count_for k (take i bound)) (λ k. c.one-item.result.room ≡ Some k) (λ k. 0 < count_for k (take (i + 1) bound)) bound new
          (room_stays (λ k. 0 < count_for k (take i bound)) bound c.loop-one.wires new c.loop-one.invariant.room c.in_default.ensures.same)
          c.in_default.ensures.full
          (λ k some. ⊎_elim (λ before. inl before) (λ this. inr (subst (λ (b : Bound). b.room ≡ Some k) (sym c.one-item.is) this))
          (first_for bound i k c.one-item.result c.loop-one-test.true (subst (λ n. 0 < count_for k (take n bound)) next some)));
    }

pub returns-in-Some-clause-same : goal.returns-in-Some-clause-same
returns-in-Some-clause-same g c = taken_more c.args.wires.now c.loop-one.wires c.full_for.new.wires c.loop-one.invariant.same c.in-Some.ensures.same
