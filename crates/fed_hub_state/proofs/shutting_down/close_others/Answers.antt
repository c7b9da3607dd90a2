use Rattle.std.proofs.Common.{arith, length, get_or, refl, sym, ap, ◌∙◌, subst}
use Rattle.fed_journal.specs.Journal.{placed}
use Rattle.fed_hub_state.specs.ShuttingDown.{is_other_open}
use Rattle.fed_hub_state.specs.ShuttingDownParts.{ClosesOther, IsBeingShut}
use Rattle.fed_hub_state.proofs.Spreads.{count_placed, standing}
use Rattle.fed_hub_state.proofs.Shuts.{begins, credit_next, has_room_for, goes_on}
use Rattle.fed_hub_state.proofs.shutting_down.close_others.Goals as goal

pub loop-place-init : goal.loop-place-init
loop-place-init g c = begins g.N.Naming.wires c.args.own (length g.N.Naming.wires) c.args.journal.now c.args.ends.now c.requires.sent c.requires.room c.requires.credits

pub new-requires : goal.new-requires
new-requires g c = let few = c.requires.few in let count = c.loop-place.invariant.sent.count in omega (arith, few, count, c.loop-place.auto.ends)

pub close_other-requires-clause-reserved : goal.close_other-requires-clause-reserved
close_other-requires-clause-reserved g c = λ is.
    has_room_for g.N.Naming.wires c.args.own (length g.N.Naming.wires) c.args.journal.now c.loop-place.place c.loop-place.journal c.loop-place.ends
    (let count = c.loop-place.invariant.sent.count in omega (arith, count, c.loop-place.auto.ends)) c.loop-place.invariant
    (ap (is_other_open c.args.own c.loop-place.journal.entries) (sym c.new.ensures) ∙ is)

pub close_other-requires-clause-sent : goal.close_other-requires-clause-sent
close_other-requires-clause-sent g c =
    let ends = c.loop-place.ends in
    let i = c.loop-place.place in
    let here = standing ends i i c.index-ends-place.result refl (omega arith) in
    ap length (c.loop-place.invariant.sent.each i (get_or ends i c.index-ends-place.result) here).sent ∙ count_placed c.loop-place.journal.entries i ∙ ap (placed c.loop-place.journal.entries) (sym c.new.ensures)

pub close_other-requires-clause-credit : goal.close_other-requires-clause-credit
close_other-requires-clause-credit g c = λ is.
    let ends = c.loop-place.ends in
    let i = c.loop-place.place in
    let here = standing ends i i c.index-ends-place.result refl (omega arith) in
    credit_next g.N.Naming.wires c.args.own (length g.N.Naming.wires) c.args.journal.now i c.loop-place.journal ends (get_or ends i c.index-ends-place.result) c.loop-place.invariant here
    (ap (is_other_open c.args.own c.loop-place.journal.entries) (sym c.new.ensures) ∙ is)

pub loop-place-preserved : goal.loop-place-preserved
loop-place-preserved g c =
    let ends = c.loop-place.ends in
    let i = c.loop-place.place in
    let end = get_or ends i c.index-ends-place.result in
    let here = standing ends i i c.index-ends-place.result refl (omega arith) in
    goes_on g.N.Naming.wires c.args.own (length g.N.Naming.wires) c.args.journal.now i c.loop-place.journal ends end
    (let count = c.loop-place.invariant.sent.count in omega (arith, count, c.loop-place.auto.ends)) c.loop-place.invariant here c.requires.places c.close_other.new.journal c.close_other.new.end
    (subst (λ d. ClosesOther c.args.own d c.loop-place.journal end c.close_other.new.journal c.close_other.new.end) c.new.ensures c.close_other.ensures)

pub returns : goal.returns
returns g c =
    subst (λ i. IsBeingShut g.N.Naming.wires c.args.own (length g.N.Naming.wires) i c.args.journal.now c.loop-place.journal c.loop-place.ends)
    (let count = c.loop-place.invariant.sent.count in omega (arith, count, c.loop-place.auto.ends)) c.loop-place.invariant
