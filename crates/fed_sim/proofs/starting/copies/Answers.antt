use Rattle.std.proofs.Common.{get_or, sym, ap, ◌∙◌}
use Rattle.std.proofs.lemmas.List.{take_all}
use Rattle.fed_sim.proofs.Built.{pushed}
use Rattle.fed_sim.proofs.starting.copies.Goals as goal

pub loop-event-init : goal.loop-event-init
loop-event-init c = c.in_ok-copies.ensures.items

pub loop-event-preserved : goal.loop-event-preserved
loop-event-preserved c =
    let same = c.in_ok-copy.ensures in
    pushed c.loop-event.copies.items c.push.new.self.items c.args.events.now c.loop-event.event-index c.in_ok-copy.field-0 c.loop-event.invariant c.in_ok-push.ensures.items c.loop-event-test.true
    (same ∙ c.event-item.is ∙ ap (get_or c.args.events.now c.loop-event.event-index) (sym same))

pub returns : goal.returns
returns c = c.loop-event.invariant ∙ take_all c.loop-event.event-index c.args.events.now c.loop-event-test.false
