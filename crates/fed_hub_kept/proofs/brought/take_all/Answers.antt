use Rattle.std.proofs.Common.{◌+◌, ◌++◌, List, drop, map, sym, subst}
use Rattle.std.proofs.lemmas.List.{drop_all}
use Rattle.fed_event.specs.Checked.{CheckedEvent}
use Rattle.fed_hub_kept.specs.Unfound.{AreFronts, place_in}
use Rattle.fed_hub_kept.proofs.Arrivals.{at_place, both}
use Rattle.fed_hub_kept.proofs.brought.take_all.Goals as goal

pub returns-then-not-take : goal.returns-then-not-take
returns-then-not-take c = λ later all.
    let events = c.args.events.now in
    let i = c.loop-event.event-index in
    let here = at_place events i c.event-item.result c.loop-event-test.true c.event-item.is in
    c.if-not-take.ensures (drop (i + 1) events ++ later)
    (subst (λ es. AreFronts (place_in c.args.places.now) (es ++ later) (map (λ inputs. inputs.now) c.loop-event.left)) here ((c.loop-event.invariant later).0 all))

pub loop-event-preserved : goal.loop-event-preserved
loop-event-preserved c = λ later.
    let events = c.args.events.now in
    let i = c.loop-event.event-index in
    let here = at_place events i c.event-item.result c.loop-event-test.true c.event-item.is in
    let At : List CheckedEvent → Type 0 = λ es. AreFronts (place_in c.args.places.now) (es ++ later) (map (λ inputs. inputs.now) c.loop-event.left) in
    both (c.loop-event.invariant later)
    (both ((λ a. subst At here a), (λ a. subst At (sym here) a)) (c.if-not-take.ensures (drop (i + 1) events ++ later)))

pub returns : goal.returns
returns c = λ later.
    let none = drop_all c.loop-event.event-index c.args.events.now c.loop-event-test.false in
    let At : List CheckedEvent → Type 0 = λ es. AreFronts (place_in c.args.places.now) (es ++ later) (map (λ inputs. inputs.now) c.loop-event.left) in
    both (c.loop-event.invariant later) ((λ a. subst At none a), (λ a. subst At (sym none) a))
