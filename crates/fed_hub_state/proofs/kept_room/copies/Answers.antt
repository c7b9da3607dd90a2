use Rattle.std.proofs.Common.{◌++◌, ◌∷◌, [], take, sym, ap, ◌∙◌}
use Rattle.std.proofs.lemmas.List.{take_all, take_more}
use Rattle.fed_event.specs.Checked.{CheckedEvent}
use Rattle.fed_hub_state.proofs.kept_room.copies.Goals as goal

pub loop-event-preserved : goal.loop-event-preserved
loop-event-preserved c =
    let events = c.args.events.now in
    let i = c.loop-event.event-index in
    c.in_ok-push.ensures.items ∙ ap (λ es. es ++ c.in_ok-copy.field-0 ∷ []) c.loop-event.invariant
    ∙ ap (λ (e : CheckedEvent). take i events ++ e ∷ []) (c.in_ok-copy.ensures ∙ c.event-item.is)
    ∙ sym (take_more events i c.event-item.result c.loop-event-test.true)

pub returns : goal.returns
returns c = c.loop-event.invariant ∙ take_all c.loop-event.event-index c.args.events.now c.loop-event-test.false
