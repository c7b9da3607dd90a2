use Rattle.std.proofs.Common.{length, sym, ap, ◌∙◌}
use Rattle.std.proofs.lemmas.List.{length-map}
use Rattle.fed_event.specs.Checked.{CheckedEvent}
use Rattle.fed_wires.specs.SendEnd.{Sender}
use Rattle.fed_hub.proofs.Receiving.{new_by, is_inbox_of, begins_so}
use Rattle.fed_hub.proofs.reception.Reception.new.Goals as goal

pub new-requires-5-clause-receiver : goal.new-requires-5-clause-receiver
new-requires-5-clause-receiver g c =
    let known = g.N.ServingNaming.known in
    let new = new_by c.args.own.now _ c.args.list.now _ known _ _ c.in_ok-inbox.inbox c.in_ok-copy-3.ensures c.in_ok-copy-4.ensures (c.in_ok-ids_of-2.ensures ∙ sym c.requires.known) c.new-2.ensures.kept c.in_ok-inbox.ensures in
    is_inbox_of c.args.own.now c.args.list.now known _ _ _ c.requires.inbox new

pub new-requires-5-clause-beginning : goal.new-requires-5-clause-beginning
new-requires-5-clause-beginning g c =
    let known = g.N.ServingNaming.known in
    let new = new_by c.args.own.now _ c.args.list.now _ known _ _ c.in_ok-inbox.inbox c.in_ok-copy-3.ensures c.in_ok-copy-4.ensures (c.in_ok-ids_of-2.ensures ∙ sym c.requires.known) c.new-2.ensures.kept c.in_ok-inbox.ensures in
    begins_so c.args.own.now c.args.list.now known _ _ _ c.requires.inbox new

pub invariant_of-inbox : goal.invariant_of-inbox
invariant_of-inbox g c = record { rooms = c.in_ok-credits.ensures ∙ ap length c.deref.ensures.value ∙ sym (length-map c.args.ends.items (λ (end : Sender CheckedEvent). end.wire)) ∙ ap length c.requires.wires }
