use Rattle.std.proofs.Common.{sym, ap, ◌∙◌, subst}
use Rattle.std.specs.List.Sorted.{IsStrictlyIncreasing}
use Rattle.fed_event.specs.EventId.{event_id_of}
use Rattle.fed_dest.specs.Joined.{is_destination}
use Rattle.fed_hub_kept.proofs.Destinations.{sent_by}
use Rattle.fed_hub_kept.proofs.sent.is_sent_as_stored.Goals as goal

pub returns-clause-sent : goal.returns-clause-sent
returns-clause-sent g c =
    let room = g.R.RoomEngine.room c.args.room.now in
    let rules = g.R.RoomEngine.rules c.args.room.now in
    sent_by rules room.stored c.args.servers.now c.args.own c.args.event.now c.as_str.result.now c.args.dests.now c.in_ok-others.others c.in-Some.before c.eq.result
    (c.as_str.ensures.text ∙ c.id.ensures ∙ ap event_id_of c.event.ensures.event)
    (sym c.in-Some.is ∙ c.in_ok-before.ensures.state)
    (subst IsStrictlyIncreasing c.others.view_is c.others.invariant)
    (λ place. c.in_ok-others.ensures place ∙ ap (λ events. is_destination events c.in-Some.before c.args.servers.now c.args.own place) c.graph.ensures)
    c.eq.ensures.same
