use Rattle.std.proofs.Common.{◌≡◌, List, length, refl, sym, ap, ◌∙◌, subst}
use Rattle.fed_hub.specs.Hub.{HubShape}
use Rattle.fed_outbox.specs.Outbox.{OutboxState}
use Rattle.fed_hub.specs.Report.{IsFitting, NoReaderSawMore, parts_of}
use Rattle.fed_hub.proofs.Ending.{still_fits}
use Rattle.fed_hub.proofs.hub.Hub.finish.Goals as goal

pub end-requires-clause-places : goal.end-requires-clause-places
end-requires-clause-places g c = λ place o at. ((c.in-Ok-compare.ensures.equal refl).accepted place o at).dest

pub returns-in-Ok-compare-clause-fits : goal.returns-in-Ok-compare-clause-fits
returns-in-Ok-compare-clause-fits g c =
    let known = g.N.ServingNaming.known in
    let unlocked = c.in-Ok.opened.1 in
    let tokens = c.args.tokens in
    still_fits c.args.self.list c.args.self.own known unlocked c.end.result tokens c.end.ensures.same
    (subst (λ (h : HubShape). IsFitting h.list h.own known (parts_of unlocked) tokens) c.in-Ok.ensures.opened.0 (c.in-Ok-compare.ensures.equal refl))

pub returns-in-Ok-compare-clause-seen : goal.returns-in-Ok-compare-clause-seen
returns-in-Ok-compare-clause-seen g c =
    subst (λ (outboxes : List OutboxState). NoReaderSawMore outboxes c.args.tokens.readers.items) (sym c.end.ensures.same.same_outboxes) c.end.ensures.seen
