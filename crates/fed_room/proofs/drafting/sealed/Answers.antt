use Rattle.std.proofs.Common.{sym, subst}
use Rattle.fed_event.specs.Sealing.{IsSentBy}
use Rattle.fed_room_contract.specs.Prepared.{signer_of}
use Rattle.fed_room.specs.LinksParts.{links_seen}
use Rattle.fed_room.proofs.Made.{sent_by_own, sealed_bears, prev_events-sealed, auth_events-sealed}
use Rattle.fed_room.proofs.drafting.sealed.Goals as goal

pub seal-requires : goal.seal-requires
seal-requires g c =
    let keys = c.args.keys.now in
    let signer = signer_of (g.K.Keys.own_name keys) (g.K.Keys.own_key keys) (g.K.Keys.own_signature keys) (g.K.Keys.checks keys) in
    subst (IsSentBy signer.name) (sym c.in_ok-parts.ensures.parts) (sent_by_own signer (links_seen c.args.links) c.args.draft c.requires.own)

pub returns-clause-bears : goal.returns-clause-bears
returns-clause-bears g c =
    let keys = c.args.keys.now in
    sealed_bears (g.K.Keys.own_name keys) (g.K.Keys.own_key keys) (g.K.Keys.own_signature keys) (links_seen c.args.links) c.args.draft c.in_ok-parts.parts c.in_ok-event.event.event c.in_ok-parts.ensures.moment c.in_ok-parts.ensures.parts c.in_ok-event.ensures.event

pub returns-clause-prev_events : goal.returns-clause-prev_events
returns-clause-prev_events g c =
    let keys = c.args.keys.now in
    prev_events-sealed (g.K.Keys.own_name keys) (g.K.Keys.own_key keys) (g.K.Keys.own_signature keys) (links_seen c.args.links) c.args.draft c.in_ok-parts.parts c.in_ok-event.event.event c.in_ok-parts.ensures.parts c.in_ok-event.ensures.event

pub returns-clause-auth_events : goal.returns-clause-auth_events
returns-clause-auth_events g c =
    let keys = c.args.keys.now in
    auth_events-sealed (g.K.Keys.own_name keys) (g.K.Keys.own_key keys) (g.K.Keys.own_signature keys) (links_seen c.args.links) c.args.draft c.in_ok-parts.parts c.in_ok-event.event.event c.in_ok-parts.ensures.parts c.in_ok-event.ensures.event
