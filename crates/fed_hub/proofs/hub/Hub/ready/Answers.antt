use Rattle.std.proofs.Common.{◌≡◌, ◌<◌, ℕ, length, get_or, ap, ◌∙◌, subst}
use Rattle.std.specs.Result.{IfOk}
use Rattle.fed_dest.specs.Joined.{is_destination}
use Rattle.fed_dest.specs.ServerSet.{is_among}
use Rattle.fed_room.specs.Room.{RoomValue, room_of}
use Rattle.fed_room_contract.specs.Prepared.{PreparedEvent}
use Rattle.fed_hub.specs.declared.ready.Ready.{Ready}
use Rattle.fed_hub.specs.Hub.{HubShape}
use Rattle.fed_hub.specs.Ready.{IsReadyFor}
use Rattle.fed_hub.proofs.Destined.{places_within}
use Rattle.fed_hub.proofs.Readied.{ready_for}
use Rattle.fed_hub.proofs.hub.Hub.ready.Goals as goal

pub returns-clause-ready : goal.returns-clause-ready
returns-clause-ready g c =
    let events = (room_of c.args.room.now.room).stored in
    let servers = c.args.self.now.list in
    let own = c.args.self.now.own in
    let dests = c.in_ok-dests.dests in
    let draft = c.in_ok-draft.field-0 in
    let stored = c.graph-graph.ensures ∙ ap (λ (r : RoomValue). (room_of r).stored) c.room.ensures in
    let before = c.state_before-before.ensures in
    let list = ap (λ (h : HubShape). h.list) c.self.view_is in
    let place_of_own = ap (λ (h : HubShape). h.own) c.self.view_is in
    let are : (place : ℕ) → is_among dests place ≡ is_destination events c.args.prepared.before servers own place =
    λ place. c.in_ok-dests.ensures place ∙ (λ i. is_destination (stored i) (before i) (list i) (place_of_own i) place) in
    ready_for events servers own (length g.N.Naming.wires) c.args.prepared c.args.draft draft c.reserve_event.new.self dests c.new.result c.in_ok-draft.was are
    (λ k d within. subst (λ n. get_or dests k d < n) c.self.invariant.0 (places_within _ _ _ _ dests c.in_ok-dests.ensures k d within)) c.in_ok-reserve_event.ensures.ok
    (subst (λ (p : PreparedEvent). IfOk c.new.result (λ (r : Ready). IsReadyFor p dests draft r)) c.prepared.view_is c.new.ensures)
