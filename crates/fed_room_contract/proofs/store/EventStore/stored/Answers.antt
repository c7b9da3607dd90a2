use Rattle.std.proofs.Common.{◌≡◌, true, IfSome, subst}
use Rattle.fed_room_contract.specs.Graph.{is_ready}
use Rattle.fed_room_contract.specs.Store.{StoreState}
use Rattle.fed_room_contract.proofs.Stores.{found_ready}
use Rattle.fed_room_contract.proofs.store.EventStore.stored.Goals as goal

pub returns-clause-ready : goal.returns-clause-ready
returns-clause-ready c =
    subst (λ (r : StoreState). IfSome c.get.result (λ s. is_ready r.room.stored s.now.event.event ≡ true)) c.self.view_is
    (found_ready (λ s. s.now) c.self.inside.graph.stored c.args.id.now c.get.result c.self.invariant.graph c.get.ensures)
