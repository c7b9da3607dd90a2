use Rattle.std.proofs.Common.{◌∙◌, ap, position}
use Rattle.std.specs.Option.{is_none}
use Rattle.fed_room_contract.specs.Graph.{is_ready}
use Rattle.fed_room_contract.specs.Store.{StoreState}
use Rattle.fed_room_contract.proofs.LackLists.{first_none-ready}
use Rattle.fed_room_contract.proofs.Stores.{first_place}
use Rattle.fed_room_contract.proofs.store.EventStore.first_ready.Goals as goal

pub returns : goal.returns
returns c =
    first_place c.args.self.now.room c.first_none.result
    (c.first_none.ensures ∙ ap (position is_none) c.deref.ensures.value
    ∙ ap (position is_none) c.self.invariant.lacks ∙ first_none-ready c.self.inside.graph.stored c.self.inside.waiting.items
    ∙ ap (λ (s : StoreState). position (λ event. is_ready s.room.stored event.event) s.room.waiting) c.self.view_is)
