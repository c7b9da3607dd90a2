-- The look-up that a `StateView` stands for.
use Rattle.fed_room_contract.specs.StateRef.{seen}
use Rattle.fed_auth.specs.declared.state_view.StateView.{StateView}
use Rattle.fed_auth.specs.declared.state_view.StateView.TheVariants.{Named, Listed}
use Rattle.fed_auth.specs.StateView.{Look, event_in, event_among}

abbrev pub look_of : StateView → Look
look_of (Named graph state) = event_in graph.now.stored (seen state)
look_of (Listed events) = event_among events.now
