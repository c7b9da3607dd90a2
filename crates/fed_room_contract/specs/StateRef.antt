-- The state that a `StateRef` stands for.
use Rattle.fed_room_contract.specs.State.{StateMap}
use Rattle.fed_room_contract.specs.Steps.{state_at}
use Rattle.fed_room_contract.specs.declared.state_ref.StateRef.{StateRef}
use Rattle.fed_room_contract.specs.declared.state_ref.StateRef.TheVariants.{Whole, Kept}

abbrev pub seen : StateRef → StateMap
seen (Whole state) = state.now
seen (Kept steps place) = state_at steps.now.after place
