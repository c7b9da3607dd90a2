use Rattle.std.proofs.Common.{◌≡◌, ◌+◌, ◌≤◌, ◌++◌, ◌∷◌, length, replicate}
use Rattle.std.specs.Prelude.{vec_capacity}
use Rattle.fed_room_contract.specs.declared.input.Input.TheVariants.{Receive, Advance}
use Rattle.fed_hub_state.proofs.kept_room.keep.Given as goal

-- the event and the first of the advances are kept, and there is room for the others
abbrev pub invariant-loop : goal.invariant-loop
invariant-loop l =
    (l.inputs.items ≡ l.fn.inputs.items ++ Receive l.fn.event ∷ replicate l.counter Advance)
    × (length l.inputs.items + l.advances ≤ vec_capacity l.inputs + l.counter)
