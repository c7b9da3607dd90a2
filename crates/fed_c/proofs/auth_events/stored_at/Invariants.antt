use Rattle.std.proofs.Common.{◌≡◌, drop}
use Rattle.fed_room_contract.specs.Graph.{stored_at}
use Rattle.fed_c.proofs.auth_events.stored_at.Given as goal

-- what is left decides
abbrev pub invariant-loop-stored : goal.invariant-loop-stored
invariant-loop-stored l = stored_at l.given l.id ≡ stored_at (drop l.stored-index l.given) l.id
