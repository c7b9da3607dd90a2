use Rattle.std.proofs.Common.{All, take}
use Rattle.fed_hub_kept.specs.Received.{IsGiven}
use Rattle.fed_hub_kept.proofs.received.are_given.Given as goal

-- the threads so far
abbrev pub invariant-loop-token : goal.invariant-loop-token
invariant-loop-token g l = All (IsGiven l.rooms) (take l.token-index l.tokens)
