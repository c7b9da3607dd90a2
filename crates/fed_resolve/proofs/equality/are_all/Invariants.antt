use Rattle.std.proofs.Common.{◌≡◌, All, take}
use Rattle.fed_resolve.proofs.equality.are_all.Given as goal

-- the states so far are equal
abbrev pub invariant-loop-other : goal.invariant-loop-other
invariant-loop-other l = All (λ other. other ≡ l.state) (take l.other-index l.states)
