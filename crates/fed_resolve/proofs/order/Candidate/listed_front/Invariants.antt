use Rattle.fed_resolve.specs.OrderParts.{IsListedFront}
use Rattle.fed_resolve.proofs.order.Candidate.listed_front.Given as goal

-- the places so far are listed
abbrev pub invariant-loop-index : goal.invariant-loop-index
invariant-loop-index g l = IsListedFront l.is_listed l.self.after.items l.index
