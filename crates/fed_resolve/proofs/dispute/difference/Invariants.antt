use Rattle.std.proofs.Common.{◌≡◌, ◌<◌, ◌||◌, ◌&&◌, ℕ, length, map}
use Rattle.fed_room_contract.specs.Entry.{seen}
use Rattle.fed_resolve.specs.ChainParts.{is_marked}
use Rattle.fed_resolve.specs.KeptParts.{own_and_common}
use Rattle.fed_resolve.proofs.Between.{is_in_some, is_in_every}
use Rattle.fed_resolve.proofs.dispute.difference.Given as goal

-- what is marked, and what is in the full chains of some and of every state that is left
abbrev pub invariant-loop-left : goal.invariant-loop-left
invariant-loop-left l = record {
  long_some : length l.some.items ≡ length l.graph.stored;
  long_every : length l.every.items ≡ length l.graph.stored;
  some : (q : ℕ) → q < length l.graph.stored
      → (is_marked l.some.items q || is_in_some l.graph.stored (own_and_common l.graph.stored l.steps.after (map seen l.disputed) l.common) l.left q)
      ≡ is_in_some l.graph.stored (own_and_common l.graph.stored l.steps.after (map seen l.disputed) l.common) l.places q;
  every : (q : ℕ) → q < length l.graph.stored
      → (is_marked l.every.items q && is_in_every l.graph.stored (own_and_common l.graph.stored l.steps.after (map seen l.disputed) l.common) l.left q)
      ≡ is_in_every l.graph.stored (own_and_common l.graph.stored l.steps.after (map seen l.disputed) l.common) l.places q;
}

abbrev pub decreases-loop-left : goal.decreases-loop-left
decreases-loop-left l = length l.left
