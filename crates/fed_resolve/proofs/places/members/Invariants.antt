use Rattle.std.proofs.Common.{◌≡◌, ◌<◌, All, filter, length}
use Rattle.fed_resolve.specs.Chain.{places_below}
use Rattle.fed_resolve.specs.ChainParts.{is_marked}
use Rattle.fed_resolve.proofs.places.members.Given as goal

-- those that are marked of the places so far
abbrev pub invariant-loop-place : goal.invariant-loop-place
invariant-loop-place l = record {
  so_far : l.places.items ≡ filter (is_marked l.marks) (places_below l.place);
  within : All (λ place. place < length l.marks) l.places.items;
}
