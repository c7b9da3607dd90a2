use Rattle.std.proofs.Common.{◌≡◌, filter, get_or, take}
use Rattle.fed_resolve.specs.MaskParts.{has_bit}
use Rattle.fed_resolve.proofs.topological.with_bit.Given as goal

-- what of the set so far has the bit
abbrev pub invariant-loop-place : goal.invariant-loop-place
invariant-loop-place l = l.places.items ≡ filter (λ place. has_bit l.bit (get_or l.masks place 0)) (take l.place-index l.set)
