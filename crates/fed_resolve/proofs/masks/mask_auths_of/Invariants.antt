use Rattle.std.proofs.Common.{length, take}
use Rattle.fed_resolve.specs.MaskParts.{AreMasked, is_auth_of}
use Rattle.fed_resolve.proofs.masks.mask_auths_of.Given as goal

-- the auth events of the places so far
abbrev pub invariant-loop-place : goal.invariant-loop-place
invariant-loop-place l = AreMasked (length l.graph.stored) (is_auth_of l.graph.stored (take l.place-index l.places)) l.bits l.fn.masks l.masks
