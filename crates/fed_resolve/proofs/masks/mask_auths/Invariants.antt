use Rattle.std.proofs.Common.{length, take}
use Rattle.fed_resolve.specs.Order.{is_among}
use Rattle.fed_resolve.specs.MaskParts.{AreMasked}
use Rattle.fed_resolve.proofs.masks.mask_auths.Given as goal

-- the auth events so far
abbrev pub invariant-loop-auth : goal.invariant-loop-auth
invariant-loop-auth l = AreMasked (length l.graph.stored) (is_among (take l.auth-index l.auth-items)) l.bits l.fn.masks l.masks
