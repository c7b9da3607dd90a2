use Rattle.std.proofs.Common.{◌+◌, ◌||◌, length, get_or, take, sym}
use Rattle.std.proofs.lemmas.List.Folds.{list_any_more}
use Rattle.fed_resolve.specs.Chain.{auths_at}
use Rattle.fed_resolve.specs.ChainParts.{is_auth}
use Rattle.fed_resolve.specs.Order.{is_among}
use Rattle.fed_resolve.specs.MaskParts.{is_auth_of}
use Rattle.fed_resolve.proofs.MaskWords.{masked-both, masked-same}
use Rattle.fed_resolve.proofs.masks.mask_auths_of.Goals as goal

pub loop-place-preserved : goal.loop-place-preserved
loop-place-preserved c =
    let events = c.args.graph.now.stored in
    let places = c.args.places.now in
    let index = c.loop-place.place-index in
    let here = is_among (auths_at events (get_or places index 0)) in
    masked-same (length events) c.args.bits (λ q. is_auth_of events (take index places) q || here q) (is_auth_of events (take (index + 1) places)) c.args.masks.now c.mask_auths.new.masks
    (λ q. sym (list_any_more (λ p. is_auth events p q) places index 0 c.loop-place-test.true))
    (masked-both (length events) c.args.bits (is_auth_of events (take index places)) here c.args.masks.now c.loop-place.masks c.mask_auths.new.masks c.loop-place.invariant c.mask_auths.ensures)
