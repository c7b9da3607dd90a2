use Rattle.std.proofs.Common.{◌≡◌, ℕ, List, length, take, subst, ◌∙◌, arith}
use Rattle.std.proofs.lemmas.List.{take_all}
use Rattle.fed_resolve.specs.Chain.{auths_at}
use Rattle.fed_resolve.specs.Order.{is_among}
use Rattle.fed_resolve.specs.MaskParts.{AreMasked}
use Rattle.fed_resolve.proofs.MaskWords.{masked-more}
use Rattle.fed_resolve.proofs.masks.mask_auths.Goals as goal

pub loop-auth-preserved : goal.loop-auth-preserved
loop-auth-preserved c =
    let auths : List ℕ = c.auth_places-auth-items.result.now in
    let index : ℕ = c.loop-auth.auth-index in
    masked-more (length c.args.graph.now.stored) c.args.bits auths c.args.masks.now c.loop-auth.masks index c.loop-auth-test.true (c.auth_places-auth-items.ensures.within index 0 c.loop-auth-test.true) c.loop-auth.invariant

pub returns : goal.returns
returns c =
    let events = c.args.graph.now.stored in
    let auths : List ℕ = c.auth_places-auth-items.result.now in
    let whole : take c.loop-auth.auth-index auths ≡ auths_at events c.args.place = take_all c.loop-auth.auth-index auths (omega arith) ∙ c.auth_places-auth-items.ensures.places in
    subst (λ (ps : List ℕ). AreMasked (length events) (is_among ps) c.args.bits c.args.masks.now c.loop-auth.masks) whole c.loop-auth.invariant
