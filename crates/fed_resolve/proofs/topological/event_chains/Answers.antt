use Rattle.std.proofs.Common.{◌≡◌, ◌<◌, ◌+◌, ◌*◌, ◌%◌, ◌^◌, ℕ, List, length, get_or, subst, sym, ap, ◌∙◌, arith}
use Rattle.std.proofs.lemmas.List.{length-map}
use Rattle.std.proofs.lemmas.Nat.{one_shl}
use Rattle.std.proofs.lemmas.Option.{slice_get-get_or}
use Rattle.fed_resolve.specs.Chain.{auths_at}
use Rattle.fed_resolve.specs.ChainParts.{AreClosedFrom, is_auth}
use Rattle.fed_resolve.specs.Order.{is_among}
use Rattle.fed_resolve.specs.MaskParts.{AreMasked, AreFirstMasks, AreChainMasks, bit_marks, has_bit, is_auth_of, itself_alone}
use Rattle.fed_resolve.proofs.Marks.{written}
use Rattle.fed_resolve.proofs.MaskWords.{masked-same, first-more, chain-masks, or_false}
use Rattle.fed_resolve.proofs.topological.event_chains.Goals as goal

pub loop-index-preserved : goal.loop-index-preserved
loop-index-preserved c =
    let events = c.args.graph.now.stored in
    let places = c.args.places.now in
    let index : ℕ = c.loop-index.index in
    let place : ℕ = get_or places index 0 in
    let word : ℕ = (1 * 2 ^ index) % 2 ^ 64 in
    let old : List ℕ = c.loop-index.masks.items in
    let new : List ℕ = c.mask_auths.new.masks in
    let long : length new ≡ c.loop-index.masks.len =
    omega (arith, c.mask_auths.ensures.long, c.loop-index.invariant.long, ap length c.deref_mut.ensures.value, c.deref_mut.ensures.len) in
    let few : index < 64 = omega (arith, c.requires.few, c.loop-index-test.true) in
    let masked : AreMasked (length events) (is_among (auths_at events place)) word old new =
    subst (λ (ms : List ℕ). AreMasked (length events) (is_among (auths_at events place)) word ms new) c.deref_mut.ensures.value c.mask_auths.ensures in
    subst (λ (ms : List ℕ). AreFirstMasks {X = ℕ} events itself_alone places (index + 1) ms) (sym (written c.loop-index.masks.len new old long))
    (first-more events itself_alone places index place word old new (slice_get-get_or places index 0 c.loop-index-test.true) (one_shl index 64 few) c.loop-index.invariant
    (masked-same (length events) word (is_among (auths_at events place)) (is_auth_of events (itself_alone place)) old new (λ q. sym (or_false (is_auth events place q))) masked))

pub returns : goal.returns
returns c =
    let events = c.args.graph.now.stored in
    let places = c.args.places.now in
    let old : List ℕ = c.loop-index.masks.items in
    let new : List ℕ = c.carry_down.new.masks in
    let whole : c.loop-index.index ≡ length places = omega arith in
    let closed : (bit : ℕ) → AreClosedFrom events c.args.to (bit_marks bit old) (bit_marks bit new) =
    λ bit. subst (λ (ms : List ℕ). AreClosedFrom events c.args.to (bit_marks bit ms) (bit_marks bit new)) c.deref_mut-2.ensures.value (c.carry_down.ensures bit) in
    let count : length new ≡ length events = sym (length-map new (has_bit 0)) ∙ (closed 0).long in
    let long : length new ≡ c.loop-index.masks.len =
    omega (arith, count, c.loop-index.invariant.long, ap length c.deref_mut-2.ensures.value, c.deref_mut-2.ensures.len) in
    subst (λ (ms : List ℕ). AreChainMasks {X = ℕ} events itself_alone places c.args.to ms) (sym (written c.loop-index.masks.len new old long))
    (chain-masks events itself_alone places c.events.ensures.graph c.args.to old new (subst (λ (n : ℕ). AreFirstMasks {X = ℕ} events itself_alone places n old) whole c.loop-index.invariant) count closed)
