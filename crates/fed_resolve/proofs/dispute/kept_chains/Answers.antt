use Rattle.std.proofs.Common.{◌≡◌, ◌<◌, ◌+◌, ◌-◌, ◌*◌, ◌/◌, ◌%◌, ◌^◌, ◌++◌, ℕ, List, Some, length, get_or, map, take, drop, subst, sym, ap, ◌∙◌, arith}
use Rattle.std.specs.List.{slice_get}
use Rattle.std.proofs.lemmas.List.{length-map}
use Rattle.std.proofs.lemmas.Nat.{one_shl}
use Rattle.std.proofs.lemmas.Nat.Bits.{ones_shr}
use Rattle.std.proofs.lemmas.Option.{slice_get-get_or}
use Rattle.fed_room_contract.specs.Entry.{seen}
use Rattle.fed_room_contract.specs.Steps.{state_at}
use Rattle.fed_resolve.specs.ChainParts.{AreClosedFrom}
use Rattle.fed_resolve.specs.KeptParts.{own_and_common, own_places}
use Rattle.fed_resolve.specs.MaskParts.{AreMasked, AreFirstMasks, AreChainMasks, bit_marks, has_bit, is_auth_of}
use Rattle.fed_resolve.proofs.Marks.{written}
use Rattle.fed_resolve.proofs.MaskWords.{first-more, first-all, chain-masks}
use Rattle.fed_resolve.proofs.dispute.kept_chains.Goals as goal

pub loop-index-preserved : goal.loop-index-preserved
loop-index-preserved c =
    let events = c.args.graph.now.stored in
    let places : List ℕ = c.args.places.now in
    let index : ℕ = c.loop-index.index in
    let place : ℕ = get_or places index 0 in
    let given : ℕ → List ℕ = λ p. own_places events (map seen c.args.disputed.now) (state_at c.args.steps.now.after p) in
    let word : ℕ = (1 * 2 ^ index) % 2 ^ 64 in
    let old : List ℕ = c.loop-index.masks.items in
    let new : List ℕ = c.mask_auths_of.new.masks in
    let long : length new ≡ c.loop-index.masks.len =
    omega (arith, c.mask_auths_of.ensures.long, c.loop-index.invariant.long, ap length c.deref_mut.ensures.value, c.deref_mut.ensures.len) in
    let few : index < 64 = omega (arith, c.requires.few, c.loop-index-test.true) in
    let here : slice_get places index ≡ Some place = slice_get-get_or places index 0 c.loop-index-test.true in
    let masked : AreMasked (length events) (is_auth_of events (given place)) word old new =
    subst (λ (ps : List ℕ). AreMasked (length events) (is_auth_of events ps) word old new) (c.deref.ensures.value ∙ c.in_ok-own.ensures.places)
    (subst (λ (ms : List ℕ). AreMasked (length events) (is_auth_of events c.deref.result.now) word ms new) c.deref_mut.ensures.value c.mask_auths_of.ensures) in
    subst (λ (ms : List ℕ). AreFirstMasks {X = ℕ} events given places (index + 1) ms) (sym (written c.loop-index.masks.len new old long))
    (first-more events given places index place word old new here (one_shl index 64 few) c.loop-index.invariant masked)

pub returns : goal.returns
returns c =
    let events = c.args.graph.now.stored in
    let places : List ℕ = c.args.places.now in
    let common : List ℕ = c.args.common.now in
    let given : ℕ → List ℕ = λ p. own_places events (map seen c.args.disputed.now) (state_at c.args.steps.now.after p) in
    let both : ℕ → List ℕ = own_and_common events c.args.steps.now.after (map seen c.args.disputed.now) common in
    let old : List ℕ = c.loop-index.masks.items in
    let more : List ℕ = c.mask_auths_of-2.new.masks in
    let new : List ℕ = c.carry_down.new.masks in
    let word : ℕ = 18446744073709551615 / 2 ^ (64 - length places) in
    let rest : 64 - (64 - length places) ≡ length places = omega (arith, c.requires.few) in
    let ones : word ≡ 2 ^ length places - 1 = ones_shr 64 (64 - length places) (omega arith) ∙ ap (λ n. 2 ^ n - 1) rest in
    let whole : c.loop-index.index ≡ length places = omega arith in
    let masked : AreMasked (length events) (is_auth_of events common) word old more =
    subst (λ (ms : List ℕ). AreMasked (length events) (is_auth_of events common) word ms more) c.deref_mut-2.ensures.value c.mask_auths_of-2.ensures in
    let firsts : AreFirstMasks {X = ℕ} events both places (length places) more =
    first-all events given places common word old more ones (subst (λ (n : ℕ). AreFirstMasks {X = ℕ} events given places n old) whole c.loop-index.invariant) masked in
    let long_more : length more ≡ c.loop-index.masks.len = omega (arith, masked.long, c.loop-index.invariant.long, ap length c.deref_mut-2.ensures.value, c.deref_mut-2.ensures.len) in
    let over : take c.loop-index.masks.len (more ++ drop (length more) old) ≡ more = written c.loop-index.masks.len more old long_more in
    let closed : (bit : ℕ) → AreClosedFrom events 0 (bit_marks bit more) (bit_marks bit new) =
    λ bit. subst (λ (ms : List ℕ). AreClosedFrom events 0 (bit_marks bit ms) (bit_marks bit new)) (c.deref_mut-3.ensures.value ∙ over) (c.carry_down.ensures bit) in
    let count : length new ≡ length events = sym (length-map new (has_bit 0)) ∙ (closed 0).long in
    let long : length new ≡ c.loop-index.masks.len = omega (arith, count, masked.long, long_more) in
    subst (λ (ms : List ℕ). AreChainMasks {X = ℕ} events both places 0 ms) (sym (written c.loop-index.masks.len new (take c.loop-index.masks.len (more ++ drop (length more) old)) long))
    (chain-masks events both places c.events.ensures.graph 0 more new firsts count closed)
