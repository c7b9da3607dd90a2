use Rattle.std.proofs.Common.{◌≡◌, ◌<◌, ◌+◌, ◌*◌, ◌%◌, ◌^◌, ℕ, List, Some, length, refl, subst, sym, ap, ◌∙◌, arith}
use Rattle.std.specs.List.{slice_get}
use Rattle.std.proofs.lemmas.List.{length-map}
use Rattle.std.proofs.lemmas.Nat.{one_shl}
use Rattle.std.proofs.lemmas.Option.{slice_get_read}
use Rattle.fed_room_contract.specs.State.{StateMap}
use Rattle.fed_resolve.specs.ChainParts.{AreClosedFrom}
use Rattle.fed_resolve.specs.ConflictParts.{places_of_state}
use Rattle.fed_resolve.specs.MaskParts.{AreMasked, AreFirstMasks, AreChainMasks, bit_marks, has_bit, is_auth_of}
use Rattle.fed_resolve.proofs.Marks.{written}
use Rattle.fed_resolve.proofs.MaskWords.{first-more, chain-masks}
use Rattle.fed_resolve.proofs.difference.state_chains.Goals as goal

pub loop-index-preserved : goal.loop-index-preserved
loop-index-preserved c =
    let events = c.args.graph.now.stored in
    let states = c.args.states.now in
    let index : ℕ = c.loop-index.index in
    let state : StateMap = c.index-states-index.result in
    let word : ℕ = (1 * 2 ^ index) % 2 ^ 64 in
    let old : List ℕ = c.loop-index.masks.items in
    let new : List ℕ = c.mask_auths_of.new.masks in
    let long : length new ≡ c.loop-index.masks.len =
    omega (arith, c.mask_auths_of.ensures.long, c.loop-index.invariant.long, ap length c.deref_mut.ensures.value, c.deref_mut.ensures.len) in
    let few : index < 64 = omega (arith, c.requires, c.loop-index-test.true) in
    let here : slice_get states index ≡ Some state = slice_get_read states (length states) index state refl c.loop-index-test.true c.index-states-index.is in
    let masked : AreMasked (length events) (is_auth_of events (places_of_state events state)) word old new =
    subst (λ (ps : List ℕ). AreMasked (length events) (is_auth_of events ps) word old new) (c.deref.ensures.value ∙ c.in_ok-places.ensures.places)
    (subst (λ (ms : List ℕ). AreMasked (length events) (is_auth_of events c.deref.result.now) word ms new) c.deref_mut.ensures.value c.mask_auths_of.ensures) in
    subst (λ (ms : List ℕ). AreFirstMasks {X = StateMap} events (places_of_state events) states (index + 1) ms) (sym (written c.loop-index.masks.len new old long))
    (first-more events (places_of_state events) states index state word old new here (one_shl index 64 few) c.loop-index.invariant masked)

pub returns : goal.returns
returns c =
    let events = c.args.graph.now.stored in
    let states = c.args.states.now in
    let old : List ℕ = c.loop-index.masks.items in
    let new : List ℕ = c.carry_down.new.masks in
    let whole : c.loop-index.index ≡ length states = omega arith in
    let closed : (bit : ℕ) → AreClosedFrom events 0 (bit_marks bit old) (bit_marks bit new) =
    λ bit. subst (λ (ms : List ℕ). AreClosedFrom events 0 (bit_marks bit ms) (bit_marks bit new)) c.deref_mut-2.ensures.value (c.carry_down.ensures bit) in
    let count : length new ≡ length events = sym (length-map new (has_bit 0)) ∙ (closed 0).long in
    let long : length new ≡ c.loop-index.masks.len =
    omega (arith, count, c.loop-index.invariant.long, ap length c.deref_mut-2.ensures.value, c.deref_mut-2.ensures.len) in
    subst (λ (ms : List ℕ). AreChainMasks {X = StateMap} events (places_of_state events) states 0 ms) (sym (written c.loop-index.masks.len new old long))
    (chain-masks events (places_of_state events) states c.events.ensures.graph 0 old new (subst (λ (n : ℕ). AreFirstMasks {X = StateMap} events (places_of_state events) states n old) whole c.loop-index.invariant) count closed)
