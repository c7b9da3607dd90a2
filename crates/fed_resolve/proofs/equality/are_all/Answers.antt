use Rattle.std.proofs.Common.{◌≡◌, ◌+◌, ℕ, List, map, take, get_or, refl, sym, ap, ◌∙◌}
use Rattle.std.specs.FinMap as finite
use Rattle.std.proofs.lemmas.List.{take_more}
use Rattle.std.proofs.lemmas.List.Elements.{All-push, All-same}
use Rattle.fed_room_contract.specs.Entry.{seen}
use Rattle.fed_room_contract.specs.State.{StateMap}
use Rattle.fed_resolve.proofs.equality.are_all.Goals as goal

pub loop-other-preserved : goal.loop-other-preserved
loop-other-preserved c =
    let states : List StateMap = c.args.states.now in
    let state : StateMap = c.args.state.now in
    let other : StateMap = c.other-item.result in
    let index : ℕ = c.loop-other.other-index in
    let same : finite.entries other ≡ finite.entries state =
    sym (ap (map seen) c.deref.ensures.value ∙ c.in_ok-others.ensures) ∙ c.if-not-have_same_parts.ensures refl ∙ ap (map seen) c.deref-in-loop-other.ensures.value ∙ c.in_ok-entries.ensures in
    let here : get_or states index other ≡ state = sym c.other-item.is ∙ finite.same_entries_map other state same in
    All-same (λ (it : StateMap). it ≡ state) (take (index + 1) states) _ (take_more states index other c.loop-other-test.true)
    (All-push (λ (it : StateMap). it ≡ state) (take index states) (get_or states index other) c.loop-other.invariant here)
