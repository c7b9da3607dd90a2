use Rattle.std.proofs.Common.{◌≡◌, ◌+◌, ◌∙◌, ℕ, List, Bool, Option, length, map, take, subst, sym, ap, arith}
use Rattle.std.specs.FinMap as finite
use Rattle.std.specs.List.{filter_map}
use Rattle.fed_room_contract.specs.Entry.{seen}
use Rattle.fed_resolve.specs.Marks.{AreMarks}
use Rattle.fed_room_contract.specs.State.{StateKey}
use Rattle.fed_resolve.specs.ChainParts.{or_among}
use Rattle.fed_resolve.specs.ConflictParts.{is_disputed_in, disputed_place, disputed_beside}
use Rattle.fed_resolve.proofs.Marks.{written}
use Rattle.fed_resolve.proofs.Differences.{disputed-more, disputed-beside}
use Rattle.fed_resolve.proofs.difference.conflicted.Goals as goal

pub loop-state-preserved : goal.loop-state-preserved
loop-state-preserved c =
    let events = c.args.graph.now.stored in
    let states = c.args.states.now in
    let state = c.state-item.result in
    let entries : map seen c.deref.result.now ≡ finite.entries state = ap (map seen) c.deref.ensures.value ∙ c.in_ok-entries.ensures in
    let same : disputed_beside events c.args.agreed.now ≡ disputed_place events states = ap (disputed_beside events) c.requires ∙ disputed-beside events states (omega (arith, c.loop-state-test.true)) in
    let long : length c.mark_disputed.new.marks ≡ c.loop-state.marks.len =
    omega (arith, c.mark_disputed.ensures.long, c.loop-state.invariant.long, ap length c.deref_mut.ensures.value, c.deref_mut.ensures.len) in
    subst (λ (marks : List Bool). AreMarks (length events) (is_disputed_in events states (take (c.loop-state.state-index + 1) states)) marks) (sym (written c.loop-state.marks.len c.mark_disputed.new.marks c.loop-state.marks.items long))
    (disputed-more events states c.loop-state.state-index state c.loop-state-test.true c.state-item.is (map seen c.deref.result.now) entries c.deref_mut.result.now c.mark_disputed.new.marks
    (subst (λ (marks : List Bool). AreMarks (length events) (is_disputed_in events states (take c.loop-state.state-index states)) marks) (sym c.deref_mut.ensures.value) c.loop-state.invariant)
    (subst (λ (place : StateKey × List ℕ → Option ℕ). AreMarks (length events) (or_among (filter_map place (map seen c.deref.result.now)) c.deref_mut.result.now) c.mark_disputed.new.marks) same c.mark_disputed.ensures))
