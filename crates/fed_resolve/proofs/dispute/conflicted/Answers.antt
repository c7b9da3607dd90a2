use Rattle.std.proofs.Common.{◌≡◌, ◌+◌, ◌||◌, ℕ, List, Bool, length, get_or, map, take, subst, sym, ap, ◌∙◌, arith}
use Rattle.std.proofs.lemmas.List.Folds.{list_any_more}
use Rattle.fed_room_contract.specs.Entry.{seen}
use Rattle.fed_room_contract.specs.State.{StateKey}
use Rattle.fed_room_contract.specs.Steps.{state_at}
use Rattle.fed_resolve.specs.ChainParts.{or_among}
use Rattle.fed_resolve.specs.KeptParts.{is_own_of_some, own_places}
use Rattle.fed_resolve.specs.Marks.{AreMarks}
use Rattle.fed_resolve.specs.Order.{is_among}
use Rattle.fed_resolve.proofs.Marks.{written}
use Rattle.fed_resolve.proofs.dispute.conflicted.Goals as goal

pub loop-place-preserved : goal.loop-place-preserved
loop-place-preserved c =
    let events = c.args.graph.now.stored in
    let after = c.args.steps.now.after in
    let es : List (StateKey × List ℕ) = map seen c.args.disputed.now in
    let places : List ℕ = c.args.places.now in
    let index : ℕ = c.loop-place.place-index in
    let own : List ℕ = own_places events es (state_at after (get_or places index 0)) in
    let old : List Bool = c.loop-place.marks.items in
    let new : List Bool = c.mark_all.new.marks in
    let before : AreMarks (length events) (is_own_of_some events after es (take index places)) old = c.loop-place.invariant in
    let marked : AreMarks (length old) (or_among own old) new =
    subst (λ (ps : List ℕ). AreMarks (length old) (or_among ps old) new) (c.deref.ensures.value ∙ c.in_ok-own.ensures.places)
    (subst (λ (ms : List Bool). AreMarks (length ms) (or_among c.deref.result.now ms) new) c.deref_mut.ensures.value c.mark_all.ensures) in
    let long : length new ≡ c.loop-place.marks.len = omega (arith, marked.long, ap length c.deref_mut.ensures.value, c.deref_mut.ensures.len) in
    subst (λ (ms : List Bool). AreMarks (length events) (is_own_of_some events after es (take (index + 1) places)) ms) (sym (written c.loop-place.marks.len new old long))
    (record {
      long = marked.long ∙ before.long;
      each = λ q below.
          marked.each q (omega (arith, before.long, below)) ∙ ap (λ b. b || is_among own q) (before.each q below)
          ∙ sym (list_any_more (λ p. is_among (own_places events es (state_at after p)) q) places index 0 c.loop-place-test.true);
    })
