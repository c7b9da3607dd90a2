use Rattle.std.proofs.Common.{rules, ◌≡◌, map, List, ℕ, suc, ◌+◌, ◌<◌, length, false, Option, Some, None, get_or, refl, sym, ap, ◌∙◌, subst, arith, add-one, eq-eqb, true≢false, nat_eq}
use Rattle.std.specs.Option.{option_eq}
use Rattle.std.proofs.lemmas.List.{length-map, get_or-map, set-get_or}
use Rattle.fed_event.specs.Event.{Event}
use Rattle.fed_room_contract.specs.Graph.{named_by}
use Rattle.fed_room_contract.specs.LackParts.{lack_among, lack_of, AreRight}
use Rattle.fed_room_contract.proofs.LackLists.{right_length, all_right, one_more_right, set_right}
use Rattle.fed_room_contract.proofs.lacks.renew.Goals as goal
use Rattle.fed_room_contract.proofs.lacks.renew.Goals.{then-eq, else-eq}

not_equal : (lack : Option ℕ) (tag : ℕ) → option_eq nat_eq lack (Some tag) ≡ false → lack ≡ Some tag → ⊥
not_equal lack tag h is = true≢false (sym (ap (λ (o : Option ℕ). option_eq nat_eq o (Some tag)) is ∙ eq-eqb tag tag refl) ∙ h)

pub bounds-waiting-place : goal.bounds-waiting-place
bounds-waiting-place c =
    let long = right_length _ _ _ _ c.loop-place.invariant ∙ length-map c.args.waiting.now (lack_of c.args.graph.now.stored) in
    omega arith

pub offset_bounds-waiting-place : goal.offset_bounds-waiting-place
offset_bounds-waiting-place c =
    let long : length c.loop-place.lacks ≡ length c.args.waiting.now = right_length _ _ _ _ c.loop-place.invariant ∙ length-map c.args.waiting.now (lack_of c.args.graph.now.stored) in
    search rules

pub loop-place-preserved : goal.loop-place-preserved
loop-place-preserved c =
    let stored = c.args.graph.now.stored in
    let waiting = c.args.waiting.now in
    let rights = map (lack_of stored) waiting in
    let lacks = c.loop-place.lacks in
    let place = c.loop-place.place in
    let long : length lacks ≡ length waiting = right_length _ _ _ _ c.loop-place.invariant ∙ length-map waiting (lack_of stored) in
    let below : place < length waiting = omega arith in
    let next : (ls : List (Option ℕ)) → c.if-eq.lacks ≡ ls → AreRight (suc place) c.args.tag rights ls → AreRight (place + 1) c.args.tag rights c.if-eq.lacks =
    λ ls is h. subst (λ (xs : List (Option ℕ)). AreRight (place + 1) c.args.tag rights xs) (sym is) (subst (λ (n : ℕ). AreRight n c.args.tag rights ls) (sym (add-one place)) h) in
    elim c.if-eq.branch [
      | then-eq w ↦
          let event = w.index-waiting-place.result in
          let right : w.lack_of.result ≡ get_or rights place w.lack_of.result =
          w.lack_of.ensures.lack ∙ ap (λ (e : Event). lack_among stored (named_by e)) w.event.ensures.event ∙ ap (lack_of stored) w.index-waiting-place.is ∙ sym (get_or-map (lack_of stored) waiting place event w.lack_of.result below) in
          next _ w.lacks-is (set_right place c.args.tag rights lacks w.lack_of.result c.loop-place.invariant right)
      | else-eq w ↦
          let other : get_or lacks place None ≡ Some c.args.tag → ⊥ = not_equal _ _ (sym c.eq.ensures ∙ w.if-eq.false) in
          next _ (w.lacks-is ∙ set-get_or lacks place None) (one_more_right place c.args.tag rights lacks c.loop-place.invariant other)
    ]

pub returns : goal.returns
returns c = all_right _ _ _ _ c.loop-place.invariant (omega arith)
