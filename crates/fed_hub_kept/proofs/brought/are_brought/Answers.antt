use Rattle.std.proofs.Common.{◌≡◌, ◌+◌, ◌++◌, List, [], length, drop, map, string_bytes, All, sym, ap, ◌∙◌, subst}
use Rattle.std.proofs.lemmas.Bool.{false≢true}
use Rattle.std.proofs.lemmas.List.{drop_all}
use Rattle.std.specs.Borrow.{Bor}
use Rattle.fed_event.specs.Checked.{CheckedEvent}
use Rattle.fed_inbox.specs.History.{brought}
use Rattle.fed_hub_kept.specs.Received.{received}
use Rattle.fed_room_contract.specs.declared.input.Input.{Input}
use Rattle.fed_hub_kept.specs.Unfound.{AreFronts, place_in}
use Rattle.fed_hub_kept.proofs.Arrivals.{both, brought_from, fronts_of_none, fronts_of_known, written}
use Rattle.fed_hub_kept.proofs.brought.are_brought.Goals as goal

pub returns-then-not-take_all : goal.returns-then-not-take_all
returns-then-not-take_all c =
    let points = c.args.points.now in
    let i = c.loop-point.point-index in
    let at = place_in c.in_ok-places.places in
    let here = brought_from points i c.point-item.result c.loop-point-test.true c.point-item.is ∙ ap (λ es. es ++ brought (drop (i + 1) points)) (sym c.fresh.ensures) in
    let known = fronts_of_known at (map string_bytes c.args.known.now) c.in_ok-places.ensures points c.args.rooms.now in (
      λ no. absurd (false≢true no),
      λ all.
          absurd (c.if-not-take_all.ensures (brought (drop (i + 1) points))
          (subst (λ ls. AreFronts at (c.fresh.result.now ++ brought (drop (i + 1) points)) (map (λ inputs. inputs.now) ls)) (sym c.deref_mut.ensures.value)
          (subst (λ es. AreFronts at es (map (λ inputs. inputs.now) c.loop-point.left.items)) here (c.loop-point.invariant.0 (known.1 all))))),
    )

pub loop-point-preserved : goal.loop-point-preserved
loop-point-preserved c =
    let points = c.args.points.now in
    let i = c.loop-point.point-index in
    let at = place_in c.in_ok-places.places in
    let left = c.loop-point.left.items in
    let here = brought_from points i c.point-item.result c.loop-point-test.true c.point-item.is ∙ ap (λ es. es ++ brought (drop (i + 1) points)) (sym c.fresh.ensures) in
    let value = c.deref_mut.ensures.value in
    let new = written left c.take_all.new.left c.loop-point.left.len (ap length (sym value) ∙ c.deref_mut.ensures.len) (c.take_all.auto.left ∙ ap length value) in
    let Brought : List CheckedEvent → Type 0 = λ es. AreFronts at es (map (λ inputs. inputs.now) left) in
    let Left : List (Bor (List Input)) → Type 0 = λ ls. AreFronts at (c.fresh.result.now ++ brought (drop (i + 1) points)) (map (λ inputs. inputs.now) ls) in
    let Later : List (Bor (List Input)) → Type 0 = λ ls. AreFronts at (brought (drop (i + 1) points)) (map (λ inputs. inputs.now) ls) in
    both c.loop-point.invariant
    (both ((λ a. subst Left (sym value) (subst Brought here a)), (λ a. subst Brought (sym here) (subst Left value a)))
    (both (c.if-not-take_all.ensures (brought (drop (i + 1) points))) ((λ a. subst Later (sym new) a), (λ a. subst Later new a))))

pub returns : goal.returns
returns c =
    let points = c.args.points.now in
    let at = place_in c.in_ok-places.places in
    let left = c.loop-point.left.items in
    let none = ap brought (drop_all c.loop-point.point-index points c.loop-point-test.false) in
    let known = fronts_of_known at (map string_bytes c.args.known.now) c.in_ok-places.ensures points c.args.rooms.now in
    let Brought : List CheckedEvent → Type 0 = λ es. AreFronts at es (map (λ inputs. inputs.now) left) in
    let Left : List (Bor (List Input)) → Type 0 = λ ls. All (λ inputs. received inputs.now ≡ []) ls in
    let nothing = fronts_of_none at left in
    let value = c.deref.ensures.value in (
      (λ yes. known.0 (c.loop-point.invariant.1 (subst Brought (sym none) (nothing.1 (subst Left value (c.is_nothing_left.ensures.0 yes)))))),
      (λ all. c.is_nothing_left.ensures.1 (subst Left (sym value) (nothing.0 (subst Brought none (c.loop-point.invariant.0 (known.1 all)))))),
    )
