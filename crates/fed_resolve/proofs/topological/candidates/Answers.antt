use Rattle.std.proofs.Common.{◌≡◌, ◌<◌, ◌++◌, ℕ, List, length, map, drop, append_assoc, subst, sym, ap, ◌∙◌}
use Rattle.std.proofs.lemmas.List.{take-append-drop}
use Rattle.std.proofs.lemmas.List.Elements.{All-drop, All-same}
use Rattle.fed_resolve.specs.OrderParts.{candidate_place}
use Rattle.fed_resolve.specs.MaskParts.{AreSetMasks}
use Rattle.fed_resolve.proofs.Turns.{set-masks}
use Rattle.fed_resolve.proofs.topological.candidates.Goals as goal

pub add_candidates-requires-clause-masks : goal.add_candidates-requires-clause-masks
add_candidates-requires-clause-masks c =
    let events = c.args.graph.now.stored in
    let turn = c.split_at.result.0.now in
    subst (λ (ms : List ℕ). AreSetMasks events turn c.args.set.now ms) (sym c.deref.ensures.value)
    (set-masks events turn c.args.set.now c.in_ok-masks.masks.items c.least_of-least.result c.least_of-least.ensures c.requires c.in_ok-masks.ensures)

pub loop-left-preserved : goal.loop-left-preserved
loop-left-preserved c =
    let events = c.args.graph.now.stored in
    let left : List ℕ = c.loop-left.left.now in
    let turn : List ℕ = c.split_at.result.0.now in
    let others : List ℕ = c.split_at.result.1.now in
    let before : List ℕ = map candidate_place c.loop-left.candidates.items in
    let cut : turn ++ others ≡ left = (λ i. c.split_at.ensures.front i ++ c.split_at.ensures.back i) ∙ take-append-drop c.min.result left in
    record {
      places = ap (λ ps. ps ++ others) c.in_ok-add_candidates.ensures.places ∙ append_assoc before turn others ∙ ap (λ ps. before ++ ps) cut ∙ c.loop-left.invariant.places;
      each = c.in_ok-add_candidates.ensures.each;
      within = All-same (λ p. p < length events) others (drop c.min.result left) c.split_at.ensures.back (All-drop (λ p. p < length events) c.min.result left c.loop-left.invariant.within);
    }
