use Rattle.std.proofs.Common.{◌≡◌, ◌+◌, ◌-◌, ◌∷◌, ℕ, List, take, drop, sym, ap, ◌∙◌, arith}
use Rattle.fed_room.specs.Links.{with_tip, by_depth}
use Rattle.fed_room.proofs.AtPlaces.{left_here}
use Rattle.fed_room.proofs.Tips.{first-tips}
use Rattle.fed_room.proofs.links.deepest.Goals as goal

pub loop-place-preserved : goal.loop-place-preserved
loop-place-preserved c =
    let events = c.args.graph.now.stored in
    let ids : List (List ℕ) = c.args.ids.now in
    let place = c.loop-place.place in
    let id = c.index-ids-place.result in
    let one : place - 1 + 1 ≡ place = omega arith in
    let here : drop (place - 1) ids ≡ id ∷ drop place ids = left_here ids (place - 1) id (omega arith) c.index-ids-place.is ∙ ap (λ n. id ∷ drop n ids) one in
    c.in_ok-add.ensures
    ∙ (λ i. take 20 (with_tip events (c.in_ok-copy.ensures i) (c.loop-place.invariant i)))
    ∙ first-tips events id 20 (by_depth events (drop place ids))
    ∙ ap (λ xs. take 20 (by_depth events xs)) (sym here)
