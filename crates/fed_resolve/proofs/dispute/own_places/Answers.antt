use Rattle.std.proofs.Common.{◌≡◌, ◌<◌, ◌+◌, ◌++◌, ◌∷◌, [], ℕ, List, All, length, map, take, append-nil, subst, sym, ap, ◌∙◌}
use Rattle.std.proofs.lemmas.List.Elements.{All-push}
use Rattle.std.specs.List.{cons_option}
use Rattle.fed_room_contract.specs.Entry.{seen}
use Rattle.fed_room_contract.specs.State.{StateKey, StateMap}
use Rattle.fed_room_contract.specs.Steps.{state_at}
use Rattle.fed_resolve.specs.KeptParts.{own_places, place_in}
use Rattle.fed_resolve.proofs.Unconflicteds.{more_seen, more_mapped}
use Rattle.fed_resolve.proofs.dispute.own_places.Goals.{in-Some+in_ok-push, in_default}
use Rattle.fed_resolve.proofs.dispute.own_places.Goals as goal

pub loop-entry-preserved : goal.loop-entry-preserved
loop-entry-preserved c =
    let events = c.args.graph.now.stored in
    let s : StateMap = state_at c.args.steps.now.after c.args.place in
    let entry = c.entry-item.result in
    let before = c.loop-entry.places.items in
    let es : List (StateKey × List ℕ) = map seen (take c.loop-entry.entry-index c.args.disputed.now) in
    let more : own_places events (map seen (take (c.loop-entry.entry-index + 1) c.args.disputed.now)) s ≡ own_places events es s ++ cons_option (place_in events s (seen entry)) [] =
    ap (λ xs. own_places events xs s) (more_seen seen c.args.disputed.now c.loop-entry.entry-index entry c.loop-entry-test.true c.entry-item.is) ∙ more_mapped (place_in events s) es (seen entry) in
    let own : place_in events s (seen entry) ≡ c.own_place.result = sym c.own_place.ensures.place in
    elim c.match-own_place.branch [
      | in-Some+in_ok-push w ↦
          let grown : c.match-own_place.places.items ≡ before ++ w.in-Some.own ∷ [] = ap (λ v. v.items) w.places-is ∙ w.in_ok-push.ensures.items in
          record {
            within = subst (All (λ p. p < length events)) (sym grown) (All-push (λ p. p < length events) before w.in-Some.own c.loop-entry.invariant.within w.in-Some.ensures.within);
            so_far = grown ∙ ap (λ xs. xs ++ w.in-Some.own ∷ []) c.loop-entry.invariant.so_far ∙ sym (more ∙ ap (λ o. own_places events es s ++ cons_option o []) (own ∙ w.in-Some.is));
          }
      | in_default w ↦
          let same : c.match-own_place.places.items ≡ before = ap (λ v. v.items) w.places-is in
          record {
            within = subst (All (λ p. p < length events)) (sym same) c.loop-entry.invariant.within;
            so_far = same ∙ c.loop-entry.invariant.so_far ∙ sym (more ∙ ap (λ o. own_places events es s ++ cons_option o []) (own ∙ w.in_default.is) ∙ append-nil (own_places events es s));
          }
    ]
