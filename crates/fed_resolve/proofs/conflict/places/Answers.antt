use Rattle.std.proofs.Common.{◌≡◌, ◌<◌, [], ◌∷◌, ◌++◌, All, length, subst, sym, ap, ◌∙◌}
use Rattle.std.proofs.lemmas.List.Elements.{All-push}
use Rattle.fed_room_contract.specs.Entry.{seen}
use Rattle.fed_resolve.specs.Chain.{place_of}
use Rattle.fed_resolve.proofs.Unconflicteds.{places-pushed, places-same}
use Rattle.fed_resolve.proofs.conflict.places.Goals.{in-Some+in_ok-push, in_default}
use Rattle.fed_resolve.proofs.conflict.places.Goals as goal

pub loop-entry-preserved : goal.loop-entry-preserved
loop-entry-preserved c =
    let events = c.args.graph.now.stored in
    let entry = c.entry-item.result in
    let place : place_of events entry.id.now ≡ c.place.result = ap (place_of events) (sym c.as_str.ensures.text) ∙ sym c.place.ensures.place in
    let before = c.loop-entry.places.items in
    elim c.match-place.branch [
      | in-Some+in_ok-push w ↦
          let grown : c.match-place.places.items ≡ before ++ w.in-Some.place ∷ [] = ap (λ v. v.items) w.places-is ∙ w.in_ok-push.ensures.items in
          record {
            within = subst (All (λ p. p < length events)) (sym grown) (All-push (λ p. p < length events) before w.in-Some.place c.loop-entry.invariant.within w.in-Some.ensures.within);
            so_far = grown ∙ places-pushed events seen c.args.entries.now c.loop-entry.entry-index entry c.loop-entry-test.true c.entry-item.is before c.loop-entry.invariant.so_far w.in-Some.place (place ∙ w.in-Some.is);
          }
      | in_default w ↦
          let same : c.match-place.places.items ≡ before = ap (λ v. v.items) w.places-is in
          record {
            within = subst (All (λ p. p < length events)) (sym same) c.loop-entry.invariant.within;
            so_far = same ∙ places-same events seen c.args.entries.now c.loop-entry.entry-index entry c.loop-entry-test.true c.entry-item.is before c.loop-entry.invariant.so_far (place ∙ w.in_default.is);
          }
    ]
