use Rattle.std.proofs.Common.{◌≡◌, ◌<◌, ◌+◌, List, ℕ, Option, Some, IfSome, map, length, position, sym, ap, ◌∙◌, subst, arith, rules}
use Rattle.std.specs.List.{remove}
use Rattle.std.proofs.lemmas.List.Edits.{length-remove}
use Rattle.fed_event.specs.Checked.{CheckedEvent}
use Rattle.fed_room_contract.specs.Room.{without, is_of_id}
use Rattle.fed_room_contract.proofs.Positions.{position_below}
use Rattle.fed_room_contract.proofs.LackLists.{map-remove, without_first, without_none}
use Rattle.fed_room_contract.proofs.store.forget.Goals as goal

below : (id : List ℕ) (waiting : List CheckedEvent) (place : ℕ) → Some place ≡ position (is_of_id id) waiting → place < length waiting
below id waiting place is = subst (λ (o : Option ℕ). IfSome o (λ k. k < length waiting)) (sym is) (position_below (is_of_id id) waiting)

pub remove-requires-in-Some : goal.remove-requires-in-Some
remove-requires-in-Some c =
    let waiting = c.loop-place.waiting.items in
    let is = c.in-Some.ensures ∙ ap (position (is_of_id c.args.id.now)) c.deref.ensures.value in
    let less : c.in-Some.place < length waiting = below c.args.id.now waiting c.in-Some.place is in
    let long = c.loop-place.invariant.long in
    search rules

pub loop-place-smaller : goal.loop-place-smaller
loop-place-smaller c =
    let waiting = c.loop-place.waiting.items in
    let place = c.in-Some.place in
    let is = c.in-Some.ensures ∙ ap (position (is_of_id c.args.id.now)) c.deref.ensures.value in
    let fewer : length c.remove.new.self.items + 1 ≡ length waiting =
    ap (λ (es : List CheckedEvent). length es + 1) c.remove.ensures.items ∙ length-remove waiting place (below c.args.id.now waiting place is) in
    let less : length c.remove.new.self.items < length waiting = omega arith in
    less

pub loop-place-preserved : goal.loop-place-preserved
loop-place-preserved c =
    let waiting = c.loop-place.waiting.items in
    let lacks = c.loop-place.lacks.items in
    let place = c.in-Some.place in
    let is = c.in-Some.ensures ∙ ap (position (is_of_id c.args.id.now)) c.deref.ensures.value in
    let less : place < length waiting = below c.args.id.now waiting place is in
    let even : length lacks ≡ length waiting = c.loop-place.invariant.long in
    let fewer : length c.remove.new.self.items + 1 ≡ length waiting = ap (λ (es : List CheckedEvent). length es + 1) c.remove.ensures.items ∙ length-remove waiting place less in
    let too : length c.remove-in-Some.new.self.items + 1 ≡ length lacks = ap (λ (ls : List (Option ℕ)). length ls + 1) c.remove-in-Some.ensures.items ∙ length-remove lacks place (omega arith) in
    let long : length c.remove-in-Some.new.self.items ≡ length c.remove.new.self.items = omega arith in
    record {
      others = ap (without c.args.id.now) c.remove.ensures.items ∙ without_first (is_of_id c.args.id.now) waiting place (sym is) ∙ c.loop-place.invariant.others;
      long = long;
      lacks = λ lack right. c.remove-in-Some.ensures.items ∙ ap (λ (ls : List (Option ℕ)). remove ls place) (c.loop-place.invariant.lacks lack right) ∙ sym (map-remove lack waiting place) ∙ ap (map lack) (sym c.remove.ensures.items);
    }

pub returns-clause-waiting : goal.returns-clause-waiting
returns-clause-waiting c =
    sym (without_none (is_of_id c.args.id.now) c.loop-place.waiting.items (sym (c.in_default.ensures ∙ ap (position (is_of_id c.args.id.now)) c.deref.ensures.value)))
    ∙ c.loop-place.invariant.others
