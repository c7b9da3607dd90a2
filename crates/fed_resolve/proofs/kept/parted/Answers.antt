use Rattle.std.proofs.Common.{◌≡◌, ◌∷◌, ℕ, List, length, map, refl, subst, sym, ap, ◌∙◌}
use Rattle.std.specs.FinMap as finite
use Rattle.fed_room_contract.specs.Entry.{seen}
use Rattle.fed_room_contract.specs.State.{StateMap}
use Rattle.fed_room_contract.specs.Steps.{AreAlikeBut, state_at}
use Rattle.fed_resolve.specs.Conflict.{is_full_conflicted, unconflicted}
use Rattle.fed_resolve.specs.ConflictParts.{places_of_state}
use Rattle.fed_resolve.specs.KeptParts.{IsWithout, at_places, disputed_of, is_conflict_of}
use Rattle.fed_resolve.specs.Marks.{AreMarks}
use Rattle.fed_resolve.proofs.Disputes.{agreed-is, full-conflict, first-alike}
use Rattle.fed_resolve.proofs.kept.parted.Goals as goal

pub returns-clause-agreed : goal.returns-clause-agreed
returns-clause-agreed c =
    let after = c.args.steps.now.after in
    let s0 : StateMap = state_at after c.args.first in
    let others : List ℕ = c.args.others.now in
    let keys : StateMap = c.args.keys.now in
    let parts : c.args.places.now ≡ c.args.first ∷ others = c.requires.parts in
    let es : map seen c.in_ok-disputed.disputed.items ≡ disputed_of after s0 others (finite.entries keys) =
    c.in_ok-disputed.ensures ∙ ap (disputed_of after s0 others) (ap (map seen) c.deref.ensures.value ∙ c.in_ok-entries.ensures) in
    let without : IsWithout s0 (disputed_of after s0 others (finite.entries keys)) c.without-agreed.result =
    subst (λ (s : StateMap). IsWithout s (disputed_of after s0 others (finite.entries keys)) c.without-agreed.result) c.in_ok-copy.ensures
    (subst (λ xs. IsWithout c.in_ok-copy.field-0 xs c.without-agreed.result) (ap (map seen) c.deref-2.ensures.value ∙ es) c.without-agreed.ensures) in
    agreed-is after s0 others keys c.without-agreed.result (first-alike after c.args.first others keys (subst (AreAlikeBut keys after) parts c.requires.alike)) without
    ∙ ap (λ (ps : List ℕ). unconflicted (at_places after ps)) (sym parts)

pub returns-clause-set : goal.returns-clause-set
returns-clause-set c =
    let events = c.args.graph.now.stored in
    let after = c.args.steps.now.after in
    let s0 : StateMap = state_at after c.args.first in
    let others : List ℕ = c.args.others.now in
    let keys : StateMap = c.args.keys.now in
    let agreed : StateMap = c.without-agreed.result in
    let parts : c.args.places.now ≡ c.args.first ∷ others = c.requires.parts in
    let es : map seen c.in_ok-disputed.disputed.items ≡ disputed_of after s0 others (finite.entries keys) =
    c.in_ok-disputed.ensures ∙ ap (disputed_of after s0 others) (ap (map seen) c.deref.ensures.value ∙ c.in_ok-entries.ensures) in
    let without : IsWithout s0 (disputed_of after s0 others (finite.entries keys)) agreed =
    subst (λ (s : StateMap). IsWithout s (disputed_of after s0 others (finite.entries keys)) agreed) c.in_ok-copy.ensures
    (subst (λ xs. IsWithout c.in_ok-copy.field-0 xs agreed) (ap (map seen) c.deref-2.ensures.value ∙ es) c.without-agreed.ensures) in
    let alike = first-alike after c.args.first others keys (subst (AreAlikeBut keys after) parts c.requires.alike) in
    let marks : AreMarks (length events) (is_conflict_of events after (disputed_of after s0 others (finite.entries keys)) (places_of_state events agreed) (c.args.first ∷ others)) c.in_ok-set.set.items =
    subst (λ (ps : List ℕ). AreMarks (length events) (is_conflict_of events after (disputed_of after s0 others (finite.entries keys)) (places_of_state events agreed) ps) c.in_ok-set.set.items) parts
    (subst (λ xs. AreMarks (length events) (is_conflict_of events after xs (places_of_state events agreed) c.args.places.now) c.in_ok-set.set.items) (ap (map seen) c.deref-3.ensures.value ∙ es) c.in_ok-set.ensures) in
    subst (λ (ps : List ℕ). AreMarks (length events) (is_full_conflicted events (at_places after ps)) c.in_ok-set.set.items) (sym parts)
    (record { long = marks.long; each = λ q below. marks.each q below ∙ full-conflict after s0 others keys agreed alike without events c.args.first refl q })
