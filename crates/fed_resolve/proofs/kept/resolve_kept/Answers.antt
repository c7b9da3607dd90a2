use Rattle.std.proofs.Common.{◌≡◌, ◌∷◌, [], ℕ, List, Bool, Contains, length, refl, subst, sym, ap, ◌∙◌, arith}
use Rattle.std.specs.FinMap as finite
use Rattle.fed_room_contract.specs.State.{StateMap}
use Rattle.fed_room_contract.specs.Steps.{AreAlikeBut}
use Rattle.std.proofs.lemmas.Option.{slice_get_within}
use Rattle.fed_resolve.specs.Conflict.{is_full_conflicted, unconflicted}
use Rattle.fed_resolve.specs.ConflictParts.{AreKept}
use Rattle.fed_resolve.specs.KeptParts.{HasKeysOf, at_places}
use Rattle.fed_resolve.specs.Marks.{AreMarks}
use Rattle.fed_resolve.specs.Resolution.{checked_state, resolved_of, with_entries}
use Rattle.fed_resolve.proofs.Disputes.{resolved-alike}
use Rattle.fed_resolve.proofs.Resolved.{none-resolved}
use Rattle.fed_resolve.proofs.Untouched.{laid-few}
use Rattle.fed_resolve.proofs.kept.resolve_kept.Goals as goal

nothing : (places : List ℕ) → length places ≡ 0 → places ≡ []
nothing [] e = refl
nothing (place ∷ places) e = absurd (omega arith)

pub returns-in_default-clause-state : goal.returns-in_default-clause-state
returns-in_default-clause-state c =
    let events = c.args.graph.now.stored in
    c.new-state.ensures ∙ sym (ap (λ (ps : List ℕ). resolved_of events (at_places c.args.steps.now.after ps)) (nothing c.args.places.now c.in_default.ensures.cases) ∙ none-resolved events)

pub returns-clause-state : goal.returns-clause-state
returns-clause-state c =
    let events = c.args.graph.now.stored in
    let states : List StateMap = at_places c.args.steps.now.after c.args.places.now in
    let set : List Bool = c.in_ok-agreed.set.items in
    let keys : StateMap = c.add_keys_of.new.keys in
    let few : StateMap = c.in_ok-kept.kept in
    let checked : c.in_ok-state.state ≡ checked_state events states = c.in_ok-state.ensures states c.in_ok-agreed.ensures.agreed c.in_ok-agreed.ensures.set in
    let grown : HasKeysOf events set c.in_ok-keys.keys keys = subst (λ (ms : List Bool). HasKeysOf events ms c.in_ok-keys.keys keys) c.deref.ensures.value c.in_ok-add_keys_of.ensures in
    let kept : AreKept (unconflicted states) (finite.entries keys) few = subst (λ (s : StateMap). AreKept s (finite.entries keys) few) c.in_ok-agreed.ensures.agreed c.in_ok-kept.ensures in
    c.in_ok-state-2.ensures ∙ ap (λ (s : StateMap). with_entries s (finite.entries few)) checked
    ∙ laid-few events states keys few kept
    (λ place stored key conflicted there stands. grown.each place stored key (c.in_ok-agreed.ensures.set.each place (slice_get_within events place stored there) ∙ conflicted) there stands)

pub returns-clause-alike : goal.returns-clause-alike
returns-clause-alike c = λ place there.
    let events = c.args.graph.now.stored in
    let after = c.args.steps.now.after in
    let first : ℕ = c.in-Some.first.now in
    let others : List ℕ = c.in-Some.others.now in
    let set : List Bool = c.in_ok-agreed.set.items in
    let whole : c.args.places.now ≡ first ∷ others = c.in-Some.ensures.cases.0 in
    let grown : HasKeysOf events set c.in_ok-keys.keys c.add_keys_of.new.keys = subst (λ (ms : List Bool). HasKeysOf events ms c.in_ok-keys.keys c.add_keys_of.new.keys) c.deref.ensures.value c.in_ok-add_keys_of.ensures in
    resolved-alike events after first others c.in_ok-keys.keys c.add_keys_of.new.keys c.in_ok-state-2.state set
    (subst (AreAlikeBut c.in_ok-keys.keys after) whole c.in_ok-keys.ensures) grown
    (subst (λ (ps : List ℕ). AreMarks (length events) (is_full_conflicted events (at_places after ps)) set) whole c.in_ok-agreed.ensures.set)
    (returns-clause-state c ∙ ap (λ (ps : List ℕ). resolved_of events (at_places after ps)) whole) place (subst (λ (ps : List ℕ). Contains ps place) whole there)
