-- An event that follows just the forward extremities: the state before it is the current state.
use Rattle.std.proofs.Common.{◌≡◌, ℕ, zero, suc, List, [], ◌∷◌, map, true, Result, Ok, Err, Contains, refl, sym, ap, ◌∙◌, subst, arith}
use Rattle.std.proofs.lemmas.Bool.{and_parts}
use Rattle.std.proofs.lemmas.Slice.Eq.{bytes_eq-Decides}
use Rattle.std.specs.Prelude.{⊤}
use Rattle.std.specs.List.{list_any}
use Rattle.std.specs.Str.{bytes_eq}
use Rattle.fed_event.specs.Checked.{CheckedEvent}
use Rattle.fed_event.specs.Fields.{prev_events_of}
use Rattle.fed_room_contract.specs.declared.graph.Stored.{Stored}
use Rattle.fed_room_contract.specs.declared.rule.Rule.{Rule}
use Rattle.fed_room_contract.specs.declared.verdict.Verdict.TheVariants.{Accepted}
use Rattle.fed_room_contract.specs.Room.{extremities_of}
use Rattle.fed_auth.specs.Allowed.{allowed_of}
use Rattle.fed_resolve.proofs.SameStates.{contained, all_at, any_order}
use Rattle.fed_room.specs.Decision.{softly, allowed_by_both, decided}
use Rattle.fed_room.specs.Ids.{are_among, are_same}
use Rattle.fed_room.specs.States.{state_after, resolved_after, state_before, current_state}

-- ---- the same ids

is_among : (ids others : List (List ℕ)) → are_among ids others ≡ true → (id : List ℕ) → Contains ids id → Contains others id
is_among ids others all id there =
    let found = contained (λ named. bytes_eq named id) others (all_at (λ i. list_any (λ named. bytes_eq named i) others) ids id all there) in
    subst (Contains others) ((bytes_eq-Decides found.0 id).0 found.1.1) found.1.0

module _ {X Y : Type 0} (f : X → Y) where
  mapped : (xs : List X) (x : X) → Contains xs x → Contains (map f xs) (f x)
  mapped [] x (k, below, is) = absurd (omega (arith, below))
  mapped (y ∷ xs) x (zero, below, is) = (0, omega arith, ap f is)
  mapped (y ∷ xs) x (suc k, below, is) = let rest = mapped xs x (k, omega (arith, below), is) in (suc rest.0, omega (arith, rest.1), rest.2)

  from_mapped : (xs : List X) (y : Y) → Contains (map f xs) y → (x : X) × (Contains xs x × (f x ≡ y))
  from_mapped [] y (k, below, is) = absurd (omega (arith, below))
  from_mapped (x ∷ xs) y (zero, below, is) = (x, ((0, omega arith, refl), is))
  from_mapped (x ∷ xs) y (suc k, below, is) =
      let rest = from_mapped xs y (k, omega (arith, below), is) in
      let there = rest.1.0 in
      (rest.0, ((suc there.0, omega (arith, there.1), there.2), rest.1.1))

-- what they have in common with others, what is made of them has too
mapped_among : {Y : Type 0} (f : List ℕ → Y) (ids others : List (List ℕ)) → are_among ids others ≡ true → (y : Y) → Contains (map f ids) y → Contains (map f others) y
mapped_among f ids others all y there =
    let found = from_mapped f ids y there in
    subst (Contains (map f others)) found.1.1 (mapped f others found.0 (is_among ids others all found.0 found.1.0))

-- the states after them resolve to one state
pub same-resolved : (events : List Stored) (ids others : List (List ℕ)) → are_same ids others ≡ true → resolved_after events ids ≡ resolved_after events others
unfolding resolved_after
same-resolved events ids others same =
    let parts = and_parts (are_among others ids) (are_among ids others) same in
    any_order events (map (state_after events) ids) (map (state_after events) others)
    (record { there = mapped_among (state_after events) ids others parts.1; back = mapped_among (state_after events) others ids parts.0 })

-- ---- what is allowed by the state before is allowed by the current state

module _ (events : List Stored) (event : CheckedEvent) (same : are_same (prev_events_of event.event) (extremities_of events) ≡ true) where
  one_state : state_before events event.event ≡ current_state events
  one_state = same-resolved events (prev_events_of event.event) (extremities_of events) same

  allowed_now : (auth : Result ⊤ Rule) (done : ⊤) → allowed_by_both events event auth ≡ Ok done → allowed_of events event (current_state events) ≡ Ok done
  allowed_now (Ok d) done h = ap (allowed_of events event) (sym one_state) ∙ h
  allowed_now (Err rule) done h = absurd (cc)

  pub accepted-too : (auth : Result ⊤ Rule) (done : ⊤) → allowed_by_both events event auth ≡ Ok done → decided events event (allowed_by_both events event auth) ≡ Accepted
  accepted-too auth done h = ap (decided events event) h ∙ ap softly (allowed_now auth done h)
