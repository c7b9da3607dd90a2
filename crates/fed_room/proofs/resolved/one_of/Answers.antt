use Rattle.std.proofs.Common.{◌≡◌, ◌<◌, ◌==◌, ◌∷◌, [], ℕ, List, length, take, All, false, get_or, true≢false, sym, subst, ◌∙◌, arith}
use Rattle.std.proofs.lemmas.List.{take_all, take_more}
use Rattle.std.proofs.lemmas.List.Elements.{All-append, All-cons}
use Rattle.fed_room_contract.specs.Steps.{state_at}
use Rattle.fed_room.proofs.resolved.one_of.Goals as goal

some-there : (places : List ℕ) → (length places == 0) ≡ false → 0 < length places
some-there [] h = absurd (true≢false h)
some-there (p ∷ places) h = omega arith

pub loop-place-preserved : goal.loop-place-preserved
loop-place-preserved c =
    let after = c.args.states.now.after in
    let places : List ℕ = c.args.places.now in
    let i = c.loop-place.place-index in
    let place : ℕ = get_or places i 0 in
    let P : ℕ → Type 0 = λ other. state_at after other ≡ state_at after (get_or places 0 0) in
    subst (All P) (sym (take_more places i 0 (omega (arith, c.loop-place-test.true))))
    (All-append P (take i places) (place ∷ []) c.loop-place.invariant (All-cons P place [] (sym (c.are_one.ensures c.if-not-are_one.false)) (λ k d h. absurd (omega (arith, h)))))

pub returns : goal.returns
returns c =
    let after = c.args.states.now.after in
    let places : List ℕ = c.args.places.now in
    let P : ℕ → Type 0 = λ other. state_at after other ≡ state_at after (get_or places 0 0) in
    let some : 0 < length places = some-there places (sym c.is_empty.ensures ∙ c.if-is_empty.false) in
    record {
      some = λ none. let zero : 0 < length {A = ℕ} [] = subst (λ (xs : List ℕ). 0 < length xs) none some in omega (arith, zero);
      within = c.requires 0 0 some;
      same = subst (All P) (take_all c.loop-place.place-index places (omega (arith, c.loop-place-test.false))) c.loop-place.invariant;
    }
