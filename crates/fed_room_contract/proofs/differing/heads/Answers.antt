use Rattle.std.proofs.Common.{◌≡◌, ◌<◌, ◌≤◌, ◌+◌, ◌++◌, ◌∷◌, [], inl, inr, ℕ, List, All, Contains, nat_cmp, get_or, take, subst, sym, arith}
use Rattle.std.proofs.lemmas.List.{take_more}
use Rattle.std.proofs.lemmas.List.Elements.{Contains-push_cases}
use Rattle.std.specs.BTreeSet.{insert_key}
use Rattle.fed_room_contract.proofs.Heads.{all-inserted, inserted-here, inserted-keeps}
use Rattle.fed_room_contract.proofs.differing.heads.Goals as goal

pub loop-place-preserved : goal.loop-place-preserved
loop-place-preserved c =
    let places : List ℕ = c.args.places.now in
    let index : ℕ = c.loop-place.place-index in
    let place : ℕ = get_or places index 0 in
    let old : List ℕ = c.loop-place.heads.keys in
    let made : c.insert.new.self.keys ≡ insert_key nat_cmp old (place + 1) = c.in_ok-insert.ensures.keys in
    let more : take (index + 1) places ≡ take index places ++ place ∷ [] = take_more places index 0 c.loop-place-test.true in
    let small : place < c.args.count = c.requires index 0 c.loop-place-test.true in
    record {
      within = subst (All (λ head. head ≤ c.args.count)) (sym made) (all-inserted (λ head. head ≤ c.args.count) (place + 1) old c.loop-place.invariant.within (omega (arith, small)));
      each = λ p there.
          subst (λ (xs : List ℕ). Contains xs (p + 1)) (sym made) (elim (Contains-push_cases (take index places) place p (subst (λ (xs : List ℕ). Contains xs p) more there)) as (λ _. Contains (insert_key nat_cmp old (place + 1)) (p + 1)) [
            | inl before ↦ inserted-keeps (place + 1) (p + 1) old (c.loop-place.invariant.each p before)
            | inr same ↦ subst (λ (q : ℕ). Contains (insert_key nat_cmp old (place + 1)) (q + 1)) same (inserted-here (place + 1) old)
          ]);
    }
