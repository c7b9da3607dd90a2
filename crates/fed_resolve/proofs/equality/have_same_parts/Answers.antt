use Rattle.std.proofs.Common.{◌≡◌, ◌++◌, ◌∷◌, [], ◌<◌, ℕ, map, length, get_or, refl, sym, ap, ◌∙◌, arith}
use Rattle.std.proofs.lemmas.List.{map_more, take_all}
use Rattle.fed_room_contract.specs.Entry.{seen}
use Rattle.fed_resolve.proofs.equality.have_same_parts.Goals as goal

pub loop-index-preserved : goal.loop-index-preserved
loop-index-preserved c =
    let entries = c.args.entries.now in
    let others = c.args.others.now in
    let index : ℕ = c.loop-index.index in
    let entry = c.index-entries-index.result in
    let other = c.index-others-index.result in
    let inside : index < length others = omega arith in
    let same : seen (get_or entries index entry) ≡ seen (get_or others index other) = ap seen (sym c.index-entries-index.is) ∙ c.if-not-is_same.ensures refl ∙ ap seen c.index-others-index.is in
    map_more seen entries index entry c.loop-index-test.true ∙ (λ i. c.loop-index.invariant i ++ same i ∷ []) ∙ sym (map_more seen others index other inside)

pub returns : goal.returns
returns c = λ h.
    let index : ℕ = c.loop-index.index in
    ap (map seen) (sym (take_all index c.args.entries.now (omega arith))) ∙ c.loop-index.invariant ∙ ap (map seen) (take_all index c.args.others.now (omega arith))
