use Rattle.std.proofs.Common.{◌≡◌, ◌||◌, ◌<◌, ◌+◌, ◌∷◌, List, ℕ, length, drop, get_or, bytes_eq, false, sym, ap, ◌∙◌, drop-cons, add-one}
use Rattle.std.specs.List.{list_any}
use Rattle.std.proofs.lemmas.List.{take_rest}
use Rattle.fed_dest.specs.List.{has_doubled}
use Rattle.fed_dest.proofs.list.has_doubled.Goals as goal

-- a name that does not stand among the later ones leaves it to them
passed : (names : List (List ℕ)) (i : ℕ) (x : List ℕ) → i < length names → list_any (bytes_eq (get_or names i x)) (drop (i + 1) names) ≡ false → has_doubled (drop i names) ≡ has_doubled (drop (i + 1) names)
passed names i x within none =
    ap has_doubled (drop-cons names i x within ∙ ap (λ n. get_or names i x ∷ drop n names) (sym (add-one i)))
    ∙ ap (λ b. b || has_doubled (drop (i + 1) names)) none

pub loop-place-preserved : goal.loop-place-preserved
loop-place-preserved c =
    let i = c.loop-place.place in
    let x = c.index-names-place.result in
    c.loop-place.invariant
    ∙ passed c.args.names.now i x c.loop-place-test.true
    (ap (λ y. list_any (bytes_eq y) (drop (i + 1) c.args.names.now)) (sym c.index-names-place.is) ∙ ap (list_any (bytes_eq x)) (sym (take_rest c.args.names.now (i + 1)))
    ∙ sym c.is_among.ensures ∙ c.if-is_among.false)
