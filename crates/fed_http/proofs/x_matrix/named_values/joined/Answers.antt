use Rattle.std.proofs.Common.{◌≡◌, ◌≢◌, ◌++◌, ◌+◌, ◌∷◌, [], map, length, arith, sym, ap, ◌∙◌, length-append}
use Rattle.std.proofs.lemmas.Bool.{false≢true}
use Rattle.std.specs.Char.{to_ascii_lowercase}
use Rattle.fed_http.specs.XMatrix.{values_under}
use Rattle.fed_http.specs.XMatrixParts.{pair_of, slot_values}
use Rattle.fed_http.proofs.NamedValues.{values_under-named, values_under-other}
use Rattle.fed_http.proofs.x_matrix.named_values.joined.Goals as goal

pub returns-then-not-eq_ignore_ascii_case-clause-some : goal.returns-then-not-eq_ignore_ascii_case-clause-some
returns-then-not-eq_ignore_ascii_case-clause-some c =
    let name = c.args.name.now in
    let p = pair_of c.args.parameter in
    let other : map to_ascii_lowercase p.0 ≢ name = λ same. false≢true (sym c.if-not-eq_ignore_ascii_case.true ∙ c.eq_ignore_ascii_case.ensures.test.1 (same ∙ sym c.requires)) in
    λ ps so_far. values_under-other name ps p other ∙ so_far

pub returns-in-None-clause-some : goal.returns-in-None-clause-some
returns-in-None-clause-some c =
    let name = c.args.name.now in
    let p = pair_of c.args.parameter in
    let named : map to_ascii_lowercase p.0 ≡ name = c.eq_ignore_ascii_case.ensures.test.0 c.if-not-eq_ignore_ascii_case.false ∙ c.requires in
    λ ps so_far. values_under-named name ps p named ∙ ap (λ t. t ++ p.1 ∷ []) (so_far ∙ ap slot_values c.in-None.is)

pub returns-in-Some-clause-none : goal.returns-in-Some-clause-none
returns-in-Some-clause-none c =
    let name = c.args.name.now in
    let p = pair_of c.args.parameter in
    let named : map to_ascii_lowercase p.0 ≡ name = c.eq_ignore_ascii_case.ensures.test.0 c.if-not-eq_ignore_ascii_case.false ∙ c.requires in
    λ ps so_far.
    let whole : length (values_under name (ps ++ p ∷ [])) ≡ length (values_under name ps) + 1 = ap length (values_under-named name ps p named) ∙ length-append (values_under name ps) (p.1 ∷ []) in
    let one : length (values_under name ps) ≡ 1 = ap length (so_far ∙ ap slot_values c.in-Some.is) in
    omega (arith, whole, one)
