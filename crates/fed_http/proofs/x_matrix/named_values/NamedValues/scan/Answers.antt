use Rattle.std.proofs.Common.{◌++◌, ◌∷◌, [], ℕ, List, Option, IfNone, arith, sym, subst}
use Rattle.fed_http.specs.declared.x_matrix.named_values.NamedValues.{NamedValues}
use Rattle.fed_http.specs.XMatrix.{XMatrixValue, Parameter, AreParameters, Says}
use Rattle.fed_http.specs.XMatrixParts.{pair_of, value_of}
use Rattle.fed_http.proofs.ParameterLists.{scanned_more, scanned_all, none_first, none_says, none_behind, not_empty}
use Rattle.std.proofs.lemmas.List.{nil_from_length}
use Rattle.std.proofs.lemmas.Bool.Decides.{nat_tests}
use Rattle.fed_http.proofs.x_matrix.named_values.NamedValues.scan.Goals as goal

abbrev SaysNothing : List ℕ → Option NamedValues → Type 0
SaysNothing text r = IfNone r ((ps : List Parameter) (h : XMatrixValue) → AreParameters ps text → Says ps h → ⊥)

pub returns-in_err-parameter-clause-none : goal.returns-in_err-parameter-clause-none
returns-in_err-parameter-clause-none c =
    let s = c.loop-found.invariant.1 in
    subst (SaysNothing c.args.text.now) (sym c.from_residual.ensures) (none_first c.args.text.now c.loop-found.left.now _ s c.in_err-parameter.ensures.complete)

pub returns-in_err-found-clause-none : goal.returns-in_err-found-clause-none
returns-in_err-found-clause-none c =
    let s = c.loop-found.invariant.1 in
    let p = c.in_ok-parameter.parameter in
    let alone = c.in_ok-parameter.ensures.complete in
    subst (SaysNothing c.args.text.now) (sym c.from_residual-in_err-found.ensures)
    (none_says c.args.text.now c.loop-found.left.now c.in_ok-parameter.behind.now p.name.now (value_of p.value) _ s alone (c.in_err-found.ensures.none s.done s.holds))

pub returns-then-is_empty-clause-some : goal.returns-then-is_empty-clause-some
returns-then-is_empty-clause-some c =
    let s = c.loop-found.invariant.1 in
    let p = c.in_ok-parameter.parameter in
    let none = nil_from_length c.in_ok-parameter.behind.now (grind (arith, nat_tests)) in
    (s.done ++ pair_of p ∷ [], scanned_all c.args.text.now c.loop-found.left.now c.in_ok-parameter.behind.now p.name.now (value_of p.value) _ s c.in_ok-parameter.ensures.sound none, c.in_ok-found.ensures.some s.done s.holds)

pub returns-in_err-left-clause-none : goal.returns-in_err-left-clause-none
returns-in_err-left-clause-none c =
    let s = c.loop-found.invariant.1 in
    let p = c.in_ok-parameter.parameter in
    let alone = c.in_ok-parameter.ensures.complete in
    subst (SaysNothing c.args.text.now) (sym c.from_residual-in_err-left.ensures)
    (none_behind c.args.text.now c.loop-found.left.now c.in_ok-parameter.behind.now p.name.now (value_of p.value) _ s alone (not_empty c.in_ok-parameter.behind.now c.is_empty.result c.is_empty.ensures c.if-is_empty.false) c.in_err-left.ensures.none)

pub loop-found-preserved : goal.loop-found-preserved
loop-found-preserved c =
    let s = c.loop-found.invariant.1 in
    let p = c.in_ok-parameter.parameter in
    let alone = c.in_ok-parameter.ensures.complete in (
      c.in_ok-left.ensures.sound.2,
      scanned_more c.args.text.now c.loop-found.left.now c.in_ok-parameter.behind.now c.in_ok-left.left.now p.name.now (value_of p.value) _ _ s c.in_ok-parameter.ensures.sound alone
          (c.in_ok-found.ensures.some s.done s.holds) (not_empty c.in_ok-parameter.behind.now c.is_empty.result c.is_empty.ensures c.if-is_empty.false) c.in_ok-left.ensures.sound.0 c.in_ok-left.ensures.sound.1,
    )
