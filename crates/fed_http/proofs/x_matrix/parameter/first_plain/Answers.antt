use Rattle.std.proofs.Common.{◌≡◌, ◌++◌, ◌<◌, take, drop, arith, refl, sym, ap, subst, ◌∙◌}
use Rattle.std.proofs.lemmas.List.{take-append-drop}
use Rattle.std.specs.List.{prefix_len}
use Rattle.std.specs.Str.{IsCharBoundary}
use Rattle.fed_http.specs.XMatrix.{is_plain, IsRunOf}
use Rattle.fed_http.specs.XMatrixParts.{IsEnd}
use Rattle.fed_http.proofs.Runs.{cut, at_delimiter, end_from_stop, front_range, run_taken}
use Rattle.fed_http.proofs.x_matrix.parameter.first_plain.Goals as goal

pub range-requires-clause-end_boundary : goal.range-requires-clause-end_boundary
range-requires-clause-end_boundary c = subst (IsCharBoundary c.args.text.now) (sym c.plain_run-end.ensures) (at_delimiter c.args.text.now)

pub range_from-requires : goal.range_from-requires
range_from-requires c = λ _. subst (IsCharBoundary c.args.text.now) (sym c.plain_run-end.ensures) (at_delimiter c.args.text.now)

pub returns-clause-sound : goal.returns-clause-sound
returns-clause-sound c =
    let text = c.args.text.now in
    let n = prefix_len is_plain text in
    let parts = cut is_plain text in
    let size : c.plain_run-end.result ≡ n = c.plain_run-end.ensures in
    let front : c.range.result.now ≡ take n text = c.range.ensures.value ∙ front_range _ text ∙ ap (λ k. take k text) size in
    let behind : c.range_from.result.now ≡ drop n text = c.range_from.ensures.value ∙ ap (λ k. drop k text) size in
    let some : 0 < n = omega (arith, size, c.if-end-eq0.false) in
    (refl, subst (IsRunOf is_plain) (sym front) (run_taken is_plain n text some parts.within parts.run), sym (take-append-drop n text) ∙ ap (λ t. t ++ drop n text) (sym front) ∙ ap (λ t. c.range.result.now ++ t) (sym behind), subst IsEnd (sym behind) (end_from_stop (drop n text) parts.stops))
