use Rattle.std.proofs.Common.{◌≡◌, drop, sym, ap, subst, ◌∙◌}
use Rattle.std.specs.List.{prefix_len}
use Rattle.std.specs.Str.{IsCharBoundary}
use Rattle.fed_http.specs.XMatrix.{is_white}
use Rattle.fed_http.specs.XMatrixParts.{SkipsRun}
use Rattle.fed_http.proofs.Runs.{behind_ascii, skips, white_ascii}
use Rattle.fed_http.proofs.x_matrix.separator.without_white.Goals as goal

pub range_from-requires : goal.range_from-requires
range_from-requires c = λ _. subst (IsCharBoundary c.args.text.now) (sym c.white_run.ensures) (behind_ascii is_white white_ascii c.args.text.now c.utf8.text)

pub returns : goal.returns
returns c =
    let text = c.args.text.now in
    let behind : c.range_from.result.now ≡ drop (prefix_len is_white text) text = c.range_from.ensures.value ∙ ap (λ k. drop k text) c.white_run.ensures in
    subst (SkipsRun is_white text) (sym behind) (skips is_white text)
