use Rattle.std.proofs.Common.{◌≡◌, ◌==◌, drop, sym, ap, subst, ◌∙◌}
use Rattle.std.specs.List.{prefix_len}
use Rattle.std.specs.Str.{IsCharBoundary}
use Rattle.fed_http.specs.XMatrixParts.{SkipsRun}
use Rattle.fed_http.proofs.Runs.{behind_ascii, skips, space_ascii}
use Rattle.fed_http.proofs.x_matrix.separator.without_spaces.Goals as goal

pub range_from-requires : goal.range_from-requires
range_from-requires c = λ _. subst (IsCharBoundary c.args.text.now) (sym c.space_run.ensures) (behind_ascii (λ c. c == 32) space_ascii c.args.text.now c.utf8.text)

pub returns : goal.returns
returns c =
    let text = c.args.text.now in
    let behind : c.range_from.result.now ≡ drop (prefix_len (λ c. c == 32) text) text = c.range_from.ensures.value ∙ ap (λ k. drop k text) c.space_run.ensures in
    subst (SkipsRun (λ c. c == 32) text) (sym behind) (skips (λ c. c == 32) text)
