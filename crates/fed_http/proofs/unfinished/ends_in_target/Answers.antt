use Rattle.std.proofs.Common.{arith, ◌+◌, ◌-◌, ◌<◌, length, take, drop, ◌∙◌, sym}
use Rattle.std.proofs.lemmas.Bool.{false≢true}
use Rattle.fed_http.proofs.Windows.{to_end}
use Rattle.fed_http.proofs.Targets.{target_in_line, line_in_target, method_some, space_behind, target_passes, passes_target}
use Rattle.fed_http.proofs.unfinished.ends_in_target.Goals as goal

pub returns-then-end-eq0 : goal.returns-then-end-eq0
returns-then-end-eq0 c =
    let line = c.behind_empty_lines-line.result.now in
    (λ is. absurd (false≢true is), λ ends. absurd (omega (arith, c.if-end-eq0.true, (method_some line c.token_run-end.result c.token_run-end.ensures.count (target_in_line c.args.bytes.now line c.behind_empty_lines-line.ensures.front c.behind_empty_lines-line.ensures.ended ends)).0)))

pub returns-then-end-line : goal.returns-then-end-line
returns-then-end-line c =
    let line = c.behind_empty_lines-line.result.now in
    (λ is. absurd (false≢true is), λ ends. absurd (omega (arith, c.if-end-line.true, (method_some line c.token_run-end.result c.token_run-end.ensures.count (target_in_line c.args.bytes.now line c.behind_empty_lines-line.ensures.front c.behind_empty_lines-line.ensures.ended ends)).1)))

pub bounds-line-end : goal.bounds-line-end
bounds-line-end c = omega (arith, c.token_run-end.ensures.within)

pub returns-then-line-end-ne32 : goal.returns-then-line-end-ne32
returns-then-line-end-ne32 c =
    let line = c.behind_empty_lines-line.result.now in
    (λ is. absurd (false≢true is), λ ends. absurd (c.if-line-end-ne32.true (space_behind line c.token_run-end.result c.token_run-end.ensures.count (target_in_line c.args.bytes.now line c.behind_empty_lines-line.ensures.front c.behind_empty_lines-line.ensures.ended ends))))

pub returns : goal.returns
returns c =
    let bytes = c.args.bytes.now in
    let line = c.behind_empty_lines-line.result.now in
    let n = c.token_run-end.result in
    let front = c.behind_empty_lines-line.ensures.front in
    let inside : n < length line = omega (arith, c.token_run-end.ensures.within, c.if-end-line.false) in
    let rest = take (length line - (n + 1)) (drop (n + 1) line) in
    let cut = to_end line (n + 1) in (
      λ is. line_in_target bytes line front (passes_target line rest n c.token_run-end.ensures.count c.if-end-eq0.false inside c.if-line-end-ne32.false cut (sym c.are_in_target.ensures ∙ is)),
      λ ends. c.are_in_target.ensures ∙ target_passes line rest n c.token_run-end.ensures.count cut (target_in_line bytes line front c.behind_empty_lines-line.ensures.ended ends),
    )
