use Rattle.std.proofs.Common.{drop, ap, ◌∙◌}
use Rattle.fed_http.specs.Lines.{line_feeds}
use Rattle.fed_http.proofs.Windows.{to_end}
use Rattle.fed_http.proofs.LineCounts.{behind_run}
use Rattle.fed_http.proofs.unfinished.head_lines.Goals as goal

pub returns : goal.returns
returns c =
    let bytes = c.args.bytes.now in
    c.line_feeds.ensures ∙ ap line_feeds (to_end bytes c.end_run.result ∙ ap (λ n. drop n bytes) c.end_run.ensures.count ∙ behind_run bytes)
