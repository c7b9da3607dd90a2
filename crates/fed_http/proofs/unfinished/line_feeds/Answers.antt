use Rattle.std.proofs.Common.{rules, ◌≡◌, ◌∙◌}
use Rattle.std.specs.Prelude.{◌==◌, count_by}
use Rattle.fed_http.proofs.LineCounts.{feeds_counted}
use Rattle.fed_http.proofs.unfinished.line_feeds.Goals as goal

pub returns : goal.returns
returns c = let counted : c.count.result ≡ count_by (λ b. b == 10) c.args.bytes.now = search rules in counted ∙ feeds_counted c.args.bytes.now
