use Rattle.std.proofs.Common.{take, ap, ◌∙◌}
use Rattle.fed_http.proofs.Windows.{window_is}
use Rattle.fed_http.proofs.limits.window.Goals as goal

pub returns : goal.returns
returns c = ap (λ k. take k c.args.bytes.now) c.min.ensures ∙ window_is c.args.bytes.now 16384
