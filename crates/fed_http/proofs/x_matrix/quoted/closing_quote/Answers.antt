use Rattle.std.proofs.Common.{◌+◌, drop, sym, ap, ◌∙◌}
use Rattle.fed_http.proofs.Quotes.{index_from, step_escaped, step_plain}
use Rattle.fed_http.proofs.x_matrix.quoted.closing_quote.Goals as goal
use Rattle.fed_http.proofs.x_matrix.quoted.closing_quote.Goals.{then-escaped, else-escaped+else-byte-eq-QUOTE}

pub loop-i-preserved : goal.loop-i-preserved
loop-i-preserved c =
    let text = c.args.text.now in
    let i = c.loop-i.i in
    let rest = drop (i + 1) text in
    elim c.if-escaped.branch [
      | then-escaped w ↦ c.loop-i.invariant ∙ ap (λ e. index_from i e (drop i text)) w.if-escaped.true ∙ step_escaped text i c.loop-i-test.true ∙ ap (λ e. index_from (i + 1) e rest) (sym w.escaped-is)
      | else-escaped+else-byte-eq-QUOTE w ↦ c.loop-i.invariant ∙ ap (λ e. index_from i e (drop i text)) w.if-escaped.false ∙ step_plain text i c.loop-i-test.true w.if-byte-eq-QUOTE.false ∙ ap (λ e. index_from (i + 1) e rest) (sym w.escaped-is)
    ]
