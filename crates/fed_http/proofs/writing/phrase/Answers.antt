use Rattle.std.proofs.Common.{arith, [], length, unwrap_or, refl, sym, ap, ◌∙◌}
use Rattle.http.specs.StatusCode.{reason_phrase}
use Rattle.fed_http.proofs.WrittenTexts.{phrase_in, phrase_out, unwrap_now}
use Rattle.fed_http.proofs.ReplyTexts.{phrase_short}
use Rattle.fed_http.proofs.writing.phrase.Goals as goal

pub returns-in-Ok-clause-phrase : goal.returns-in-Ok-clause-phrase
returns-in-Ok-clause-phrase c =
    ap (λ s. s.now) c.unwrap_or.ensures ∙ unwrap_now c.canonical_reason.result _ refl
    ∙ ap (λ r. unwrap_or r []) (c.canonical_reason.ensures.value ∙ ap reason_phrase c.in-Ok.ensures.1) ∙ sym (phrase_in c.args.status c.in-Ok.ensures.0)

pub returns-in-Ok-clause-short : goal.returns-in-Ok-clause-short
returns-in-Ok-clause-short c = omega (arith, ap length (returns-in-Ok-clause-phrase c), phrase_short c.args.status c.in-Ok.ensures.0.0 c.in-Ok.ensures.0.1)

pub returns-in-Err-clause-phrase : goal.returns-in-Err-clause-phrase
returns-in-Err-clause-phrase c = sym (phrase_out c.args.status c.in-Err.ensures)
