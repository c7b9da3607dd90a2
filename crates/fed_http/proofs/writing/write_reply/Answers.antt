use Rattle.std.proofs.Common.{◌++◌, codes, decimal, length, sym, subst, ap, ◌∙◌}
use Rattle.fed_http.specs.Writing.{field_line, line_end, status_line, phrase_of}
use Rattle.fed_http.proofs.WrittenTexts.{reply_parts}
use Rattle.fed_http.proofs.ReplyTexts.{reply_text_is}
use Rattle.fed_http.specs.Text.{IsReplyText}
use Rattle.fed_http.proofs.writing.write_reply.Goals as goal

pub returns-clause-exact : goal.returns-clause-exact
returns-clause-exact c =
    let m = c.args.reply.now in
    let body = c.body-body.ensures in
    let start = c.in_ok-push_status_line.ensures ∙ ap (λ t. t ++ status_line c.status.result (phrase_of c.status.result)) c.new-text.ensures.items ∙ ap (λ s. status_line s (phrase_of s)) c.status.ensures in
    let count = c.in_ok-push_field-2.ensures ∙ ap (λ t. c.push_field.new.text.items ++ field_line (codes "Content-Length", t)) (c.as_bytes.ensures.value ∙ c.format-count.ensures.text ∙ ap (λ t. decimal (length t)) body) in
    reply_parts (status_line m.status (phrase_of m.status)) (field_line (codes "Content-Type", codes "application/json")) (field_line (codes "Content-Length", decimal (length m.body))) (field_line (codes "Connection", codes "close")) (line_end ++ m.body)
    start c.in_ok-push_field.ensures count c.in_ok-push_field-3.ensures (c.in_ok-push_body.ensures ∙ ap (λ t. c.push_field-3.new.text.items ++ (line_end ++ t)) body)

pub returns-clause-read_back : goal.returns-clause-read_back
returns-clause-read_back c = λ is. subst (IsReplyText c.args.reply.now) (sym (returns-clause-exact c)) (reply_text_is c.args.reply.now is)
