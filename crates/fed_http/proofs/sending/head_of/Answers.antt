use Rattle.std.proofs.Common.{◌≡◌, ◌++◌, List, ℕ, length, codes, decimal, sym, ap, ◌∙◌}
use Rattle.fed_http.specs.Writing.{phrase_of}
use Rattle.fed_http.proofs.SentReplies.{before_length, behind_length, head_is}
use Rattle.fed_http.proofs.sending.head_of.Goals as goal

pub returns : goal.returns
returns c =
    let m = c.args.reply.now in
    let status : c.as_bytes.result.now ≡ decimal m.status = c.as_bytes.ensures.value ∙ c.format.ensures.text ∙ ap decimal c.status.ensures in
    let phrase : c.as_bytes-2.result.now ≡ phrase_of m.status = c.as_bytes-2.ensures.value ∙ c.phrase.ensures.phrase ∙ ap phrase_of c.status-2.ensures in
    let digits : c.as_bytes-3.result.now ≡ decimal (length m.body) = c.as_bytes-3.ensures.value ∙ c.format-2.ensures.text ∙ ap (λ (b : List ℕ). decimal (length b)) c.body.ensures in
    let first = c.push.ensures ∙ ap (λ (l : List ℕ). l ++ codes "HTTP/1.1 ") c.new-head.ensures in
    let second = c.push-2.ensures ∙ (λ i. first i ++ status i) in
    let third = c.push-3.ensures ∙ ap (λ (l : List ℕ). l ++ codes " ") second in
    let fourth = c.push-4.ensures ∙ (λ i. third i ++ phrase i) in
    let fifth = c.push-5.ensures ∙ ap (λ (l : List ℕ). l ++ before_length) fourth in
    let sixth = c.push-6.ensures ∙ (λ i. fifth i ++ digits i) in
    c.push-7.ensures ∙ ap (λ (l : List ℕ). l ++ behind_length) sixth ∙ sym (head_is m)
