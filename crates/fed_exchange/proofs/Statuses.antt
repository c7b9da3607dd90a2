-- The status that is read from the bytes of a reply is its own.
use Rattle.std.proofs.Common.{◌≡◌, ℕ, [], take, drop, sym, ap, ◌∙◌}
use Rattle.std.proofs.lemmas.List.{append-nil, take-append-drop}
use Rattle.fed_http.specs.Message.{Answer}
use Rattle.fed_http.specs.Writing.{reply_bytes, IsWritableReply}
use Rattle.fed_http.specs.declared.message.Kind.TheVariants.{Replies}
use Rattle.fed_http.specs.declared.message.Message.TheVariants as message
use Rattle.fed_http.proofs.ReplyTexts.{reply_text_is}
use Rattle.fed_http.proofs.TextLemmas.{text_unique}
use Rattle.fed_exchange.specs.Messages.{IsStatusIn}

same_reply : (a b : Answer) → message.Reply a ≡ message.Reply b → a ≡ b
same_reply a b e = cc

pub read_back : (m : Answer) (status : ℕ) → IsWritableReply m → IsStatusIn m status → status ≡ m.status
read_back m status writable (read, ((used, is), s)) =
    let bytes = reply_bytes m in
    let same = text_unique Replies (message.Reply read) (message.Reply m) bytes (take used bytes) bytes (drop used bytes) [] is (reply_text_is m writable) (sym (take-append-drop used bytes)) (sym (append-nil bytes)) in
    sym s ∙ ap (λ (r : Answer). r.status) (same_reply read m same.0)
