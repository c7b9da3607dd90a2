use Rattle.std.proofs.Common.{sym, subst}
use Rattle.fed_json.specs.CanonicalText.{canonical_text, IsCanonicalText}
use Rattle.fed_txn.specs.Reply.{reply_value}
use Rattle.fed_txn.proofs.Replies.{reply_profile, same_replies}
use Rattle.fed_txn.proofs.laws.replies_differ.Goals as goal

pub returns : goal.returns
returns c v w v_texts w_texts e =
    let p = reply_profile c.key_order.ensures v v_texts in
    let q = reply_profile c.key_order.ensures w w_texts in
    let first = c.one_text.ensures.has (reply_value v) p in
    let second = subst (IsCanonicalText (reply_value w)) (sym e) (c.one_text.ensures.has (reply_value w) q) in
    same_replies v w (c.texts_differ.ensures (reply_value v) (reply_value w) (canonical_text (reply_value v)) p q first second)
