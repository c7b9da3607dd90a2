use Rattle.std.proofs.Common.{List, ◌++◌, false, codes, sym, ap, subst, ◌∙◌}
use Rattle.std.specs.FinMap as finite
use Rattle.std.proofs.lemmas.List.{append_assoc}
use Rattle.fed_json.specs.CanonicalText.{canonical_text}
use Rattle.fed_txn.specs.Reply.{reply_value}
use Rattle.fed_replies.specs.PackedReply.{Verdict}
use Rattle.fed_replies.specs.Pieces.{Content, AreWithin, unpacked, verdicts_in}
use Rattle.fed_replies.specs.ReplyText.{members_text}
use Rattle.fed_replies.proofs.ReplyTexts.{reply-written}
use Rattle.fed_replies.proofs.pieces.Pieces.reply.Goals as goal

pub returns : goal.returns
returns c =
    let content : Content = record { events = c.self.inside.events.items; numbers = c.self.inside.numbers.items; texts = c.self.inside.texts } in
    let within : AreWithin content c.args.start c.args.end = subst (λ (d : Content). AreWithin d c.args.start c.args.end) (sym c.self.view_is) c.requires in
    let verdicts = finite.entries (unpacked content c.args.start c.args.end) in
    let members = rw (c.deref.ensures.value, c.deref-2.ensures.value) at c.in_ok-write_members.ensures in
    c.in_ok-extend_from_slice-2.ensures.items
    ∙ ap (λ t. t ++ codes "}}") (members ∙ ap (λ t. t ++ members_text false (verdicts_in content c.args.start c.args.end)) (c.in_ok-extend_from_slice.ensures.items ∙ ap (λ t. t ++ codes "{\"pdus\":{") c.in_ok-out.ensures.items))
    ∙ append_assoc (codes "{\"pdus\":{") (members_text false (verdicts_in content c.args.start c.args.end)) (codes "}}")
    ∙ ap (λ (vs : List Verdict). codes "{\"pdus\":{" ++ (members_text false vs ++ codes "}}")) (sym within.in_order)
    ∙ sym (reply-written (unpacked content c.args.start c.args.end))
    ∙ ap (λ (d : Content). canonical_text (reply_value (unpacked d c.args.start c.args.end))) c.self.view_is
