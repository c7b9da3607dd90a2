use Rattle.std.proofs.Common.{◌≡◌, Some, None, sym, ap, ◌∙◌}
use Rattle.fed_replies.specs.Kept.{reply_at}
use Rattle.fed_replies.specs.Forms.{reply_of}
use Rattle.fed_replies.specs.PackedReplies.{PackedReplies}
use Rattle.fed_replies.specs.PackedStore.{replies_seen}
use Rattle.fed_replies.proofs.Stored.{reply_there, no_reply_there}
use Rattle.fed_replies.proofs.packed_store.PackedStoreReplyStore.get.Goals as goal

pub returns-in_default-clause-kept : goal.returns-in_default-clause-kept
returns-in_default-clause-kept c =
    sym (no_reply_there c.self.inside.places c.self.inside.pieces c.self.inside.forms.items c.args.origin.now c.args.txn.now (sym c.in_default.ensures))
    ∙ ap (λ (s : PackedReplies). reply_at s.kept c.args.origin.now c.args.txn.now) c.self.view_is

pub returns-in_err-reply_of-clause-none : goal.returns-in_err-reply_of-clause-none
returns-in_err-reply_of-clause-none c = λ none.
    let there : reply_at (replies_seen c.self.inside).kept c.args.origin.now c.args.txn.now ≡ Some (reply_of c.self.inside.pieces c.index.result.now) =
    reply_there c.self.inside.places c.self.inside.pieces c.self.inside.forms.items c.args.origin.now c.args.txn.now c.in-Some.place c.index.result.now c.self.invariant (sym c.in-Some.ensures) c.index.ensures in
    let gone : Some (reply_of c.self.inside.pieces c.index.result.now) ≡ None = sym there ∙ ap (λ (s : PackedReplies). reply_at s.kept c.args.origin.now c.args.txn.now) c.self.view_is ∙ none in
    absurd (cc)

pub returns-clause-kept : goal.returns-clause-kept
returns-clause-kept c =
    ap Some c.in_ok-reply_of.ensures
    ∙ sym (reply_there c.self.inside.places c.self.inside.pieces c.self.inside.forms.items c.args.origin.now c.args.txn.now c.in-Some.place c.index.result.now c.self.invariant (sym c.in-Some.ensures) c.index.ensures)
    ∙ ap (λ (s : PackedReplies). reply_at s.kept c.args.origin.now c.args.txn.now) c.self.view_is
