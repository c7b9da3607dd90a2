use Rattle.std.proofs.Common.{◌≡◌, [], ◌∷◌, ◌++◌, length, refl, ap, ◌∙◌, arith}
use Rattle.std.proofs.lemmas.Grind.{common_steps}
use Rattle.std.specs.Prelude.{⊤}
use Rattle.std.proofs.lemmas.Result.{MatchResult-from_err}
use Rattle.fed_replies.specs.Pieces.{cut}
use Rattle.fed_replies.specs.PackedStore.{seen, replies_in}
use Rattle.fed_replies.specs.PackedReplies.{PackedReplies}
use Rattle.fed_replies.specs.Kept.{with_reply}
use Rattle.fed_replies.specs.Places.{with_place, replies_at}
use Rattle.fed_replies.proofs.Stored.{stored-same, seen-same, form_cut, replies-push, stored-push, kept-push}
use Rattle.fed_replies.proofs.packed_store.PackedStoreReplyStore.keep.Goals as goal

pub returns-in_err-form-clause-err : goal.returns-in_err-form-clause-err
returns-in_err-form-clause-err c =
    let same : seen c.self.inside.places c.form_of.new.pieces c.reserve.new.self.items ≡ c.args.self.now =
    ap (λ d. seen c.self.inside.places d c.reserve.new.self.items) c.in_err-form.ensures.err ∙ ap (seen c.self.inside.places c.self.inside.pieces) c.reserve.ensures.items ∙ c.self.view_is in
    MatchResult-from_err c.from_residual-in_err-form.result (λ _. ⊤) (λ _. replies_at (replies_in c.form_of.new.pieces c.reserve.new.self.items) c.self.inside.places ≡ c.args.self.now.kept)
    c.from_residual-in_err-form.ensures.0 (λ _. ap (λ (s : PackedReplies). s.kept) same)

pub invariant_of-self-in-Err : goal.invariant_of-self-in-Err
invariant_of-self-in-Err c =
    let back = c.truncate.ensures ∙ ap (cut c.form_of.new.pieces) c.mark-mark.ensures.mark ∙ form_cut c.self.inside.pieces c.form_of.new.pieces c.args.reply.now c.in_ok-form.form c.in_ok-form.ensures.form in
    stored-same c.self.inside.places c.insert.new.self c.self.inside.pieces c.truncate.new.self c.self.inside.forms.items c.reserve.new.self.items c.in-Err.ensures.err back c.reserve.ensures.items c.self.invariant

pub returns-in-Err-clause-err : goal.returns-in-Err-clause-err
returns-in-Err-clause-err c =
    let back = c.truncate.ensures ∙ ap (cut c.form_of.new.pieces) c.mark-mark.ensures.mark ∙ form_cut c.self.inside.pieces c.form_of.new.pieces c.args.reply.now c.in_ok-form.form c.in_ok-form.ensures.form in
    ap (λ (s : PackedReplies). s.kept) (seen-same c.self.inside.places c.insert.new.self c.self.inside.pieces c.truncate.new.self c.self.inside.forms.items c.reserve.new.self.items c.in-Err.ensures.err back c.reserve.ensures.items ∙ c.self.view_is)

pub returns-in-Err-clause-same : goal.returns-in-Err-clause-same
returns-in-Err-clause-same c =
    let back = c.truncate.ensures ∙ ap (cut c.form_of.new.pieces) c.mark-mark.ensures.mark ∙ form_cut c.self.inside.pieces c.form_of.new.pieces c.args.reply.now c.in_ok-form.form c.in_ok-form.ensures.form in
    seen-same c.self.inside.places c.insert.new.self c.self.inside.pieces c.truncate.new.self c.self.inside.forms.items c.reserve.new.self.items c.in-Err.ensures.err back c.reserve.ensures.items ∙ c.self.view_is

pub invariant_of-self-2 : goal.invariant_of-self-2
invariant_of-self-2 c =
    let places = c.self.inside.places in
    let forms = c.self.inside.forms.items in
    let form = c.in_ok-form.form in
    let origin = c.args.origin.now in
    let txn = c.args.txn.now in
    let place : c.len.result ≡ length c.self.inside.forms.items = grind (arith, common_steps) in
    let placed = c.in_default.ensures.ok ∙ ap (with_place places origin txn) place in
    let pushed = c.push_reserved.ensures.items ∙ ap (λ fs. fs ++ form ∷ []) c.reserve.ensures.items in
    stored-same (with_place places origin txn (length forms)) c.insert.new.self c.form_of.new.pieces c.form_of.new.pieces (forms ++ form ∷ []) c.push_reserved.new.self.items placed refl pushed
    (stored-push places c.self.inside.pieces c.form_of.new.pieces forms form c.args.reply.now c.self.invariant c.in_ok-form.ensures.form origin txn)

pub returns-clause-ok : goal.returns-clause-ok
returns-clause-ok c =
    let places = c.self.inside.places in
    let forms = c.self.inside.forms.items in
    let form = c.in_ok-form.form in
    let origin = c.args.origin.now in
    let txn = c.args.txn.now in
    let place : c.len.result ≡ length c.self.inside.forms.items = grind (arith, common_steps) in
    let placed = c.in_default.ensures.ok ∙ ap (with_place places origin txn) place in
    let pushed = c.push_reserved.ensures.items ∙ ap (λ fs. fs ++ form ∷ []) c.reserve.ensures.items in
    ap (λ (s : PackedReplies). s.kept) (seen-same (with_place places origin txn (length forms)) c.insert.new.self c.form_of.new.pieces c.form_of.new.pieces (forms ++ form ∷ []) c.push_reserved.new.self.items placed refl pushed)
    ∙ kept-push places c.self.inside.pieces c.form_of.new.pieces forms form c.args.reply.now c.self.invariant c.in_ok-form.ensures.form origin txn
    ∙ ap (λ (s : PackedReplies). with_reply s.kept origin txn c.args.reply.now) c.self.view_is

pub returns-clause-order : goal.returns-clause-order
returns-clause-order c =
    let forms = c.self.inside.forms.items in
    let form = c.in_ok-form.form in
    let pushed = c.push_reserved.ensures.items ∙ ap (λ fs. fs ++ form ∷ []) c.reserve.ensures.items in
    ap (replies_in c.form_of.new.pieces) pushed
    ∙ replies-push c.self.inside.places c.self.inside.pieces c.form_of.new.pieces forms form c.args.reply.now c.self.invariant c.in_ok-form.ensures.form
    ∙ ap (λ (s : PackedReplies). s.replies ++ c.args.reply.now ∷ []) c.self.view_is
