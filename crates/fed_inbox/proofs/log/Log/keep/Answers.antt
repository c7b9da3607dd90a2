use Rattle.std.proofs.Common.{◌≡◌, ap, ◌∙◌, ◌++◌, ◌∷◌, [], ℕ, List, refl, is_ok, if◌then◌else◌}
use Rattle.fed_replies.specs.Kept.{KeptReplies, replies_of, with_reply}
use Rattle.fed_replies.proofs.Kept.{own_replies, other_replies}
use Rattle.fed_inbox.specs.Log.{TakenFrom, with_replies}
use Rattle.fed_inbox.specs.TextList.{joined}
use Rattle.fed_inbox.specs.Answer.{with_taking}
use Rattle.fed_inbox.specs.OutcomeParts.{taking}
use Rattle.fed_inbox.proofs.Logs.{same_log, joined-push}
use Rattle.fed_inbox.proofs.log.Log.keep.Goals as goal

-- what a `push` that had room leaves
pushed : (lists : List (List (List ℕ))) (texts : List (List ℕ)) {now : List (List (List ℕ))} → now ≡ lists ++ texts ∷ [] → joined now ≡ joined lists ++ texts
pushed lists texts e = ap joined e ∙ joined-push lists texts

pub returns-clause-ok : goal.returns-clause-ok
returns-clause-ok g c =
    let l = c.self.inside in
    let o = c.args.outcome in
    let kept = g.S.ReplyStore.kept c.args.store.now in
    let pdus : c.push.new.self.items ≡ l.pdus.items ++ o.pdus ∷ [] =
    c.push.ensures.items ∙ ap (λ r. if is_ok r then c.reserve.new.self.items ++ o.pdus ∷ [] else c.reserve.new.self.items) c.unwrap.ensures ∙ ap (λ xs. xs ++ o.pdus ∷ []) c.reserve.ensures.items in
    let edus : c.push-2.new.self.items ≡ l.edus.items ++ o.edus ∷ [] =
    c.push-2.ensures.items ∙ ap (λ r. if is_ok r then c.reserve-2.new.self.items ++ o.edus ∷ [] else c.reserve-2.new.self.items) c.unwrap-2.ensures ∙ ap (λ xs. xs ++ o.edus ∷ []) c.reserve-2.ensures.items in
    let kept_is = c.in_ok-keep.ensures.ok ∙ ap (λ n. with_reply kept n c.args.txn.now c.deref.result.now) c.as_str.ensures.text ∙ ap (with_reply kept l.origin c.args.txn.now) c.deref.ensures.value in
    same_log refl (ap (λ (k : KeptReplies). replies_of k l.origin) kept_is ∙ own_replies kept l.origin c.args.txn.now o.reply.items) (pushed l.pdus.items o.pdus pdus) (pushed l.edus.items o.edus edus)
    ∙ ap (λ (t : TakenFrom). with_taking (with_replies kept t) c.args.txn.now (taking o)) c.self.view_is

pub returns-clause-others : goal.returns-clause-others
returns-clause-others g c other apart =
    let l = c.self.inside in
    let kept = g.S.ReplyStore.kept c.args.store.now in
    let kept_is = c.in_ok-keep.ensures.ok ∙ ap (λ n. with_reply kept n c.args.txn.now c.deref.result.now) c.as_str.ensures.text in
    ap (λ (k : KeptReplies). replies_of k other) kept_is ∙ other_replies kept l.origin c.args.txn.now c.deref.result.now other (λ e. apart (e ∙ ap (λ (t : TakenFrom). t.origin) c.self.view_is))
