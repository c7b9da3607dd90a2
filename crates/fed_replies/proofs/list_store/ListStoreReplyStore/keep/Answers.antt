use Rattle.std.proofs.Common.{◌≡◌, sym, ◌∙◌, ap, Some, is_some, option_map, string_bytes}
use Rattle.std.proofs.lemmas.Result.{on_ok_weaker, on_err_weaker}
use Rattle.std.specs.FinMap as finite
use Rattle.std.specs.Map.{lookup}
use Rattle.fed_json.proofs.TextMaps.{at, get-text_map}
use Rattle.fed_replies.specs.Kept.{OriginReplies, KeptReplies}
use Rattle.fed_replies.proofs.Maps.{text_map-set, text_map-same, text_map-missing}
use Rattle.fed_replies.proofs.Kept.{replies_of_some}
use Rattle.fed_replies.proofs.list_store.ListStoreReplyStore.keep.Goals as goal

pub returns-in-Some-clause-ok : goal.returns-in-Some-clause-ok
returns-in-Some-clause-ok c =
    let origin = c.args.origin.now in
    let kept = c.args.self.now in
    let es = c.self.inside.origins.entries in
    let found : lookup (at origin) es ≡ Some c.in-Some.replies.now = sym c.in-Some.ensures.value in
    let there : finite.get kept origin ≡ Some c.in-Some.replies.now =
    ap (λ (m : KeptReplies). finite.get m origin) (sym c.self.view_is) ∙ get-text_map (λ (m : OriginReplies). m) es c.self.invariant origin ∙ ap (option_map (λ (m : OriginReplies). m)) found in
    let h = c.get_mut.follows.holds c.insert.new.self in
    let written = text_map-set (λ (m : OriginReplies). m) es (c.get_mut.follows.lender c.insert.new.self).entries origin c.insert.new.self c.self.invariant h.4 (ap is_some found) h.0 in
    let txn_is : string_bytes c.in_ok-txn.txn ≡ c.args.txn.now = c.in_ok-txn.ensures.ok in
    let reply_is : c.in_ok-reply.reply.items ≡ c.args.reply.now = c.in_ok-reply.ensures.items in
    on_ok_weaker c.insert.result (λ e.
    written ∙ ap (λ (m : KeptReplies). finite.insert m origin c.insert.new.self) c.self.view_is
    ∙ ap (finite.insert kept origin) (e ∙ ap (λ t. finite.insert c.in-Some.replies.now t c.in_ok-reply.reply.items) txn_is ∙ ap (finite.insert c.in-Some.replies.now c.args.txn.now) reply_is
    ∙ ap (λ (m : OriginReplies). finite.insert m c.args.txn.now c.args.reply.now) (sym (replies_of_some kept origin c.in-Some.replies.now there)))) c.insert.ensures.ok

pub returns-in-Some-clause-err : goal.returns-in-Some-clause-err
returns-in-Some-clause-err c =
    let origin = c.args.origin.now in
    let es = c.self.inside.origins.entries in
    let found : lookup (at origin) es ≡ Some c.in-Some.replies.now = sym c.in-Some.ensures.value in
    let h = c.get_mut.follows.holds c.insert.new.self in
    on_err_weaker c.insert.result (λ e. text_map-same (λ (m : OriginReplies). m) es (c.get_mut.follows.lender c.insert.new.self).entries origin c.insert.new.self (found ∙ ap Some (sym e)) h.0 ∙ c.self.view_is) c.insert.ensures.err

pub keep_first-requires : goal.keep_first-requires
keep_first-requires c =
    text_map-missing (λ (m : OriginReplies). m) c.self.inside.origins.entries c.get_mut.follows.lender-at-none.entries c.args.origin.now (string_bytes c.in_ok-from_str.field-0) c.self.invariant
    (sym c.in_default.ensures.value) (ap (λ m. m.entries) c.get_mut.follows.holds-at-none) c.in_ok-from_str.ensures.ok
