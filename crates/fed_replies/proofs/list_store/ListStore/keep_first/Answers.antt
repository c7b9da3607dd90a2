use Rattle.std.proofs.Common.{◌≡◌, ap, sym, ◌∙◌, string_bytes}
use Rattle.std.specs.FinMap as finite
use Rattle.fed_json.proofs.TextMaps.{text_map-insert}
use Rattle.fed_replies.specs.Kept.{OriginReplies, KeptReplies, replies_of}
use Rattle.fed_replies.proofs.Kept.{replies_of_none}
use Rattle.fed_replies.proofs.list_store.ListStore.keep_first.Goals as goal

pub returns-clause-ok : goal.returns-clause-ok
returns-clause-ok c =
    let origin = string_bytes c.args.origin in
    let txn = string_bytes c.args.txn in
    let reply = c.args.reply.items in
    let e = c.in_ok-insert-2.ensures in
    let none : finite.empty ≡ replies_of c.args.self.now origin = sym (replies_of_none c.args.self.now origin c.requires) in
    let first : c.insert.new.self ≡ finite.insert (replies_of c.args.self.now origin) txn reply =
    c.in_ok-insert.ensures.ok ∙ ap (λ (m : OriginReplies). finite.insert m txn reply) (c.new-replies.ensures ∙ none) in
    text_map-insert (λ (m : OriginReplies). m) c.self.inside.origins.entries c.insert-2.new.self.entries c.args.origin c.insert.new.self c.self.invariant e.ordered e.entries
    ∙ ap (λ (m : KeptReplies). finite.insert m origin c.insert.new.self) c.self.view_is
    ∙ ap (finite.insert c.args.self.now origin) first
