use Rattle.std.proofs.Common.{ap, sym, ◌∙◌, option_map}
use Rattle.std.specs.FinMap as finite
use Rattle.fed_json.proofs.TextMaps.{get-text_map}
use Rattle.fed_replies.specs.Kept.{OriginReplies, KeptReplies}
use Rattle.fed_replies.proofs.Maps.{lent}
use Rattle.fed_replies.proofs.list_store.ListStore.origin.Goals as goal

pub returns : goal.returns
returns c =
    lent (λ (m : OriginReplies). m) c.get.result ∙ ap (option_map (λ (m : OriginReplies). m)) c.get.ensures.value
    ∙ sym (get-text_map (λ (m : OriginReplies). m) c.self.inside.origins.entries c.self.invariant c.args.origin.now)
    ∙ ap (λ (m : KeptReplies). finite.get m c.args.origin.now) c.self.view_is
