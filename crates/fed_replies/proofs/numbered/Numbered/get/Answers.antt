use Rattle.std.proofs.Common.{ap, sym, ◌∙◌, option_map, Vec, ℕ}
use Rattle.std.specs.declared.alloc.Global.{Global}
use Rattle.std.specs.FinMap as finite
use Rattle.fed_json.proofs.TextMaps.{get-text_map}
use Rattle.fed_replies.specs.Kept.{OriginReplies}
use Rattle.fed_replies.proofs.Maps.{lent}
use Rattle.fed_replies.proofs.numbered.Numbered.get.Goals as goal

pub returns : goal.returns
returns c =
    lent (λ (v : Vec ℕ Global). v.items) c.get.result ∙ ap (option_map (λ (v : Vec ℕ Global). v.items)) c.get.ensures.value
    ∙ sym (get-text_map (λ (v : Vec ℕ Global). v.items) c.self.inside.replies.entries c.self.invariant c.args.txn.now)
    ∙ ap (λ (m : OriginReplies). finite.get m c.args.txn.now) c.self.view_is
