use Rattle.std.proofs.Common.{ap, ◌∙◌, Vec, ℕ, string_bytes}
use Rattle.std.specs.declared.alloc.Global.{Global}
use Rattle.std.specs.FinMap as finite
use Rattle.fed_json.proofs.TextMaps.{text_map-insert}
use Rattle.fed_replies.specs.Kept.{OriginReplies}
use Rattle.fed_replies.proofs.numbered.Numbered.insert.Goals as goal

pub returns-clause-ok : goal.returns-clause-ok
returns-clause-ok c =
    let e = c.in_ok-insert.ensures in
    text_map-insert (λ (v : Vec ℕ Global). v.items) c.self.inside.replies.entries c.insert.new.self.entries c.args.txn c.args.reply c.self.invariant e.ordered e.entries
    ∙ ap (λ (m : OriginReplies). finite.insert m (string_bytes c.args.txn) c.args.reply.items) c.self.view_is
