use Rattle.std.proofs.Common.{ℕ, List, ◌∙◌, subst}
use Rattle.fed_hub_serving.specs.ServedParts.{IsSent}
use Rattle.fed_hub_serving.proofs.Replies.{served_for_memory}
use Rattle.fed_hub_serving.proofs.serving.serve_request.Goals as goal

pub returns-in_default : goal.returns-in_default
returns-in_default g c =
    let N = g.N.ServingNaming in
    served_for_memory N.checks N.known N.beginning c.args.request (g.D.InboxAccess.state c.args.inbox.now) c.args.token.now c.make_room.new.answered.items (g.W.Write.contents c.args.writer.now) (g.W.Write.contents c.send-in_default.new.writer)
    c.send-in_default.result c.from.result c.from.ensures (c.make_room.ensures.same ∙ c.token.view_is)
    (subst (λ (method : List ℕ). IsSent method (g.W.Write.contents c.args.writer.now) (g.W.Write.contents c.send-in_default.new.writer) c.from.result c.send-in_default.result) c.method.ensures c.send-in_default.ensures)
