use Rattle.std.proofs.Common.{None}
use Rattle.fed_hub_serving.specs.declared.inbox_reply.InboxReply.{InboxReply}
use Rattle.fed_hub_serving.specs.Locked.{IsLockedReply}
use Rattle.fed_hub_serving.specs.Served.{IsInboxReply, IsTakenIn, hidden}
use Rattle.fed_hub_serving.proofs.Replies.{locked, if_ok}
use Rattle.fed_hub_serving.proofs.access.LockedInboxInboxAccess.repeat.Goals as goal

pub returns-clause-reply : goal.returns-clause-reply
returns-clause-reply g c =
    let N = g.N.ServingNaming in
    let request = c.args.delivered.request in
    if_ok c.repeat.result (IsLockedReply N.checks N.beginning request) (λ (r : InboxReply). IsInboxReply N.checks N.beginning request r.reply) (λ (r : InboxReply) is. is.0)
    (locked N.checks N.known N.beginning request _ c.repeat.result c.repeat.new.inbox c.repeat.ensures.history c.repeat.ensures.taken)

pub returns-clause-taken : goal.returns-clause-taken
returns-clause-taken g c =
    let N = g.N.ServingNaming in
    let request = c.args.delivered.request in
    if_ok c.repeat.result (IsLockedReply N.checks N.beginning request) (λ (r : InboxReply). IsTakenIn N.checks N.known request r.reply r.number None None) (λ (r : InboxReply) is. hidden None is.1)
    (locked N.checks N.known N.beginning request _ c.repeat.result c.repeat.new.inbox c.repeat.ensures.history c.repeat.ensures.taken)
