use Rattle.std.proofs.Common.{Some}
use Rattle.fed_hub_serving.specs.declared.inbox_reply.InboxReply.{InboxReply}
use Rattle.fed_hub_serving.specs.Sections.{RequestIsTaken}
use Rattle.fed_hub_serving.specs.Served.{IsInboxReply, IsTakenIn, seen}
use Rattle.fed_hub_serving.proofs.Replies.{replied, if_ok}
use Rattle.fed_hub_serving.proofs.access.KeptInboxInboxAccess.repeat.Goals as goal

pub returns-clause-reply : goal.returns-clause-reply
returns-clause-reply g c =
    let N = g.N.ServingNaming in
    let request = c.args.delivered.request in
    let old = c.args.self.now in
    let new = c.repeat.new.inbox in
    if_ok c.repeat.result (λ (r : InboxReply). RequestIsTaken N.checks N.known request old r.reply r.number new) (λ (r : InboxReply). IsInboxReply N.checks N.beginning request r.reply)
    (λ (r : InboxReply) taken. replied N.checks N.known N.beginning request old r.reply r.number new c.repeat.ensures.history taken) c.repeat.ensures.taken

pub returns-clause-taken : goal.returns-clause-taken
returns-clause-taken g c =
    let N = g.N.ServingNaming in
    let request = c.args.delivered.request in
    let old = c.args.self.now in
    let new = c.repeat.new.inbox in
    if_ok c.repeat.result (λ (r : InboxReply). RequestIsTaken N.checks N.known request old r.reply r.number new)
    (λ (r : InboxReply). IsTakenIn N.checks N.known request r.reply r.number (Some old) (Some new)) (λ (r : InboxReply) taken. seen old new taken) c.repeat.ensures.taken
