use Rattle.fed_hub_serving.proofs.Replies.{locked}
use Rattle.fed_hub_serving.proofs.access.LockedInbox.try_take.Goals as goal

pub returns-clause-reply : goal.returns-clause-reply
returns-clause-reply g c =
    let N = g.N.ServingNaming in
    locked N.checks N.known N.beginning c.args.judged.request _ c.take.result c.take.new.inbox c.take.ensures.history c.take.ensures.taken
