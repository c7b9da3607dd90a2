use Rattle.std.proofs.Common.{sym, subst}
use Rattle.std.specs.Prelude.{None}
use Rattle.fed_hub_serving.specs.declared.judged_request.JudgedRequest.{JudgedRequest}
use Rattle.fed_hub_serving.specs.JudgedRequest.{IsJudged}
use Rattle.fed_hub_serving.specs.Served.{IsInboxReply, hidden}
use Rattle.fed_hub_serving.proofs.access.LockedInboxInboxAccess.take.Goals as goal

pub try_take-requires : goal.try_take-requires
try_take-requires g c = let N = g.N.ServingNaming in subst (IsJudged N.checks N.receiver N.known) (sym c.loop.invariant) c.requires

pub returns-in-Ok-clause-reply : goal.returns-in-Ok-clause-reply
returns-in-Ok-clause-reply g c =
    let N = g.N.ServingNaming in
    subst (λ (j : JudgedRequest). IsInboxReply N.checks N.beginning j.request c.in-Ok.reply.reply) c.loop.invariant c.in-Ok.ensures.reply.0

pub returns-in-Ok-clause-taken : goal.returns-in-Ok-clause-taken
returns-in-Ok-clause-taken g c = hidden None c.in-Ok.ensures.reply.1
