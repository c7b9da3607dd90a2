use Rattle.std.proofs.Common.{sym, subst}
use Rattle.fed_hub_serving.specs.declared.judged_request.JudgedRequest.{JudgedRequest}
use Rattle.fed_hub_serving.specs.JudgedRequest.{IsJudged}
use Rattle.fed_hub_serving.specs.Sections.{RequestIsTaken}
use Rattle.fed_hub_serving.specs.Served.{IsInboxReply, seen}
use Rattle.fed_hub_serving.specs.Serving.{ServingState}
use Rattle.fed_hub_serving.proofs.Replies.{replied}
use Rattle.fed_hub_serving.proofs.access.KeptInboxInboxAccess.take.Goals as goal

pub take-requires : goal.take-requires
take-requires g c = let N = g.N.ServingNaming in subst (IsJudged N.checks N.receiver N.known) (sym c.loop.invariant.0) c.requires

pub returns-in-Ok-clause-reply : goal.returns-in-Ok-clause-reply
returns-in-Ok-clause-reply g c =
    let N = g.N.ServingNaming in
    let r = c.in-Ok.reply in
    subst (λ (j : JudgedRequest). IsInboxReply N.checks N.beginning j.request r.reply) c.loop.invariant.0
    (replied N.checks N.known N.beginning c.loop.judged.request c.loop.self r.reply r.number c.take.new.inbox c.in-Ok.ensures.history c.in-Ok.ensures.taken)

pub returns-in-Ok-clause-taken : goal.returns-in-Ok-clause-taken
returns-in-Ok-clause-taken g c =
    let N = g.N.ServingNaming in
    let r = c.in-Ok.reply in
    seen _ _
    (subst (λ (y : JudgedRequest × ServingState). RequestIsTaken N.checks N.known y.0.request y.1 r.reply r.number c.take.new.inbox) (λ i. (c.loop.invariant.0 i, c.loop.invariant.1 i)) c.in-Ok.ensures.taken)
