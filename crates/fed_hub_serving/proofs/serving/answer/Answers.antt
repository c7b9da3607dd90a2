use Rattle.std.proofs.Common.{subst}
use Rattle.fed_keys.specs.Keys.{Checks}
use Rattle.fed_inbox.specs.Receiver.{ReceiverState}
use Rattle.fed_hub_serving.specs.Delivered.{IsDelivered}
use Rattle.fed_hub_serving.specs.JudgedRequest.{IsJudged}
use Rattle.fed_hub_serving.proofs.serving.answer.Goals as goal

pub answer_delivered-requires-clause-delivered : goal.answer_delivered-requires-clause-delivered
answer_delivered-requires-clause-delivered g c =
    subst (λ (y : Checks × ReceiverState). IsDelivered y.0 y.1 c.in-Ok.delivered) (λ i. (c.requires.checks i, c.requires.receiver i)) c.in-Ok.ensures.delivered

pub take-requires : goal.take-requires
take-requires g c =
    let known = g.N.ServingNaming.known in
    subst (λ (y : Checks × ReceiverState). IsJudged y.0 y.1 known c.in-Err.refused) (λ i. (c.requires.checks i, c.requires.receiver i)) (c.in-Err.ensures.refused known)
