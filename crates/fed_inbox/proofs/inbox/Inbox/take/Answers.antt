use Rattle.fed_inbox.specs.AnswerParts.{answer_with, fresh_with}
use Rattle.fed_inbox.specs.Delivery.{IsTaken}
use Rattle.fed_inbox.specs.DeliveryParts.{judgement}
use Rattle.fed_inbox.proofs.Histories.{of_same}
use Rattle.fed_inbox.proofs.inbox.Inbox.take.Goals as goal

pub returns : goal.returns
returns g c =
    let tried = c.try_take-tried in
    of_same (λ a n f. IsTaken c.args.self.now.state (judgement c.args.judged) a n f) c.settle.result (answer_with tried.result) c.settle.new.self.state tried.new.self.state c.settle.new.self.fresh (fresh_with tried.result)
    c.settle.ensures.reply c.settle.ensures.state c.settle.ensures.fresh tried.ensures
