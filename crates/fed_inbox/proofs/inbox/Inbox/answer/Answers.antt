use Rattle.fed_inbox.proofs.Wholes.{settled}
use Rattle.fed_inbox.proofs.inbox.Inbox.answer.Goals as goal

pub returns-clause-answered : goal.returns-clause-answered
returns-clause-answered g c =
    settled (g.K.Keys.checks c.args.keys.now) c.args.self.now.state c.args.request.now c.try_request-tried.result c.settle.result c.try_request-tried.new.self.state c.settle.new.self.state c.settle.new.self.fresh
    c.settle.ensures.reply c.settle.ensures.state c.settle.ensures.fresh c.try_request-tried.ensures.tried
