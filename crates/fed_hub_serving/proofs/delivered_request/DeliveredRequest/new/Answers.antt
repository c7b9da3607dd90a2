use Rattle.fed_hub_serving.proofs.delivered_request.DeliveredRequest.new.Goals as goal

pub returns-in-Err-clause-refused : goal.returns-in-Err-clause-refused
returns-in-Err-clause-refused g c known = c.refused.ensures.judged (g.K.Keys.checks c.args.keys.now) c.args.receiver.now known c.in-Err.ensures.err
