use Rattle.std.proofs.Common.{map, string_bytes, sym, subst}
use Rattle.fed_inbox.specs.Delivery.{Settles}
use Rattle.fed_hub_serving.proofs.Takes.{refuses_for_memory}
use Rattle.fed_hub_serving.proofs.delivered_request.DeliveredRequest.judge.Goals as goal

pub returns-in-Ok-clause-judged : goal.returns-in-Ok-clause-judged
returns-in-Ok-clause-judged g c = record {
  decided = subst (Settles (g.K.Keys.checks c.args.keys.now) c.args.receiver.now c.args.self.request) (sym c.in-Ok.ensures.judged) c.requires;
  reply = c.in-Ok.ensures.reply;
  bound = c.in-Ok.ensures.bound;
}

pub returns-in-Err-clause-judged : goal.returns-in-Err-clause-judged
returns-in-Err-clause-judged g c =
    let checks = g.K.Keys.checks c.args.keys.now in
    c.refused.ensures.judged checks c.args.receiver.now (map string_bytes c.args.known.now) (refuses_for_memory checks c.args.receiver.now c.args.self.request)
