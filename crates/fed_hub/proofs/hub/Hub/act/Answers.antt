use Rattle.std.proofs.Common.{sym, subst}
use Rattle.fed_hub.specs.Sending.{IsAsked}
use Rattle.fed_hub.proofs.Nexts.{IsAskedBy, asked_by}
use Rattle.fed_hub.proofs.hub.Hub.act.Goals as goal

pub exchange-told-requires-clause-asked : goal.exchange-told-requires-clause-asked
exchange-told-requires-clause-asked g c =
    let hub = c.args.self.now in
    let dest = c.token.inside.dest in
    subst (λ bytes. IsAsked hub dest c.in-Exchange.number bytes) (sym c.deref.ensures.value) (subst (IsAskedBy hub dest) c.in-Exchange.is (asked_by hub dest c.now-now.result c.in-Ok.act c.in-Ok.ensures))
