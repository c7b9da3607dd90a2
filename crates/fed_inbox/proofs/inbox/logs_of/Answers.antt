use Rattle.std.proofs.Common.{◌≡◌, arith, sym, subst}
use Rattle.std.proofs.lemmas.Grind.{common_steps}
use Rattle.fed_inbox.specs.Log.{AreByOrigin}
use Rattle.fed_inbox.specs.InboxParts.{nothing_from_all}
use Rattle.fed_inbox.proofs.Origins.{new_by_origin}
use Rattle.fed_inbox.proofs.inbox.logs_of.Goals as goal

pub returns-clause-order : goal.returns-clause-order
returns-clause-order c =
    let whole : c.loop-server.logs.items ≡ nothing_from_all c.args.own.now c.args.servers = grind (arith, common_steps) in
    subst AreByOrigin (sym whole) (new_by_origin c.args.own.now c.args.servers c.into_names-server-items.ensures.order)
