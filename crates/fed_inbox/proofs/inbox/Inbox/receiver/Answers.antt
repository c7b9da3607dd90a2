use Rattle.std.proofs.Common.{subst}
use Rattle.fed_inbox.specs.Inbox.{Held}
use Rattle.fed_inbox.specs.Receiver.{IsInboxOf}
use Rattle.fed_inbox.proofs.Deliveries.{inbox_of}
use Rattle.fed_inbox.proofs.inbox.Inbox.receiver.Goals as goal

pub returns : goal.returns
returns g c =
    subst (λ (h : Held). IsInboxOf c.self.inside.receiver h.state) c.self.view_is
    (inbox_of c.self.inside.receiver (g.S.ReplyStore.kept c.self.inside.store) c.self.inside.logs.items c.self.invariant)
