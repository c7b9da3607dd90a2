use Rattle.fed_txn.proofs.Poured.{poured_all}
use Rattle.fed_txn.proofs.reply.members_of.Goals as goal

pub loop-id-init : goal.loop-id-init
loop-id-init c = rw (c.into_iter-id-iterator.ensures.into_iter_gives, c.iter-id-items.ensures.entries, c.empty_object-members.ensures) (poured_all c.args.verdicts.now)
