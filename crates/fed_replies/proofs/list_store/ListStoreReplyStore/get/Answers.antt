use Rattle.std.proofs.Common.{sym}
use Rattle.fed_replies.proofs.Kept.{none_kept}
use Rattle.fed_replies.proofs.list_store.ListStoreReplyStore.get.Goals as goal

pub returns-in_default-clause-kept : goal.returns-in_default-clause-kept
returns-in_default-clause-kept c = sym (none_kept c.args.self.now c.args.origin.now c.args.txn.now (sym c.in_default.ensures))
