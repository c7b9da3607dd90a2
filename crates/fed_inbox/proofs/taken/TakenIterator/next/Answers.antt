use Rattle.std.proofs.Common.{rules, sym}
use Rattle.fed_inbox.specs.TextList.{joined}
use Rattle.fed_inbox.specs.Taken.{texts_left}
use Rattle.fed_inbox.proofs.TextLists.{one_further}
use Rattle.fed_inbox.proofs.taken.TakenIterator.next.Goals as goal

pub returns-clause-steps : goal.returns-clause-steps
returns-clause-steps c =
    let t = c.loop-list.self in
    one_further _ (texts_left t.texts) (texts_left c.next.new.self) (joined t.lists.now) c.next.result (sym c.loop-list.invariant) (search rules) c.next.ensures.steps
