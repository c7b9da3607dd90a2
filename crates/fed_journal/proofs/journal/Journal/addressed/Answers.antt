use Rattle.std.proofs.Common.{ap, ◌∙◌}
use Rattle.fed_journal.specs.Journal.{JournalState, event_in, addressed}
use Rattle.fed_journal.specs.Standing.{what_stands}
use Rattle.fed_journal.proofs.Journals.{lane_read, addressed_stand}
use Rattle.fed_journal.proofs.journal.Journal.addressed.Goals as goal

pub returns : goal.returns
returns c =
    let entries = c.self.inside.entries.items in
    let lane = lane_read entries c.self.inside.reserved c.self.inside.lanes.items c.place.result c.args.dest c.index.result.now c.self.invariant.count c.self.invariant.lanes c.place.ensures.place c.place.ensures.within c.index.ensures in
    c.at.ensures
    ∙ ap (λ es. what_stands event_in es c.events.result.now) c.deref.ensures.value
    ∙ ap (what_stands event_in entries) (c.events.ensures ∙ lane.events)
    ∙ addressed_stand entries c.args.dest
    ∙ ap (λ (j : JournalState). addressed j.entries c.args.dest) c.self.view_is
