use Rattle.std.proofs.Common.{ap, ◌∙◌}
use Rattle.fed_journal.specs.Journal.{JournalState, edu_in, addressed_edus}
use Rattle.fed_journal.specs.Standing.{what_stands}
use Rattle.fed_journal.proofs.Journals.{lane_read, edus_stand}
use Rattle.fed_journal.proofs.journal.Journal.addressed_edus.Goals as goal

pub returns : goal.returns
returns c =
    let entries = c.self.inside.entries.items in
    let lane = lane_read entries c.self.inside.reserved c.self.inside.lanes.items c.place.result c.args.dest c.index.result.now c.self.invariant.count c.self.invariant.lanes c.place.ensures.place c.place.ensures.within c.index.ensures in
    c.at.ensures
    ∙ ap (λ es. what_stands edu_in es c.edus.result.now) c.deref.ensures.value
    ∙ ap (what_stands edu_in entries) (c.edus.ensures ∙ lane.edus)
    ∙ edus_stand entries c.args.dest
    ∙ ap (λ (j : JournalState). addressed_edus j.entries c.args.dest) c.self.view_is
