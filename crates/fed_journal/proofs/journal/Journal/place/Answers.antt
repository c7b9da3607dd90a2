use Rattle.std.proofs.Common.{ap, ◌∙◌, arith}
use Rattle.fed_journal.specs.Journal.{JournalState, next_place}
use Rattle.fed_journal.proofs.Entries.{placed_within}
use Rattle.fed_journal.proofs.Journals.{lane_read, next_read}
use Rattle.fed_journal.proofs.journal.Journal.place.Goals as goal

pub next-requires : goal.next-requires
next-requires c =
    let entries = c.self.inside.entries.items in
    let lane = lane_read entries c.self.inside.reserved c.self.inside.lanes.items c.place.result c.args.dest c.index.result.now c.self.invariant.count c.self.invariant.lanes c.place.ensures.place c.place.ensures.within c.index.ensures in
    let placed = lane.placed in
    let most = placed_within entries c.args.dest in
    let within = c.self.invariant.within in
    omega arith

pub returns : goal.returns
returns c =
    let entries = c.self.inside.entries.items in
    let lane = lane_read entries c.self.inside.reserved c.self.inside.lanes.items c.place.result c.args.dest c.index.result.now c.self.invariant.count c.self.invariant.lanes c.place.ensures.place c.place.ensures.within c.index.ensures in
    c.next.ensures ∙ next_read entries c.self.inside.reserved c.args.dest c.index.result.now lane ∙ ap (λ (j : JournalState). next_place j.entries c.args.dest) c.self.view_is
