use Rattle.std.proofs.Common.{not, sym, ◌∙◌}
use Rattle.std.specs.Ordering.{is_lt}
use Rattle.fed_room.specs.Links.{tip_cmp}
use Rattle.fed_room.proofs.Tips.{none-behind}
use Rattle.fed_room.proofs.links.place_for.Goals as goal

pub returns-in-None-clause-place : goal.returns-in-None-clause-place
returns-in-None-clause-place c =
    none-behind (λ other. not (is_lt (tip_cmp c.args.graph.now.stored other c.args.id.now))) c.args.sorted.now (sym c.first_behind.ensures ∙ c.in-None.is)
