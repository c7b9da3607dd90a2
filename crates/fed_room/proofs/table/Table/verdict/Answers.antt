use Rattle.std.proofs.Common.{None, Some, sym, ap, ◌∙◌}
use Rattle.fed_room_contract.proofs.TextUpdates.{text_map-at}
use Rattle.fed_room.specs.Table.{TableState, verdict_in, verdict_at}
use Rattle.fed_room.proofs.table.Table.verdict.Goals as goal

pub returns-in-Some : goal.returns-in-Some
returns-in-Some c =
    ap verdict_in (sym (text_map-at c.self.inside.rows c.args.id.now (Some c.in-Some.row.now) c.self.invariant c.in-Some.ensures.value))
    ∙ ap (λ (t : TableState). verdict_at t c.args.id.now) c.self.view_is

pub returns-in-None : goal.returns-in-None
returns-in-None c =
    ap verdict_in (sym (text_map-at c.self.inside.rows c.args.id.now None c.self.invariant c.in-None.ensures.value))
    ∙ ap (λ (t : TableState). verdict_at t c.args.id.now) c.self.view_is
