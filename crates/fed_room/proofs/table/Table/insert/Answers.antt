use Rattle.std.proofs.Common.{ℕ, List, ap, ◌∙◌}
use Rattle.std.specs.FinMap as finite
use Rattle.fed_json.specs.TextMap.{TextMap, text_map}
use Rattle.fed_json.proofs.TextMaps.{text_map-insert}
use Rattle.fed_room.specs.declared.table.Row.{Row}
use Rattle.fed_room.specs.Table.{TableState, with_row}
use Rattle.fed_room.proofs.table.Table.insert.Goals as goal

pub returns-clause-ok : goal.returns-clause-ok
returns-clause-ok c =
    let old = c.self.inside.rows in
    let row : Row = record { verdict = c.args.verdict; before = c.args.before } in
    let rows = text_map-insert (λ (row : Row). row) old.entries c.insert.new.self.entries c.in_ok-id.id row c.self.invariant c.in_ok-insert.ensures.ordered c.in_ok-insert.ensures.entries
    ∙ ap (λ (k : List ℕ). finite.insert (text_map (λ (row : Row). row) old.entries) k row) c.in_ok-id.ensures.ok in
    ap (λ (m : TextMap Row). record { rows = m; current = c.self.inside.current }) rows ∙ ap (λ (t : TableState). with_row t c.args.id.now row) c.self.view_is
