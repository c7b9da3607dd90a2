use Rattle.std.proofs.Common.{◌≡◌, ℕ, List, None, Some, sym, ap, ◌∙◌}
use Rattle.std.proofs.lemmas.Result.{IfOk-weaker}
use Rattle.fed_event.specs.EventId.{event_id_of}
use Rattle.fed_json.specs.TextMap.{text_map}
use Rattle.std.specs.FinMap as finite
use Rattle.fed_room_contract.proofs.TextUpdates.{text_map-at}
use Rattle.fed_room.specs.declared.table.Row.{Row}
use Rattle.fed_room.specs.Table.{TableState, before_in, before_at}
use Rattle.fed_room.proofs.table.Table.state_before.Goals as goal

pub returns-in-Some : goal.returns-in-Some
returns-in-Some c =
    let event = c.args.event.now in
    let rows = c.self.inside.rows in
    let id : c.as_str.result.now ≡ event_id_of event = c.as_str.ensures.text ∙ c.id.ensures in
    let row = ap (λ o. before_in o event) (sym (text_map-at rows c.as_str.result.now (Some c.in-Some.row.now) c.self.invariant c.in-Some.ensures.value))
    ∙ ap (λ (i : List ℕ). before_in (finite.get (text_map (λ (row : Row). row) rows.entries) i) event) id ∙ ap (λ (t : TableState). before_at t event) c.self.view_is in
    IfOk-weaker c.named.result _ _ (λ state same. same ∙ row) c.named.ensures

pub returns-in-None : goal.returns-in-None
returns-in-None c =
    let event = c.args.event.now in
    let rows = c.self.inside.rows in
    let id : c.as_str.result.now ≡ event_id_of event = c.as_str.ensures.text ∙ c.id.ensures in
    c.new.ensures ∙ ap (λ o. before_in o event) (sym (text_map-at rows c.as_str.result.now None c.self.invariant c.in-None.ensures.value))
    ∙ ap (λ (i : List ℕ). before_in (finite.get (text_map (λ (row : Row). row) rows.entries) i) event) id ∙ ap (λ (t : TableState). before_at t event) c.self.view_is
