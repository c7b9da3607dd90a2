use Rattle.std.proofs.Common.{rules, ap, ◌∙◌}
use Rattle.std.proofs.lemmas.Fn.{filter_same}
use Rattle.std.proofs.lemmas.Result.{IfOk-weaker}
use Rattle.fed_room_contract.specs.Graph.{is_stored}
use Rattle.fed_room.specs.Table.{TableState, current_at}
use Rattle.fed_room.proofs.Laid.{kept_state}
use Rattle.fed_room.proofs.table.Table.current.Goals as goal

pub returns : goal.returns
returns c =
    let stored = c.args.graph.now.stored in
    IfOk-weaker c.state_of.result _ _ (λ state same.
    same ∙ kept_state (is_stored stored) c.in_ok-entries.entries.items c.retain.new.self.items c.self.inside.current c.in_ok-entries.ensures (filter_same _ _ _ (λ x b f' k. search rules) _ _ c.retain.ensures.filtered)
    ∙ ap (λ (t : TableState). current_at t stored) c.self.view_is) c.state_of.ensures
