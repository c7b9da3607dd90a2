use Rattle.std.proofs.Common.{rules, ◌∙◌}
use Rattle.std.proofs.lemmas.Fn.{filter_same}
use Rattle.std.proofs.lemmas.Result.{IfOk-weaker}
use Rattle.fed_room.specs.Table.{is_named}
use Rattle.fed_room.proofs.Laid.{kept_state}
use Rattle.fed_room.proofs.table.named.Goals as goal

pub returns : goal.returns
returns c =
    IfOk-weaker c.state_of.result _ _ (λ state same.
    same ∙ kept_state (is_named c.args.event.now) c.in_ok-entries.entries.items c.retain.new.self.items c.args.state.now c.in_ok-entries.ensures (filter_same _ _ _ (λ x b f' k. search rules) _ _ c.retain.ensures.filtered)) c.state_of.ensures
