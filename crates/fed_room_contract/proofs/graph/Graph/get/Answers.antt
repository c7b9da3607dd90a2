use Rattle.std.proofs.Common.{sym, ap, ◌∙◌, option_map}
use Rattle.fed_room_contract.specs.Graph.{has_id}
use Rattle.fed_room_contract.proofs.Positions.{find-position, find-no_position}
use Rattle.fed_room_contract.proofs.graph.Graph.get.Goals as goal

pub returns-in_err-place : goal.returns-in_err-place
returns-in_err-place c = ap (option_map (λ s. s.now)) c.from_residual.ensures ∙ sym (find-no_position (has_id c.args.id.now) c.args.self.now.stored (sym c.in_err-place.ensures.place))

pub returns : goal.returns
returns c = c.at.ensures ∙ sym (find-position (has_id c.args.id.now) c.args.self.now.stored c.in_ok-place.field-0 (sym c.in_ok-place.ensures.place))
