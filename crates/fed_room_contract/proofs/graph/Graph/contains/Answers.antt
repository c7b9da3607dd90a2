use Rattle.std.proofs.Common.{ap, ◌∙◌, is_some}
use Rattle.fed_room_contract.specs.Graph.{has_id}
use Rattle.fed_room_contract.proofs.Positions.{is_some-position}
use Rattle.fed_room_contract.proofs.graph.Graph.contains.Goals as goal

pub returns : goal.returns
returns c = c.is_some.ensures ∙ ap is_some c.place.ensures.place ∙ is_some-position (has_id c.args.id.now) c.args.self.now.stored
