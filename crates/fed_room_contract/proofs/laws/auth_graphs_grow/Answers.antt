use Rattle.std.proofs.Common.{[], refl}
use Rattle.fed_room_contract.proofs.AuthGraphs.{auth_graph, no_auth_graph, auth_graph_grows, auth_graph_front}
use Rattle.fed_room_contract.proofs.laws.auth_graphs_grow.Goals as goal

pub returns : goal.returns
returns c = record { graph = auth_graph; empty = no_auth_graph; next = auth_graph_grows; last = λ events next graph. graph.each events next [] refl; front = auth_graph_front }
