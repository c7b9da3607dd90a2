use Rattle.fed_room_contract.proofs.Graphs.{no_graph, graph_grows, graph_last, graph_front}
use Rattle.fed_room_contract.proofs.laws.graphs_grow.Goals as goal

pub returns : goal.returns
returns c = record { empty = no_graph; next = graph_grows; last = graph_last; front = graph_front }
