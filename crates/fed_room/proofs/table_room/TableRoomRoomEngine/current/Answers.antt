use Rattle.std.proofs.Common.{sym, ap, ◌∙◌, subst}
use Rattle.std.proofs.lemmas.Result.{IfOk-weaker}
use Rattle.fed_room_contract.specs.Graph.{is_stored}
use Rattle.fed_room_contract.specs.GraphState.{GraphState}
use Rattle.fed_room_contract.specs.Lawful.{NamesStored}
use Rattle.fed_room.specs.Lawful.{kept_passes}
use Rattle.fed_room.specs.Table.{current_at}
use Rattle.fed_room.specs.TableRoom.{TableRoomState, room_of}
use Rattle.fed_room.proofs.table_room.TableRoomRoomEngine.current.Goals as goal

pub returns-clause-named : goal.returns-clause-named
returns-clause-named c =
    let table = c.self.inside.table in
    let stored = (room_of c.args.self.now).stored in
    let same = ap (λ (g : GraphState). current_at table g.stored) c.graph.ensures ∙ ap (λ (r : TableRoomState). current_at table (room_of r).stored) c.self.view_is in
    IfOk-weaker c.current.result _ _ (λ state e. subst (NamesStored stored) (sym (e ∙ same)) (kept_passes (is_stored stored) table.current)) c.current.ensures
