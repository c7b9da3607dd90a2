use mathlib.Core.List.{[], ◌∷◌}
use denote.Exit.{no}
use denote.Param.{param}
use denote.Param.Send.{shr_send, mut_slice_send}
use denote.Ref.{ShrRef}
use denote.Slice.{MutSlice}
use Rattle.fed_hub.specs.contracts.hub.Hub as hub
use Rattle.fed_hub.proofs.Crossing.{captures_send, hub_sync}
use Rattle.fed_hub_rooms.proofs.Crossing.{room_token_send}
use Rattle.fed_hub_rooms.specs.contracts.room_token.RoomToken as room_type
use Rattle.fed_hub.proofs.crew.all_who_receive.Goals as goal

pub join-requires-send-F : goal.join-requires-send-F
join-requires-send-F g c κs within =
    let N = param 0 g.row.N in
    let K = param 1 g.row.K in
    let C = param 2 g.row.C in
    let R = param 3 g.row.R in
    let Hub = hub.the_row N K g.N.Naming g.N.ServingNaming g.K.Keys in
    let Room = room_type.the_row N g.N.ServingNaming in
    captures_send 1 _ no _ (ShrRef _ _ R ∷ ShrRef _ _ Hub ∷ ShrRef _ _ C ∷ MutSlice _ _ Room ∷ []) (
      shr_send _ _ R c.type_bounds.sync-R,
      (shr_send _ _ Hub (hub_sync N K g.N.Naming g.N.ServingNaming g.K.Keys c.type_bounds.sync-K), (shr_send _ _ C c.type_bounds.sync-C, (mut_slice_send _ _ Room (room_token_send N g.N.ServingNaming), tt))),
    )
