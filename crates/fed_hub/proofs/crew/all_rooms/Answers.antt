use mathlib.Core.List.{[], ◌∷◌}
use denote.Exit.{no}
use denote.Param.{param}
use denote.Param.Send.{param_send, arg_send, shr_sync}
use denote.Ref.{ShrRef}
use Rattle.fed_hub.specs.contracts.hub.Hub as hub
use Rattle.fed_hub.proofs.Crossing.{captures_sync, hub_sync}
use Rattle.fed_hub_rooms.proofs.Crossing.{room_token_send}
use Rattle.fed_hub.proofs.crew.all_rooms.Goals as goal

pub for_each_mut-requires-sync-F : goal.for_each_mut-requires-sync-F
for_each_mut-requires-sync-F g c κs within =
    let N = param 0 g.row.N in
    let K = param 1 g.row.K in
    let C = param 2 g.row.C in
    let Hub = hub.the_row N K g.N.Naming g.N.ServingNaming g.K.Keys in
    captures_sync 2 _ no _ (ShrRef _ _ C ∷ ShrRef _ _ Hub ∷ []) (
      shr_sync _ _ C c.type_bounds.sync-C,
      (shr_sync _ _ Hub (hub_sync N K g.N.Naming g.N.ServingNaming g.K.Keys c.type_bounds.sync-K), tt),
    )

pub for_each_mut-requires-send-T : goal.for_each_mut-requires-send-T
for_each_mut-requires-send-T g c κs within = let N = param 0 g.row.N in param_send 1 _ (arg_send _ no _ (room_token_send N g.N.ServingNaming))
