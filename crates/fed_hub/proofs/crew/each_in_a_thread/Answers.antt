use mathlib.Core.List.{[], ◌∷◌}
use denote.Exit.{no}
use denote.Param.{param}
use denote.Param.Send.{shr_send, mut_slice_send}
use denote.Ref.{ShrRef}
use denote.Slice.{MutSlice}
use Rattle.fed_hub.specs.contracts.hub.Hub as hub
use Rattle.fed_hub.proofs.Crossing.{captures_send, hub_sync, seat_send}
use Rattle.fed_hub.specs.contracts.tokens.Seat as seat_type
use Rattle.fed_hub.proofs.crew.each_in_a_thread.Goals as goal

pub join-requires-send-F : goal.join-requires-send-F
join-requires-send-F g c κs within =
    let N = param 0 g.row.N in
    let K = param 1 g.row.K in
    let C = param 2 g.row.C in
    let Hub = hub.the_row N K g.N.Naming g.N.ServingNaming g.K.Keys in
    let Seat = seat_type.the_row N g.N.Naming in
    captures_send 1 _ no _ (ShrRef _ _ C ∷ ShrRef _ _ Hub ∷ MutSlice _ _ Seat ∷ []) (
      shr_send _ _ C c.type_bounds.sync-C,
      (shr_send _ _ Hub (hub_sync N K g.N.Naming g.N.ServingNaming g.K.Keys c.type_bounds.sync-K), (mut_slice_send _ _ Seat (seat_send N g.N.Naming), tt)),
    )
