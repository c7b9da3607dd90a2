-- What may go to another thread, and what threads may share. Each type is shown by its parts, since a search for all of them at once finds
-- nothing.
use Prim.Native.Nat.{ℕ}
use mathlib.Core.List.{List}
use mir.Syntax.{Ty}
use denote.Exit.{Kept}
use denote.RattleType.{RattleType}
use denote.Param.{param, arg}
use denote.Param.Send.{IsSend, IsSync, AllSend, AllSync, sendable, view_send, view_sync, param_send, param_sync, arg_send, arg_sync, recorded_send, recorded_sync, struct_send, struct_sync}
use denote.Struct.Struct.{Struct}
use denote.Struct.Declared.{fields, shape}
use denote.Struct.Tuple.{TupleAt, type_at}
use Rattle.std.proofs.Crossing as crossing
use Rattle.std.proofs.MapsCrossing as maps
use Rattle.std.proofs.vec.Vec.TheSendSync as vec
use Rattle.std.proofs.sync.Mutex.TheSendSync as mutex
use Rattle.fed_keys.specs.declared.keys.Keys as keys
use Rattle.fed_dest.proofs.list.List.TheSendSync as list
use Rattle.fed_dest.proofs.server_index.ServerIndex.TheSendSync as index
use Rattle.fed_wires.proofs.board.Board.TheSendSync as board
use Rattle.fed_wires.proofs.board.Seat.TheSendSync as board_seat
use Rattle.fed_wires.proofs.credits.Credits.TheSendSync as credits
use Rattle.fed_hub_state.proofs.Crossing.{declared_send, declared_sync, parcel_send, receive_end_send, kept_room_send, seated_outbox_send, sending_journal_send}
use Rattle.fed_json.proofs.tree.Tree.TheLaws.TheKnot
use Rattle.fed_hub_told.specs.contracts.told.Told as told
use Rattle.fed_hub_state.proofs.client_token.ClientToken.TheSendSync as share
use Rattle.fed_hub_state.specs.declared.naming.Naming as naming
use Rattle.fed_hub_serving.specs.declared.naming.ServingNaming as serving
use Rattle.fed_hub.proofs.ServingCrossing.{reception_sync}
use Rattle.fed_hub.specs.contracts.client_token.ClientToken as client
use Rattle.fed_hub.specs.contracts.client_token.ClientToken.TheInside as client_inside
use Rattle.fed_hub.specs.contracts.tokens.SenderToken as token
use Rattle.fed_hub.specs.contracts.tokens.SenderToken.TheInside as token_inside
use Rattle.fed_hub.specs.contracts.tokens.Seat as seat
use Rattle.fed_hub.specs.contracts.tokens.Seat.TheInside as seat_inside
use Rattle.fed_hub.specs.contracts.rooms.Rooms as rooms
use Rattle.fed_hub.specs.contracts.rooms.Rooms.TheInside as rooms_inside
use Rattle.fed_hub.specs.contracts.hub.Hub as hub
use Rattle.fed_hub.specs.contracts.hub.Hub.TheInside as hub_inside

told_send : IsSend told.the_row
told_send = first_of (
  search (maps.crosses, crossing.crosses, TheKnot.crosses, sendable) depth 60 fits 20000,
  search (maps.crosses, crossing.crosses, TheKnot.crosses_both, sendable) depth 60 fits 20000,
)

pub client_token_send : (N : RattleType) (names : naming.Ghosts N.Denot) → IsSend (client.the_row N names)
client_token_send N names = view_send _ _ _ _ _ (declared_send (client_inside.the_type N names) (share.the_send N names, (told_send, tt)))

pub sender_token_send : (N : RattleType) (names : naming.Ghosts N.Denot) → IsSend (token.the_row N names)
sender_token_send N names = view_send _ _ _ _ _ (declared_send (token_inside.the_type N names) (
  index.the_send,
  (
    receive_end_send,
    (
      search (parcel_send, sendable) depth 60 fits 20000,
      (
        search sendable depth 60,
        (search sendable depth 60, tt),
      ),
    ),
  ),
))

pub seat_send : (N : RattleType) (names : naming.Ghosts N.Denot) → IsSend (seat.the_row N names)
seat_send N names = view_send _ _ _ _ _ (declared_send (seat_inside.the_type N names) (board_seat.the_send, (search sendable depth 60, tt)))

rooms_sync : IsSync rooms.the_row
rooms_sync = view_sync _ _ _ _ _ (declared_sync rooms_inside.the_type (
  search (kept_room_send, mutex.the_sync, vec.the_sync, crossing.crosses, sendable) depth 60 fits 20000,
  (search (maps.crosses, crossing.crosses, sendable) depth 60 fits 20000, tt),
))

pub hub_sync : (N K : RattleType) (names : naming.Ghosts N.Denot) (serves : serving.Ghosts N.Denot) (signs : keys.Ghosts K.Denot) → IsSync K → IsSync (hub.the_row N K names serves signs)
hub_sync N K names serves signs k = view_sync _ _ _ _ _ (declared_sync (hub_inside.the_type N K names serves signs) (
  list.the_sync,
  (
    index.the_sync,
    (
      k,
      (
        search sendable depth 60,
        (
          rooms_sync,
          (
            search (sending_journal_send, mutex.the_sync, crossing.crosses, sendable) depth 60 fits 20000,
            (
              credits.the_sync,
              (
                search (seated_outbox_send, mutex.the_sync, vec.the_sync, crossing.crosses, sendable) depth 60 fits 20000,
                (reception_sync N serves, (board.the_sync, (search sendable depth 60, (search sendable depth 60, tt)))),
              ),
            ),
          ),
        ),
      ),
    ),
  ),
))

-- a closure, where all that it captures may go, or be shared
pub captures_send : (i : ℕ) (δ : Ty) (k : Kept) (ν : List ℕ) (Ts : List RattleType) → AllSend (fields (type_at ν Ts)) → IsSend (param i (arg δ k (TupleAt ν Ts)))
captures_send i δ k ν Ts s =
    let T = type_at ν Ts in
    param_send i (arg δ k (TupleAt ν Ts)) (arg_send δ k (TupleAt ν Ts) (recorded_send (Struct (shape T)) T.D T.to T.to_one (struct_send (shape T) s)))

pub captures_sync : (i : ℕ) (δ : Ty) (k : Kept) (ν : List ℕ) (Ts : List RattleType) → AllSync (fields (type_at ν Ts)) → IsSync (param i (arg δ k (TupleAt ν Ts)))
captures_sync i δ k ν Ts s =
    let T = type_at ν Ts in
    param_sync i (arg δ k (TupleAt ν Ts)) (arg_sync δ k (TupleAt ν Ts) (recorded_sync (Struct (shape T)) T.D T.to T.to_one (struct_sync (shape T) s)))
