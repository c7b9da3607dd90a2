-- What the thread of a room holds may go to another thread. That is shown by its parts, since a search through all of them gives up.
use denote.RattleType.{RattleType}
use denote.Param.Send.{IsSend, sendable, view_send}
use Rattle.std.proofs.Crossing as crossing
use Rattle.std.proofs.MapsCrossing as maps
use Rattle.std.proofs.vec.Vec.TheSendSync as vec
use Rattle.fed_json.proofs.tree.Tree.TheLaws.TheKnot
use Rattle.fed_event.specs.contracts.checked.Checked as checked
use Rattle.fed_wires.specs.contracts.ends.ReceiveEnd as receiver
use Rattle.fed_wires.proofs.ends.ReceiveEnd.TheSendSync as receive
use Rattle.fed_wires.specs.contracts.numbering.AnyMessage as any_message
use Rattle.fed_wires.specs.contracts.numbering.AnyMessageNumbering.TheImpl as numbers
use Rattle.fed_hub_serving.specs.declared.naming.ServingNaming as naming
use Rattle.fed_hub_state.proofs.Crossing.{declared_send}
use Rattle.fed_hub_rooms.specs.contracts.room_token.RoomToken as token
use Rattle.fed_hub_rooms.specs.contracts.room_token.RoomToken.TheInside as token_inside

pub checked_send : IsSend checked.the_row
checked_send = first_of (
  search (maps.crosses, crossing.crosses, TheKnot.crosses, sendable) depth 60 fits 20000,
  search (maps.crosses, crossing.crosses, TheKnot.crosses_both, sendable) depth 60 fits 20000,
)

receive_end_send : IsSend (receiver.the_row checked.the_row any_message.the_row (numbers.ghosts checked.the_row))
receive_end_send = search (receive.the_send, checked_send)

pub room_token_send : (N : RattleType) (names : naming.Ghosts N.Denot) → IsSend (token.the_row N names)
room_token_send N names = view_send _ _ _ _ _ (declared_send (token_inside.the_type N names) (
  search sendable depth 60,
  (
    receive_end_send,
    (
      search (checked_send, crossing.crosses, sendable) depth 60 fits 20000,
      (
        search (checked_send, vec.the_send, crossing.crosses, sendable) depth 60 fits 20000,
        (search sendable depth 60, tt),
      ),
    ),
  ),
))
