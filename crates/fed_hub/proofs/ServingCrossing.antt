-- What the threads that serve share, and the inbox under its lock, may go to another thread or be shared. Each type is shown by its parts, since a
-- search for all of them at once finds nothing.
use denote.RattleType.{RattleType}
use denote.Param.Send.{IsSend, IsSync, sendable, struct_sync, view_send, view_sync}
use denote.Struct.Declared.{shape}
use Rattle.std.proofs.Crossing as crossing
use Rattle.std.proofs.MapsCrossing as maps
use Rattle.std.proofs.vec.Vec.TheSendSync as vec
use Rattle.std.proofs.sync.Mutex.TheSendSync as mutex
use Rattle.fed_json.proofs.tree.Tree.TheLaws.TheKnot
use Rattle.fed_event.specs.contracts.checked.Checked as checked
use Rattle.fed_wires.specs.contracts.ends.SendEnd as sender
use Rattle.fed_wires.specs.contracts.ends.SendPass as pass
use Rattle.fed_wires.proofs.ends.SendEnd.TheSendSync as send
use Rattle.fed_wires.proofs.ends.SendPass.TheSendSync as send_pass
use Rattle.fed_wires.proofs.credits.Credits.TheSendSync as credits
use Rattle.fed_wires.specs.contracts.numbering.AnyMessage as any_message
use Rattle.fed_wires.specs.contracts.numbering.AnyMessageNumbering.TheImpl as numbers
use Rattle.fed_replies.specs.contracts.packed_store.PackedStore as packed_store
use Rattle.fed_replies.specs.contracts.packed_store.PackedStoreReplyStore.TheImpl as keeps
use Rattle.fed_inbox.specs.contracts.inbox.Inbox as inbox
use Rattle.fed_inbox.specs.contracts.receiver.Receiver as receiver
use Rattle.fed_hub_serving.specs.contracts.kept_point.KeptPoint as point
use Rattle.fed_hub_serving.specs.contracts.room_wires.RoomWires as wires
use Rattle.fed_hub_serving.specs.contracts.room_wires.RoomWires.TheInside as wires_inside
use Rattle.fed_hub_serving.specs.contracts.kept_inbox.KeptInbox as kept
use Rattle.fed_hub_serving.specs.contracts.kept_inbox.KeptInbox.TheInside as kept_inside
use Rattle.fed_hub_serving.specs.contracts.access.SharedInbox as shared
use Rattle.fed_hub_serving.specs.declared.naming.ServingNaming as naming
use Rattle.fed_hub_state.proofs.Crossing.{declared_send, declared_sync}
use Rattle.fed_hub_rooms.proofs.Crossing.{checked_send}
use Rattle.fed_hub.specs.contracts.reception.Reception as reception
use Rattle.fed_hub.specs.contracts.reception.Reception.TheInside as reception_inside

inbox_send : IsSend (inbox.the_row packed_store.the_row keeps.ghosts)
inbox_send = first_of (
  search (maps.crosses, crossing.crosses, TheKnot.crosses, sendable) depth 60 fits 20000,
  search (maps.crosses, crossing.crosses, TheKnot.crosses_both, sendable) depth 60 fits 20000,
)

point_send : IsSend point.the_row
point_send = search (checked_send, maps.crosses, crossing.crosses, sendable) depth 60 fits 20000

send_end_send : IsSend (sender.the_row checked.the_row any_message.the_row (numbers.ghosts checked.the_row))
send_end_send = search (send.the_send, checked_send)

send_pass_send : IsSend (pass.the_row checked.the_row)
send_pass_send = search send_pass.the_send

wires_send : IsSend wires.the_row
wires_send = view_send _ _ _ _ _ (declared_send wires_inside.the_type (
  search (send_end_send, vec.the_send, crossing.crosses, sendable) depth 60 fits 20000,
  (search (send_pass_send, vec.the_send, crossing.crosses, sendable) depth 60 fits 20000, (search sendable depth 60, tt)),
))

kept_inbox_send : (N : RattleType) (names : naming.Ghosts N.Denot) → IsSend (kept.the_row N packed_store.the_row names keeps.ghosts)
kept_inbox_send N names = view_send _ _ _ _ _ (declared_send (kept_inside.the_type N packed_store.the_row names keeps.ghosts) (
  inbox_send,
  (search (point_send, vec.the_send, crossing.crosses, sendable) depth 60 fits 20000, (wires_send, (search sendable depth 60, tt))),
))

shared_inbox_sync : (N : RattleType) (names : naming.Ghosts N.Denot) → IsSync (shared.the_field N packed_store.the_row names keeps.ghosts).row
shared_inbox_sync N names = struct_sync (shape (shared.the_type N packed_store.the_row names keeps.ghosts)) (search (kept_inbox_send, mutex.the_sync, crossing.crosses, sendable) depth 60 fits 20000, (credits.the_sync, tt))

receiver_sync : IsSync receiver.the_row
receiver_sync = search (maps.crosses, crossing.crosses, sendable) depth 60 fits 20000

pub reception_sync : (N : RattleType) (names : naming.Ghosts N.Denot) → IsSync (reception.the_row N names)
reception_sync N names = view_sync _ _ _ _ _ (declared_sync (reception_inside.the_type N names) (
  search (vec.the_sync, crossing.crosses, sendable) depth 60 fits 20000,
  (receiver_sync, (shared_inbox_sync N names, tt)),
))
