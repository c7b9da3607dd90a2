use Rattle.std.proofs.Common.{Some, subst}
use Rattle.fed_hub_rooms.specs.declared.ran.Ran.TheVariants.{TurnsSpent, Memory}
use Rattle.fed_hub_rooms.specs.RoomHeld.{RoomHeld}
use Rattle.fed_hub_rooms.specs.Turns.{RoomRuns}
use Rattle.fed_hub_rooms.proofs.Gifts.{token_of, not_asked, came_back, all_stored, some_stored}
use Rattle.fed_hub_rooms.proofs.giving.give.Goals as goal

pub returns-in_default : goal.returns-in_default
returns-in_default g c =
    let t = c.token.inside in
    let state = g.A.RoomAccess.state c.args.room.now in
    let event = c.unwrap-event.result in
    let given = c.make_ready.new.given.items in
    subst (λ (h : RoomHeld). RoomRuns 1 h state Memory (token_of t.room t.end (Some event) given) state) c.token.view_is
    (not_asked t.room t.end t.hand t.given.items event given state c.make_ready.ensures.same)

pub returns-in-Ok-apply : goal.returns-in-Ok-apply
returns-in-Ok-apply g c =
    let t = c.token.inside in
    let old = g.A.RoomAccess.state c.args.room.now in
    let new = g.A.RoomAccess.state c.apply.new.self in
    let left = c.take.new.self in
    let noted = c.note.new.given.items in
    subst (λ (h : RoomHeld). RoomRuns 1 h old TurnsSpent (token_of t.room t.end left noted) new) c.token.view_is
    (all_stored t.room t.end t.hand t.given.items c.unwrap-event.result c.make_ready.new.given.items old new c.make_ready.ensures.same c.in-Ok-apply.field-0 c.in-Ok.copy left noted c.in-Ok.ensures.copies.0 c.note.ensures c.in-Ok-apply.ensures.applied)

pub returns-in-Err-Received : goal.returns-in-Err-Received
returns-in-Err-Received g c =
    let t = c.token.inside in
    let old = g.A.RoomAccess.state c.args.room.now in
    let new = g.A.RoomAccess.state c.apply.new.self in
    let left = c.take.new.self in
    let noted = c.note-in-Err-Received.new.given.items in
    subst (λ (h : RoomHeld). RoomRuns 1 h old Memory (token_of t.room t.end left noted) new) c.token.view_is
    (some_stored t.room t.end t.hand t.given.items c.unwrap-event.result c.make_ready.new.given.items old new c.make_ready.ensures.same c.in-Err-Received.field-0-0 c.in-Ok.copy left noted c.in-Ok.ensures.copies.0 c.note-in-Err-Received.ensures
    (rw c.in-Err-Received.field-0-is at c.in-Err-Received.ensures.applied))

pub returns-in-Err-NotReceived : goal.returns-in-Err-NotReceived
returns-in-Err-NotReceived g c =
    let t = c.token.inside in
    let old = g.A.RoomAccess.state c.args.room.now in
    let new = g.A.RoomAccess.state c.apply.new.self in
    let back = c.in-Err-NotReceived.back in
    let given = c.make_ready.new.given.items in
    subst (λ (h : RoomHeld). RoomRuns 1 h old Memory (token_of t.room t.end (Some back) given) new) c.token.view_is
    (came_back t.room t.end t.hand t.given.items c.unwrap-event.result given old new c.make_ready.ensures.same back (rw c.in-Err-NotReceived.field-0-is at c.in-Err-NotReceived.ensures.applied))
