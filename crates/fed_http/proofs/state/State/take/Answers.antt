use Rattle.std.proofs.Common.{◌≡◌, ◌-◌, length, take, drop, sym, ap, subst}
use Rattle.fed_http.specs.Keeping.{Kept}
use Rattle.fed_http.specs.KeepingParts.{HasRoomAt, BodyEnds, BodyWaits, Begun, TakeFails}
use Rattle.fed_http.specs.declared.place.Place.{Place}
use Rattle.fed_http.proofs.Windows.{to_end}
use Rattle.fed_http.proofs.Lines.{on_some, on_none, passed_on}
use Rattle.fed_http.proofs.TakenBodies.{sound_for, body_waits_piece, if_none, begun_sound, begun_ends, begun_waits, begun_fails}
use Rattle.fed_http.proofs.state.State.take.Goals as goal

pub take_body-requires-clause-sound : goal.take_body-requires-clause-sound
take_body-requires-clause-sound c = sound_for c.args.kind c.args.self.now c.make_room.new.self c.in_ok-make_room.ensures.same c.requires

pub take_body-requires-clause-room : goal.take_body-requires-clause-room
take_body-requires-clause-room c =
    let made = c.make_room.new.self in
    let n = length c.args.piece.now in
    let same = c.in_ok-make_room.ensures.same in
    let place : made.place ≡ c.args.self.now.place = ap (λ (k : Kept). k.place) same in
    let P : Place → Type 0 = λ p. HasRoomAt p made n in
    subst P (sym place) c.in_ok-make_room.ensures.room

pub returns-then-ne-clause-waits : goal.returns-then-ne-clause-waits
returns-then-ne-clause-waits c = if_none c.take_body.result (body_waits_piece c.args.kind c.args.self.now c.make_room.new.self c.take_body.new.self c.args.piece.now c.in_ok-make_room.ensures.same) c.take_body.ensures.waits

pub take_body-requires-2-clause-sound : goal.take_body-requires-2-clause-sound
take_body-requires-2-clause-sound c =
    begun_sound c.args.kind c.args.self.now c.take_head.new.self c.args.piece.now c.in-Some.used c.requires (on_some (Begun c.args.kind c.args.self.now c.take_head.new.self c.args.piece.now) c.in-Some.is c.in_ok-used.ensures.begun)

pub returns-in_err-more-clause-fails : goal.returns-in_err-more-clause-fails
returns-in_err-more-clause-fails c =
    let kind = c.args.kind in
    let s = c.args.self.now in
    let now = c.take_head.new.self in
    let new = c.take_body-2.new.self in
    let piece = c.args.piece.now in
    let used = c.in-Some.used in
    let begun = on_some (Begun kind s now piece) c.in-Some.is c.in_ok-used.ensures.begun in
    let f = c.in_err-more.field-0.0 in
    passed_on c.from_residual-in_err-more.result (TakeFails kind s new piece) f c.from_residual-in_err-more.ensures.1
    (begun_fails kind s now new piece (take (length piece - used) (drop used piece)) used f begun (to_end piece used) c.in_err-more.ensures.fails)

pub returns-in-Some-2-clause-ends : goal.returns-in-Some-2-clause-ends
returns-in-Some-2-clause-ends c =
    let kind = c.args.kind in
    let s = c.args.self.now in
    let now = c.take_head.new.self in
    let new = c.take_body-2.new.self in
    let piece = c.args.piece.now in
    let used = c.in-Some.used in
    let slice = take (length piece - used) (drop used piece) in
    let begun = on_some (Begun kind s now piece) c.in-Some.is c.in_ok-used.ensures.begun in
    begun_ends kind s now new piece slice used c.in-Some-2.more begun (to_end piece used) (on_some (BodyEnds now new slice) c.in-Some-2.is c.in_ok-more.ensures.ends)

pub returns-in-None-clause-waits : goal.returns-in-None-clause-waits
returns-in-None-clause-waits c =
    let kind = c.args.kind in
    let s = c.args.self.now in
    let now = c.take_head.new.self in
    let new = c.take_body-2.new.self in
    let piece = c.args.piece.now in
    let used = c.in-Some.used in
    let slice = take (length piece - used) (drop used piece) in
    let begun = on_some (Begun kind s now piece) c.in-Some.is c.in_ok-used.ensures.begun in
    begun_waits kind s now new piece slice used begun (to_end piece used) (on_none (BodyWaits now new slice) c.in-None.is c.in_ok-more.ensures.waits)
