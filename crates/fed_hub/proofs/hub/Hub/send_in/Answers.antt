use Rattle.std.proofs.Common.{Ok, Err, length, sym, subst}
use Rattle.fed_room_contract.specs.Prepared.{PreparedEvent, signer_of}
use Rattle.fed_room.specs.Room.{room_of}
use Rattle.fed_hub_state.specs.Sections.{EventIsOffered}
use Rattle.fed_hub.specs.declared.offering.Unsent.{Unsent}
use Rattle.fed_hub.specs.Offering.{IsSentIn}
use Rattle.fed_hub.proofs.Sendings.{made_of, is_sent, not_sent, copied, nothing_so, told_so}
use Rattle.fed_hub.proofs.hub.Hub.send_in.Goals as goal

pub returns-in-Err : goal.returns-in-Err
returns-in-Err g c =
    let signer = signer_of (g.K.Keys.own_name c.args.keys.now) (g.K.Keys.own_key c.args.keys.now) (g.K.Keys.own_signature c.args.keys.now) (g.K.Keys.checks c.args.keys.now) in
    let wires = g.N.Naming.wires in
    let ready = room_of c.prepare.new.self.room in
    let p = c.in_ok-prepared.prepared in
    let fault = c.in-Err.fault in
    let dests = c.in_ok-outgoing.field-0.outgoing.dests in
    let old = c.deref_mut.result.now in
    let share = c.client.inside.share in
    let told = c.ready.new.told in
    let r = c.in_ok-outgoing.field-0 in
    let of = c.in_ok-outgoing.ensures.ready in
    let offered = subst (λ (q : PreparedEvent). EventIsOffered q dests ready old share (Err fault) (room_of c.offer-offered.new.room.room) c.offer-offered.new.journal c.offer-offered.new.client) of.made.event c.in-Err.ensures.offered in
    let nothing = nothing_so c.args.client.now c.client.inside.told told c.client.view_is c.in_ok-outgoing.ensures.same.0 c.in_ok-outgoing.ensures.same.1 in
    subst (λ (u : Unsent). IsSentIn signer wires c.args.draft c.args.room.now c.args.client.now (Err u) c.offer-offered.new.room told) (sym c.of_entering.ensures)
    (not_sent signer wires c.args.draft r.draft c.args.room.now c.offer-offered.new.room ready share c.offer-offered.new.client c.args.client.now told p dests old c.offer-offered.new.journal fault (made_of p _ c.in_ok-prepared.ensures.told)
    c.in_ok-prepared.ensures.stays.0 nothing (copied c.args.draft r.draft c.copy-copy.result c.copy-copy.ensures of.same_draft) c.in-Err.ensures.full offered)

pub returns-in-Ok : goal.returns-in-Ok
returns-in-Ok g c =
    let signer = signer_of (g.K.Keys.own_name c.args.keys.now) (g.K.Keys.own_key c.args.keys.now) (g.K.Keys.own_signature c.args.keys.now) (g.K.Keys.checks c.args.keys.now) in
    let room = room_of c.args.room.now.room in
    let ready = room_of c.prepare.new.self.room in
    let p = c.in_ok-prepared.prepared in
    let dests = c.in_ok-outgoing.field-0.outgoing.dests in
    let number = c.in-Ok.number in
    let old = c.deref_mut.result.now in
    let share = c.client.inside.share in
    let told = c.ready.new.told in
    let r = c.in_ok-outgoing.field-0 in
    let of = c.in_ok-outgoing.ensures.ready in
    let offered = subst (λ (q : PreparedEvent). EventIsOffered q dests ready old share (Ok number) (room_of c.offer-offered.new.room.room) c.offer-offered.new.journal c.offer-offered.new.client) of.made.event c.in-Ok.ensures.offered in
    let made = made_of p _ c.in_ok-prepared.ensures.told in
    let so = is_sent signer c.args.draft c.args.self.now.list c.args.self.now.own room ready (room_of c.offer-offered.new.room.room) share c.offer-offered.new.client p dests old c.offer-offered.new.journal number made c.in_ok-prepared.ensures.ready of.destinations c.in_ok-prepared.ensures.stays.0 offered in (
      p,
      made,
      of.made.id,
      so.0,
      told_so c.args.client.now c.client.inside.told told c.note_event.new.self c.args.draft r.draft c.copy-copy.result number r.event_id r.same_id c.client.view_is c.copy-copy.ensures of.same_draft of.made.other_id
          c.in_ok-outgoing.ensures.same.0 c.in_ok-outgoing.ensures.same.1 c.note_event.ensures,
    )
