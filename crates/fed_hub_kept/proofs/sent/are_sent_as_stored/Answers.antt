use Rattle.std.proofs.Common.{◌≡◌, ◌↔◌, IsTrue, Some, None, option_map, refl, sym, ap, ◌∙◌, subst}
use Rattle.std.proofs.lemmas.Bool.{false≢true}
use Rattle.fed_event.specs.Fields.{room_id_of}
use Rattle.fed_room.specs.Room.{room_of, room_rules}
use Rattle.fed_hub_kept.specs.Sent.{IsSentAsStored, IsEntrySent, room_at}
use Rattle.fed_hub_kept.proofs.Each.{each_more, not_each, each_so_far}
use Rattle.fed_hub_kept.proofs.InRooms.{sent_in, not_sent, other_sent}
use Rattle.fed_hub_kept.proofs.sent.are_sent_as_stored.Goals as goal

pub loop-entry-preserved-in_default : goal.loop-entry-preserved-in_default
loop-entry-preserved-in_default c =
    let Sent = IsEntrySent c.args.rooms.now c.args.servers.now c.args.own in
    let sent = other_sent c.args.rooms.now c.args.servers.now c.args.own c.entry-item.result c.in_default.not-Event in
    each_more Sent c.args.entries.now c.loop-entry.entry-index c.entry-item.result c.loop-entry-test.true c.entry-item.is c.loop-entry.invariant sent

pub returns-in_default-get : goal.returns-in_default-get
returns-in_default-get c =
    let Sent = IsEntrySent c.args.rooms.now c.args.servers.now c.args.own in
    let event = c.in-Event.event in
    let key : c.room_id.result.now ≡ room_id_of event.event = c.room_id.ensures ∙ ap room_id_of c.event.ensures.event in
    let none : room_at c.args.rooms.now (room_id_of event.event) ≡ None =
    ap (room_at c.args.rooms.now) (sym key) ∙ sym (c.in_ok-by_id.ensures c.room_id.result.now) ∙ ap (option_map (λ r. r.now)) (sym c.in_default-get.ensures.value) in
    let never = not_sent c.args.rooms.now c.args.servers.now c.args.own event c.in-Event.dests none in (
      λ no. absurd (false≢true no),
      λ all.
          absurd (not_each Sent c.args.entries.now c.loop-entry.entry-index c.entry-item.result c.loop-entry-test.true c.entry-item.is
          (λ sent. never (subst Sent c.in-Event.is sent)) all),
    )

pub returns-then-not-branch : goal.returns-then-not-branch
returns-then-not-branch c =
    let Sent = IsEntrySent c.args.rooms.now c.args.servers.now c.args.own in
    let event = c.in-Event.event in
    let dests = c.in-Event.dests in
    let room = c.in-Some.room.now.now in
    let key : c.room_id.result.now ≡ room_id_of event.event = c.room_id.ensures ∙ ap room_id_of c.event.ensures.event in
    let found : room_at c.args.rooms.now (room_id_of event.event) ≡ Some room =
    ap (room_at c.args.rooms.now) (sym key) ∙ sym (c.in_ok-by_id.ensures c.room_id.result.now) ∙ ap (option_map (λ r. r.now)) (sym c.in-Some.ensures.value) in
    let tells = subst (λ r. IsTrue c.in_ok-is_sent_as_stored.field-0 ↔ IsSentAsStored room_rules (room_of r).stored c.args.servers.now c.args.own event dests) c.room.ensures c.in_ok-is_sent_as_stored.ensures.sent in
    let here = sent_in c.args.rooms.now c.args.servers.now c.args.own event dests room found in (
      λ no. absurd (false≢true no),
      λ all.
          absurd (not_each Sent c.args.entries.now c.loop-entry.entry-index c.entry-item.result c.loop-entry-test.true c.entry-item.is
          (λ sent. false≢true (sym c.if-not-branch.true ∙ tells.1 (here.1 (subst Sent c.in-Event.is sent)))) all),
    )

pub loop-entry-preserved : goal.loop-entry-preserved
loop-entry-preserved c =
    let Sent = IsEntrySent c.args.rooms.now c.args.servers.now c.args.own in
    let event = c.in-Event.event in
    let dests = c.in-Event.dests in
    let room = c.in-Some.room.now.now in
    let key : c.room_id.result.now ≡ room_id_of event.event = c.room_id.ensures ∙ ap room_id_of c.event.ensures.event in
    let found : room_at c.args.rooms.now (room_id_of event.event) ≡ Some room =
    ap (room_at c.args.rooms.now) (sym key) ∙ sym (c.in_ok-by_id.ensures c.room_id.result.now) ∙ ap (option_map (λ r. r.now)) (sym c.in-Some.ensures.value) in
    let tells = subst (λ r. IsTrue c.in_ok-is_sent_as_stored.field-0 ↔ IsSentAsStored room_rules (room_of r).stored c.args.servers.now c.args.own event dests) c.room.ensures c.in_ok-is_sent_as_stored.ensures.sent in
    let here = sent_in c.args.rooms.now c.args.servers.now c.args.own event dests room found in
    each_more Sent c.args.entries.now c.loop-entry.entry-index c.entry-item.result c.loop-entry-test.true c.entry-item.is c.loop-entry.invariant
    (subst Sent (sym c.in-Event.is) (here.0 (tells.0 c.if-not-branch.false)))

pub returns : goal.returns
returns c = (
  λ _. each_so_far (IsEntrySent c.args.rooms.now c.args.servers.now c.args.own) c.args.entries.now c.loop-entry.entry-index c.loop-entry-test.false c.loop-entry.invariant,
  λ _. refl,
)
