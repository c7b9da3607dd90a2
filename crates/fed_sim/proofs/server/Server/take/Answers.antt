use Rattle.std.proofs.Common.{arith, ◌≡◌, ◌∙◌, [], All, length, map, string_bytes, sym, ap, subst}
use Rattle.std.specs.FinMap as finite
use Rattle.std.specs.List.{slice_get}
use Rattle.std.proofs.lemmas.List.{with_items_is}
use Rattle.std.specs.Vec.{with_items}
use Rattle.fed_keys.specs.StandIn.{stand_in_checks}
use Rattle.fed_inbox.specs.Inbox.{InboxState}
use Rattle.fed_inbox.specs.WholeRequest.{IsAnsweredWhole}
use Rattle.fed_sim.specs.Hosted.{rooms_of, arrivals_of}
use Rattle.fed_inbox.specs.Queues.{queues_from}
use Rattle.fed_sim.specs.ServerParts.{server_of}
use Rattle.fed_sim.specs.Taking.{IsOfKnown}
use Rattle.fed_sim.proofs.Fresh.{few_fresh, of_known}
use Rattle.fed_sim.proofs.server.Server.take.Goals as goal

pub push_all-requires-clause-room : goal.push_all-requires-clause-room
push_all-requires-clause-room c = λ k room here.
    let held = ap length c.deref_mut.ensures.value in
    let size = c.args.self.now.rooms.ok.0 in
    let kept = c.make_room.ensures.count in
    let rooms : c.deref_mut-2.result.now ≡ c.make_room.new.rooms = c.deref_mut-2.ensures.value ∙ with_items_is c.args.self.now.rooms c.make_room.new.rooms (omega arith) in
    let free = c.in_ok-make_room.ensures.ok k room (sym (ap (λ xs. slice_get xs k) rooms) ∙ here) in
    let few = few_fresh _ _ _ _ _ _ c.what_the_queues_get.ensures.few c.answer-reply.ensures.answered in
    let handed = ap length c.fresh-events.ensures.handed in
    omega arith

pub push_all-requires-clause-known : goal.push_all-requires-clause-known
push_all-requires-clause-known c =
    let held = ap length c.deref_mut.ensures.value in
    let size = c.args.self.now.rooms.ok.0 in
    let kept = c.make_room.ensures.count in
    let rooms : c.deref_mut-2.result.now ≡ c.make_room.new.rooms = c.deref_mut-2.ensures.value ∙ with_items_is c.args.self.now.rooms c.make_room.new.rooms (omega arith) in
    ap length rooms ∙ kept ∙ held ∙ c.requires.known

pub push_all-requires-clause-events : goal.push_all-requires-clause-events
push_all-requires-clause-events c =
    let known = map string_bytes c.args.known.now in
    subst (All (IsOfKnown known)) (sym c.fresh-events.ensures.handed)
    (of_known _ _ _ _ _ _ known c.requires.inbox (c.what_a_new_inbox_knows.ensures.rooms finite.empty [] [] known) c.answer-reply.ensures.answered)

pub returns-clause-taken : goal.returns-clause-taken
returns-clause-taken c =
    let old = server_of c.args.self.now in
    let known = map string_bytes c.args.known.now in
    let fresh = c.answer-reply.new.self.fresh in
    let made = with_items c.args.self.now.rooms c.make_room.new.rooms in
    let size = c.args.self.now.rooms.ok.0 in
    let held = ap length c.deref_mut.ensures.value in
    let first : made.items ≡ c.make_room.new.rooms = with_items_is c.args.self.now.rooms c.make_room.new.rooms (omega (arith, size, held, c.in_ok-make_room.ensures.count)) in
    let second : (with_items made c.push_all.new.rooms).items ≡ c.push_all.new.rooms =
    with_items_is made c.push_all.new.rooms (omega (arith, size, held, c.in_ok-make_room.ensures.count, c.push_all.ensures.count, ap length c.deref_mut-2.ensures.value, ap length first)) in
    let between : c.deref_mut-2.result.now ≡ c.make_room.new.rooms = c.deref_mut-2.ensures.value ∙ first in
    let rooms : rooms_of (with_items made c.push_all.new.rooms).items ≡ old.rooms =
    ap rooms_of second ∙ c.push_all.ensures.rooms ∙ ap rooms_of between ∙ c.in_ok-make_room.ensures.rooms ∙ ap rooms_of c.deref_mut.ensures.value in
    let queues : arrivals_of c.deref_mut-2.result.now ≡ old.arrivals = ap arrivals_of between ∙ c.in_ok-make_room.ensures.arrivals ∙ ap arrivals_of c.deref_mut.ensures.value in
    let arrivals : arrivals_of (with_items made c.push_all.new.rooms).items ≡ queues_from 0 known fresh old.arrivals =
    ap arrivals_of second ∙ c.push_all.ensures.arrivals ∙ (λ i. queues_from 0 known (c.fresh-events.ensures.handed i) (queues i)) in
    record {
      taken = record {
        fresh = fresh;
        answered = subst (λ (s : InboxState). IsAnsweredWhole stand_in_checks old.inbox c.args.request.now c.answer-reply.result s fresh) (sym c.fresh-events.ensures.stays) c.answer-reply.ensures.answered;
        queued = arrivals;
      };
      others = λ i. record { own = old.own; name = old.name; rooms = rooms i; arrivals = arrivals_of (with_items made c.push_all.new.rooms).items; journal = old.journal; ways = old.ways; inbox = c.fresh-events.new.self.state };
    }
