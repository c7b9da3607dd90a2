use Rattle.std.proofs.Common.{arith, ◌≡◌, Some, None, length, sym, ap, ◌∙◌, subst}
use Rattle.std.specs.List.{slice_get}
use Rattle.std.proofs.lemmas.List.{length-append}
use Rattle.std.proofs.lemmas.Option.{none-some, slice_get-get_or}
use Rattle.std.proofs.lemmas.Result.{err_from_is_err_and}
use Rattle.fed_room_contract.specs.Room.{empty_room}
use Rattle.fed_room.specs.Room.{RoomValue, room_of, room_rules}
use Rattle.fed_room.specs.Start.{after_all, start_fault_of}
use Rattle.fed_sim.specs.declared.starting.Start.{Start}
use Rattle.fed_sim.specs.Hosted.{HostedState}
use Rattle.fed_sim.specs.Starts.{IsBegunWith}
use Rattle.fed_sim.proofs.Built.{each_pushed, slice_there}
use Rattle.fed_sim.proofs.Starts.{not_accepted}
use Rattle.fed_sim.proofs.starting.hosted_rooms.Goals as goal

pub loop-start-init : goal.loop-start-init
loop-start-init c = (ap length c.in_ok-hosted.ensures.items, λ k h here. absurd (none-some h (ap (λ hs. slice_get hs k) (sym c.in_ok-hosted.ensures.items) ∙ here)))

pub loop-start-preserved : goal.loop-start-preserved
loop-start-preserved c =
    let more = c.in_ok-push.ensures.items in
    let longer = ap length more ∙ length-append c.loop-start.hosted.items _ in
    let count = c.loop-start.invariant.0 in
    let same = c.in_ok-events.ensures ∙ c.deref.ensures.value in (
      omega (arith, longer, count),
      each_pushed (λ k (h : HostedState). (start : Start) → slice_get c.args.starts.now k ≡ Some start → IsBegunWith c.args.own.now start.events.items h) c.loop-start.hosted.items c.push.new.self.items c.new.result more
          c.loop-start.invariant.1
          (λ start here.
          let this = slice_there c.args.starts.now c.loop-start.start-index c.start-item.result start c.start-item.is (ap (slice_get c.args.starts.now) (sym count) ∙ here) in
          subst (λ (s : Start). IsBegunWith c.args.own.now s.events.items c.new.result) this (record {
            accepted = subst (λ es. start_fault_of room_rules es ≡ None) same c.in_ok-room.ensures.passes;
            own_is = ap (λ (r : RoomValue). r.own) c.new.ensures.room ∙ c.in_ok-room.ensures.own;
            room_is = ap room_of c.new.ensures.room ∙ c.in_ok-room.ensures.room ∙ ap (after_all room_rules empty_room) same;
            queue_is = c.new.ensures.queue;
          })),
    )

pub returns-clause-count : goal.returns-clause-count
returns-clause-count c = let count = c.loop-start.invariant.0 in let at = c.loop-start.auto.start-index-end in omega (arith, count, at, c.loop-start-test.false)

pub returns-clause-each : goal.returns-clause-each
returns-clause-each c = c.loop-start.invariant.1

pub returns-in_err-room-clause-bad : goal.returns-in_err-room-clause-bad
returns-in_err-room-clause-bad c =
    let p = err_from_is_err_and c.from_residual-in_err-room.result c.from_residual-in_err-room.ensures.1 in
    let here = slice_get-get_or c.args.starts.now c.loop-start.start-index c.start-item.result c.loop-start-test.true ∙ ap Some (sym c.start-item.is) in
    let same = c.in_ok-events.ensures ∙ c.deref.ensures.value in
    rw (p.1, p.2)
    (not_accepted c.args.starts.now c.loop-start.start-index c.start-item.result c.in_err-room.field-0.0 here
    (λ other. subst (λ es. start_fault_of room_rules es ≡ Some c.in_err-room.field-0.0) same (c.in_err-room.ensures.fails other)))
