use Rattle.std.proofs.Common.{arith, ◌≡◌, Some, Ok, length, map, string_bytes, sym, ap, ◌∙◌, subst}
use Rattle.std.specs.List.{slice_get}
use Rattle.std.proofs.lemmas.List.{length-append}
use Rattle.std.proofs.lemmas.Option.{none-some, slice_get-get_or}
use Rattle.std.proofs.lemmas.Result.{err_from_is_err_and}
use Rattle.fed_room.specs.Creation.{started_of}
use Rattle.fed_redaction.specs.declared.version.Version.TheVariants.{V10}
use Rattle.fed_sim.specs.Offering.{signer_named}
use Rattle.fed_sim.specs.Setup.{id_of, users_of}
use Rattle.fed_sim.specs.declared.setup.RoomSetup.{RoomSetup}
use Rattle.fed_sim.specs.declared.starting.Start.{Start}
use Rattle.fed_sim.proofs.Built.{each_pushed, slice_there}
use Rattle.fed_sim.proofs.Starts.{none_made}
use Rattle.fed_sim.proofs.starting.starts.Goals as goal

pub loop-room-init : goal.loop-room-init
loop-room-init c = (ap length c.in_ok-starts.ensures.items, λ k start here. absurd (none-some start (ap (λ ss. slice_get ss k) (sym c.in_ok-starts.ensures.items) ∙ here)))

pub loop-room-preserved : goal.loop-room-preserved
loop-room-preserved c =
    let more = c.in_ok-push.ensures.items in
    let longer = ap length more ∙ length-append c.loop-room.starts.items _ in
    let count = c.loop-room.invariant.0 in (
      omega (arith, longer, count),
      each_pushed (λ k (s : Start). (setup : RoomSetup) → slice_get c.args.rooms.now k ≡ Some setup → started_of signer_named c.args.keys.now V10 (id_of setup) (users_of setup) ≡ Ok s.events.items)
          c.loop-room.starts.items c.push.new.self.items _ more c.loop-room.invariant.1
          (λ setup here.
          let this = slice_there c.args.rooms.now c.loop-room.room-index c.room-item.result setup c.room-item.is (ap (slice_get c.args.rooms.now) (sym count) ∙ here) in
          subst (λ (s : RoomSetup). started_of signer_named c.args.keys.now V10 (id_of s) (users_of s) ≡ Ok c.in_ok-events.events.items) this
          ((λ i. started_of signer_named c.args.keys.now V10 (sym c.deref.ensures i) (map string_bytes (sym c.deref-in-loop-room.ensures.value i))) ∙ c.in_ok-events.ensures.ok)),
    )

pub returns-clause-count : goal.returns-clause-count
returns-clause-count c = let count = c.loop-room.invariant.0 in let at = c.loop-room.auto.room-index-end in omega (arith, count, at, c.loop-room-test.false)

pub returns-clause-each : goal.returns-clause-each
returns-clause-each c = c.loop-room.invariant.1

pub returns-in_err-events-clause-bad : goal.returns-in_err-events-clause-bad
returns-in_err-events-clause-bad c =
    let p = err_from_is_err_and c.from_residual-in_err-events.result c.from_residual-in_err-events.ensures.1 in
    let here = slice_get-get_or c.args.rooms.now c.loop-room.room-index c.room-item.result c.loop-room-test.true ∙ ap Some (sym c.room-item.is) in
    rw (p.1, p.2)
    (none_made c.args.keys.now c.args.rooms.now c.loop-room.room-index c.room-item.result c.in_err-events.field-0.0 here
    (λ other. (λ i. started_of signer_named c.args.keys.now V10 (sym c.deref.ensures i) (map string_bytes (sym c.deref-in-loop-room.ensures.value i))) ∙ c.in_err-events.ensures.fails other))
