use Rattle.std.proofs.Common.{◌≡◌, ℕ, List, true≢false, Result, Ok, Err, refl, sym, ap, ◌∙◌, subst}
use Rattle.std.specs.Result.{IsErr, IsErrAnd}
use Rattle.fed_journal.specs.declared.offered.Offered.{Offered}
use Rattle.fed_journal.specs.declared.offered.Offered.TheVariants.{Event}
use Rattle.fed_journal.specs.Offering as step
use Rattle.fed_journal.specs.Offering.{open_among, with_lost}
use Rattle.fed_room_contract.specs.Prepared.{PreparedEvent}
use Rattle.fed_room_contract.specs.Room.{RoomState, committed}
use Rattle.fed_room.specs.Room.{room_of}
use Rattle.fed_hub_state.specs.declared.sending_journal.EnterFault.{EnterFault}
use Rattle.fed_hub_state.specs.ClientToken.{ClientShare}
use Rattle.fed_hub_state.specs.Entering.{Enters, shut_down, no_place, no_memory, full, entered}
use Rattle.fed_hub_state.specs.Sections.{EventIsOffered}
use Rattle.fed_hub_state.specs.SendingJournal.{SendingState}
use Rattle.fed_hub_state.proofs.sections.offer.Goals as goal

-- the room then
abbrev stored_by : RoomState → PreparedEvent → Result ℕ EnterFault → RoomState
stored_by room p (Ok number) = committed room p.event
stored_by room p (Err fault) = room

offered_so : (p : PreparedEvent) (dests : List ℕ) (room : RoomState) (old : SendingState) (client : ClientShare) (told : Result ℕ EnterFault) (new : SendingState) (after : ClientShare)
    → Enters (Event p.event) dests old client told new after → EventIsOffered p dests room old client told (stored_by room p told) new after
offered_so p dests room old client _ _ _ (shut_down is) = (is, refl, refl, refl)
offered_so p dests room old client _ _ _ (no_place running none) = (running, refl, refl, refl, λ signer servers own draft made. step.IsOffered.no_place p dests made none)
offered_so p dests room old client _ _ _ (no_memory running fits) = (running, refl, refl, refl)
offered_so p dests room old client _ _ _ (full wire running fits among) = (running, among, refl, refl, refl)
offered_so p dests room old client _ _ _ (entered lost running fits are) =
    (lost, open_among (with_lost old.entries lost) dests, (running, running, refl, λ signer servers own draft made. step.IsOffered.sent p dests made fits are))

err_is : (told : Result ℕ EnterFault) (fault : EnterFault) → IsErr told → IsErrAnd told (λ t. t ≡ fault) → told ≡ Err fault
err_is (Ok n) fault errs is = absurd (true≢false (sym errs))
err_is (Err t) fault errs is = ap Err is

pub returns-in_err-number-clause-offered : goal.returns-in_err-number-clause-offered
returns-in_err-number-clause-offered g c =
    let p = c.args.outgoing.prepared in
    let dests = c.args.outgoing.dests in
    let room = room_of c.args.room.now.room in
    let told = c.in_err-number.was ∙ sym (err_is c.from_residual.result c.in_err-number.field-0.0 c.from_residual.ensures.0 c.from_residual.ensures.1) in
    let enters : Enters (Event p.event) dests c.args.journal.now c.args.client.now (Err c.in_err-number.field-0.0) c.enter.new.self c.enter.new.client =
    subst (λ (y : Offered × Result ℕ EnterFault). Enters y.0 dests c.args.journal.now c.args.client.now y.1 c.enter.new.self c.enter.new.client)
    (λ i. (c.requires.equal.0 i, c.in_err-number.was i)) c.enter.ensures.entered in
    subst (λ (r : Result ℕ EnterFault). EventIsOffered p dests room c.args.journal.now c.args.client.now r room c.enter.new.self c.enter.new.client)
    (sym c.in_err-number.was ∙ told)
    (offered_so p dests room c.args.journal.now c.args.client.now (Err c.in_err-number.field-0.0) c.enter.new.self c.enter.new.client enters)

pub returns-clause-offered : goal.returns-clause-offered
returns-clause-offered g c =
    let p = c.args.outgoing.prepared in
    let dests = c.args.outgoing.dests in
    let room = room_of c.args.room.now.room in
    let enters : Enters (Event p.event) dests c.args.journal.now c.args.client.now (Ok c.in_ok-number.number) c.enter.new.self c.enter.new.client =
    subst (λ (y : Offered × Result ℕ EnterFault). Enters y.0 dests c.args.journal.now c.args.client.now y.1 c.enter.new.self c.enter.new.client)
    (λ i. (c.requires.equal.0 i, c.in_ok-number.was i)) c.enter.ensures.entered in
    subst (λ (r : RoomState). EventIsOffered p dests room c.args.journal.now c.args.client.now (Ok c.in_ok-number.number) r c.enter.new.self c.enter.new.client)
    (sym c.commit.ensures.room)
    (offered_so p dests room c.args.journal.now c.args.client.now (Ok c.in_ok-number.number) c.enter.new.self c.enter.new.client enters)
