use Rattle.std.proofs.Common.{◌≡◌, ◌<◌, length, false, sym, ap, ◌∙◌, subst, if◌then◌else◌}
use Rattle.fed_event.specs.EventId.{event_id_of}
use Rattle.fed_event.specs.Fields.{kind_of, state_key_of}
use Rattle.fed_auth.specs.AuthState.{is_rejected, with_id_at, with_stored}
use Rattle.fed_room_contract.specs.State.{StateMap}
use Rattle.fed_room_contract.specs.Steps.{state_at}
use Rattle.fed_room_contract.specs.declared.graph.Stored.{Stored}
use Rattle.fed_room.specs.States.{state_with}
use Rattle.fed_room.specs.StatesParts.{seen, IsKeptIn}
use Rattle.fed_room.specs.declared.resolved.Resolved.{Resolved}
use Rattle.fed_room.proofs.resolved.Resolved.after.Goals as goal

pub returns-else-is_rejected-clause-state : goal.returns-else-is_rejected-clause-state
unfolding with_stored
returns-else-is_rejected-clause-state c = λ states kept.
    let place = c.in-Kept.place in
    let event = c.args.event.now in
    let last : Stored = record { event = event; verdict = c.args.verdict } in
    let there : (c.in-Kept.field-0.now.after ≡ states) × (place < length states) = subst (IsKeptIn states) c.in-Kept.is kept in
    let before : StateMap = state_at c.in-Kept.field-0.now.after place in
    let none : is_rejected last ≡ false = sym c.is_rejected.ensures ∙ c.if-is_rejected.false in
    (λ i. with_id_at (state_at (sym there.0 i) place) (kind_of event.event) (state_key_of event.event) (event_id_of event.event))
    ∙ sym (ap (λ b. if b then before else with_stored before last) none)
    ∙ ap (λ (r : Resolved). state_with (seen r) last) (sym c.in-Kept.is)
