use Rattle.std.proofs.Common.{◌≡◌, Option, IfSome, ℕ, subst, sym, ap, ◌∙◌}
use Rattle.std.specs.FinMap as finite
use Rattle.fed_event.specs.Event.{Event}
use Rattle.fed_event.specs.EventId.{event_id_of}
use Rattle.fed_event.specs.Fields.{kind_of, state_key_of}
use Rattle.fed_auth.specs.AuthState.{is_rejected, with_id_at, with_stored}
use Rattle.fed_resolve.specs.declared.kept.Merged.{Merged}
use Rattle.fed_room_contract.specs.State.{StateMap}
use Rattle.fed_room_contract.specs.Steps.{state_at}
use Rattle.fed_room_contract.specs.declared.graph.Stored.{Stored}
use Rattle.fed_room.specs.StatesParts.{IsMadeOver}
use Rattle.fed_room.proofs.MadeStates.{alike-with}
use Rattle.fed_room.proofs.resolved.after_merged.Goals as goal

pub returns-clause-there : goal.returns-clause-there
unfolding with_stored
returns-clause-there c = λ states made.
    let merged : Merged = c.args.merged in
    let over : ℕ = c.in-Some.over in
    let event : Event = c.args.event.now.event in
    let last : Stored = record { event = c.args.event.now; verdict = c.args.verdict } in
    let mine : IsMadeOver states merged over = subst (λ (o : Option ℕ). IfSome o (IsMadeOver states merged)) c.in-Some.is made in
    let keys : c.lay.new.state ≡ with_id_at merged.keys (kind_of event) (state_key_of event) (event_id_of event) =
    c.in_ok-lay.ensures ∙ ap (λ (d : Event). with_id_at merged.keys (kind_of d) (state_key_of d) (event_id_of d)) c.event.ensures.event in (
      mine.0,
      λ key missing.
          ap (λ (s : StateMap). finite.get s key) c.in_ok-state.ensures
          ∙ alike-with (state_at states over) merged.state merged.keys (kind_of event) (event_id_of event) (event_id_of event) mine.1 (state_key_of event) (is_rejected last) key
          (ap (λ (s : StateMap). finite.contains_key s key) (sym keys) ∙ missing),
    )
