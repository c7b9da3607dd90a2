use Rattle.std.proofs.Common.{◌≡◌, Some, None, option_map, subst, sym, ap, ◌∙◌}
use Rattle.std.specs.List.{slice_get}
use Rattle.fed_event.specs.Fields.{kind_of, state_key_of}
use Rattle.fed_auth.specs.AuthState.{kind_in, state_key_in}
use Rattle.fed_resolve.specs.KeptParts.{HasKeyAt}
use Rattle.fed_resolve.proofs.KeysOf.{key-entered, key-missing}
use Rattle.fed_resolve.proofs.kept.add_key_at.Goals as goal

pub returns-in_ok-insert : goal.returns-in_ok-insert
returns-in_ok-insert c =
    let events = c.args.graph.now.stored in
    let stored = c.in-Some.stored.now in
    let here : slice_get events c.args.place ≡ Some stored = sym c.at.ensures ∙ ap (option_map (λ s. s.now)) c.in-Some.is in
    let same : c.kind.result.now ≡ kind_in stored = c.kind.ensures ∙ ap kind_of c.event-event.ensures.event in
    let own : state_key_in stored ≡ Some c.in-Some-state_key.state_key.now = sym (ap state_key_of c.event-event.ensures.event) ∙ sym c.state_key.ensures ∙ ap (option_map (λ k. k.now)) c.in-Some-state_key.is in
    subst (HasKeyAt events c.args.place c.args.keys.now) (sym c.in_ok-insert.ensures.ok)
    (key-entered events c.args.place c.args.keys.now stored c.kind.result.now c.in-Some-state_key.state_key.now c.in_ok-copy.field-0 here same own)

pub returns-in_default-state_key : goal.returns-in_default-state_key
returns-in_default-state_key c =
    let events = c.args.graph.now.stored in
    let stored = c.in-Some.stored.now in
    let here : slice_get events c.args.place ≡ Some stored = sym c.at.ensures ∙ ap (option_map (λ s. s.now)) c.in-Some.is in
    let own : state_key_in stored ≡ None = sym (ap state_key_of c.event-event.ensures.event) ∙ sym c.state_key.ensures ∙ ap (option_map (λ k. k.now)) c.in_default-state_key.is in
    key-missing events c.args.place c.args.keys.now stored here own
