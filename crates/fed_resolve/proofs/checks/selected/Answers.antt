use Rattle.std.proofs.Common.{◌≡◌, ◌<◌, [], ◌∷◌, ◌++◌, None, map, take, length, option_map, slice_index_or, refl, subst, sym, ap, ◌∙◌}
use Rattle.std.specs.Prelude.{option_and_then}
use Rattle.std.proofs.lemmas.List.{length-map}
use Rattle.fed_event.specs.Fields.{auth_events_of}
use Rattle.fed_auth.specs.AuthState.{stored_of}
use Rattle.fed_auth.specs.Selection.{SelectorFields, selector_of, selection_keys, entry_of}
use Rattle.fed_auth.specs.SelectionKey.{seen}
use Rattle.fed_resolve.specs.Checks.{with_keys}
use Rattle.fed_resolve.specs.ChecksParts.{IsSelected, known_at, with_known}
use Rattle.fed_resolve.proofs.Completed.{selected-none, selected-more, nth-map, nth-default, nth-known}
use Rattle.fed_resolve.proofs.Unconflicteds.{more_seen}
use Rattle.fed_resolve.proofs.checks.selected.Goals as goal

six : (fields : SelectorFields) → length (selection_keys fields) ≡ 6
unfolding selection_keys
six fields = refl

pub loop-key-init : goal.loop-key-init
loop-key-init c =
    let whole = with_keys (stored_of c.args.graph.now.stored (auth_events_of c.args.stored.now.event.event)) c.args.state.now (selection_keys (selector_of c.args.stored.now.event.event)) in
    subst (IsSelected whole []) (sym c.new-known.ensures) (selected-none whole)

pub loop-key-preserved : goal.loop-key-preserved
loop-key-preserved c =
    let auths = stored_of c.args.graph.now.stored (auth_events_of c.args.stored.now.event.event) in
    let keys = selection_keys (selector_of c.args.stored.now.event.event) in
    let whole = with_keys auths c.args.state.now keys in
    let items = c.keys-key-items.result in
    let i = c.loop-key.key-index in
    let item = slice_index_or items i None in
    let same : map (option_map seen) items ≡ keys = c.keys-key-items.ensures ∙ ap selection_keys c.from.ensures ∙ ap (λ event. selection_keys (selector_of event)) c.event.ensures.event in
    let long : 6 ≡ length items = sym (six (selector_of c.args.stored.now.event.event)) ∙ sym (ap length same) ∙ length-map items (option_map seen) in
    let within : i < length items = subst (λ n. i < n) long c.loop-key-test.true in
    let at : option_map seen item ≡ slice_index_or keys i None = nth-map (option_map seen) items i None ∙ ap (λ ks. slice_index_or ks i None) same in
    let known : option_and_then (known_at auths c.args.state.now) (option_map seen item) ≡ entry_of whole (option_map seen item) =
    ap (option_and_then (known_at auths c.args.state.now)) at
    ∙ nth-known auths keys c.args.state.now i None (subst (λ n. i < n) (sym (six (selector_of c.args.stored.now.event.event))) c.loop-key-test.true)
    ∙ ap (entry_of whole) (sym at) in
    let more = more_seen (option_map seen) items i item within (nth-default items i None item within) in
    let laid : c.add.new.known ≡ with_known c.loop-key.known (option_map seen item) (entry_of whole (option_map seen item)) =
    c.in_ok-add.ensures ∙ ap (with_known c.loop-key.known (option_map seen item)) (c.known_id-id.ensures ∙ known) in
    subst (λ ks. IsSelected whole ks c.add.new.known) (sym more)
    (subst (IsSelected whole (map (option_map seen) (take i items) ++ option_map seen item ∷ [])) (sym laid)
    (selected-more whole (map (option_map seen) (take i items)) (option_map seen item) c.loop-key.known c.loop-key.invariant))
