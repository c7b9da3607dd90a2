use Rattle.std.proofs.Common.{rules, ◌++◌, ◌+◌, drop, get_or, None, option_map, sym, ◌∙◌, ap}
use Rattle.std.proofs.lemmas.List.{at_drop_more}
use Rattle.fed_room_contract.specs.StateRef.{seen as seen-state}
use Rattle.fed_auth.specs.Selection.{entry_of, ids_at, each_once, with_id}
use Rattle.fed_auth.specs.SelectionKey.{seen, all_seen}
use Rattle.fed_auth.proofs.Selections.{lacking, lacking_none, once-with_id}
use Rattle.fed_auth.proofs.selector.Selector.select_in.Goals as goal

pub loop-key-init : goal.loop-key-init
loop-key-init c =
    let state = seen-state c.args.state in
    sym (ap (λ ids. ids ++ lacking ids (each_once (ids_at state (all_seen c.keys-key-items.result)))) c.new-ids.ensures.items
    ∙ lacking_none (each_once (ids_at state (all_seen c.keys-key-items.result)))
    ∙ ap (λ keys. each_once (ids_at state keys)) c.keys-key-items.ensures)

pub loop-key-preserved : goal.loop-key-preserved
loop-key-preserved c =
    let state = seen-state c.args.state in
    let items = c.keys-key-items.result in
    let ids = c.loop-key.ids.items in
    let i = c.loop-key.key-index in
    let rest = ids_at state (all_seen (drop (i + 1) items)) in
    c.loop-key.invariant
    ∙ at_drop_more (λ keys. ids ++ lacking ids (each_once (ids_at state (all_seen keys)))) items i None (search rules)
    ∙ once-with_id ids rest (entry_of state (option_map seen (get_or items i None)))
    ∙ ap (λ more. more ++ lacking more (each_once rest)) (sym (c.in_ok-add.ensures ∙ ap (with_id ids) c.entry.ensures))
