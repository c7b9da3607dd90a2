use Rattle.std.proofs.Common.{◌≡◌, ◌++◌, sym, ap, ◌∙◌, map, rules}
use Rattle.std.specs.FinMap as finite
use Rattle.fed_json.proofs.TextMaps.{entries-text_map, entry_seen}
use Rattle.fed_room_contract.specs.State.{StateMap}
use Rattle.fed_room_contract.specs.Entry.{seen}
use Rattle.fed_room_contract.specs.StateParts.{Ids, all_entries, kinds_of}
use Rattle.fed_room_contract.proofs.States.{entries-flattened}
use Rattle.fed_room_contract.proofs.state.State.entries.Goals as goal

pub loop-kind-init : goal.loop-kind-init
loop-kind-init c =
    let es = c.self.inside.kinds.entries in
    let start : c.into_iter-kind-iterator.result ≡ es = search rules in
    let left = all_entries (map (entry_seen (λ (ids : Ids). ids)) c.into_iter-kind-iterator.result) in
    ap (λ xs. map seen xs ++ left) c.new-entries.ensures.items
    ∙ ap (λ xs. all_entries (map (entry_seen (λ (ids : Ids). ids)) xs)) start
    ∙ ap all_entries (sym (entries-text_map (λ (ids : Ids). ids) es c.self.invariant))
    ∙ sym (entries-flattened (kinds_of es))
    ∙ ap (λ (s : StateMap). finite.entries s) c.self.view_is
