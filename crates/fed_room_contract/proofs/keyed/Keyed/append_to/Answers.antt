use Rattle.std.proofs.Common.{◌≡◌, ◌++◌, ℕ, List, sym, ap, ◌∙◌, map, rules}
use Rattle.std.specs.FinMap as finite
use Rattle.fed_json.specs.TextMap.{TextMap}
use Rattle.fed_json.proofs.TextMaps.{entries-text_map, entry_seen}
use Rattle.fed_room_contract.specs.Entry.{seen}
use Rattle.fed_room_contract.specs.StateParts.{entries_of}
use Rattle.fed_room_contract.proofs.keyed.Keyed.append_to.Goals as goal

pub loop-key-init : goal.loop-key-init
loop-key-init c =
    let es = c.self.inside.ids.entries in
    let start : c.into_iter-key-iterator.result ≡ es = search rules in
    let all = ap (map (entry_seen (λ (id : List ℕ). id))) start ∙ sym (entries-text_map (λ (id : List ℕ). id) es c.self.invariant) ∙ ap (λ (m : TextMap (List ℕ)). finite.entries m) c.self.view_is in
    ap (λ xs. map seen c.args.entries.now.items ++ entries_of c.args.kind.now xs) all
