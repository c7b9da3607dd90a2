use Rattle.std.proofs.Common.{◌≡◌, ℕ, List, sym, ap, ◌∙◌, map, rules}
use Rattle.std.specs.FinMap as finite
use Rattle.std.specs.Cmp.Lexicographic.{nat_list_cmp_total}
use Rattle.fed_json.specs.TextMap.{TextMap, text_map}
use Rattle.fed_json.proofs.TextMaps.{entries-text_map, entry_seen}
use Rattle.fed_room_contract.proofs.Filled.{with_all, with_all-entries}
use Rattle.fed_room_contract.proofs.TextUpdates.{text_order_same}
use Rattle.fed_room_contract.proofs.keyed.Keyed.copy.Goals as goal

pub loop-key-init : goal.loop-key-init
loop-key-init c =
    let es = c.self.inside.ids.entries in
    let seen = entries-text_map (λ (id : List ℕ). id) es c.self.invariant in
    let start : c.into_iter-key-iterator.result ≡ es = search rules in
    ap (λ xs. with_all c.new-copy.result (map (entry_seen (λ (id : List ℕ). id)) xs)) start
    ∙ ap (λ (m : TextMap (List ℕ)). with_all m (map (entry_seen (λ (id : List ℕ). id)) es)) c.new-copy.ensures
    ∙ ap (with_all finite.empty) (sym seen) ∙ with_all-entries nat_list_cmp_total text_order_same (text_map (λ (id : List ℕ). id) es) ∙ c.self.view_is
