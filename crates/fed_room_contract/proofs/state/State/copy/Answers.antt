use Rattle.std.proofs.Common.{◌≡◌, ℕ, List, ◌∷◌, String, string_bytes, sym, ap, ◌∙◌, map, rules}
use Rattle.std.specs.declared.alloc.Global.{Global}
use Rattle.std.specs.FinMap as finite
use Rattle.std.specs.Cmp.Lexicographic.{nat_list_cmp_total}
use Rattle.fed_json.specs.TextMap.{TextMap}
use Rattle.fed_json.proofs.TextMaps.{entries-text_map, text_map-none, text_map-insert, entry_seen}
use Rattle.fed_room_contract.specs.StateParts.{Ids, kinds_of, flattened}
use Rattle.fed_room_contract.proofs.Filled.{with_all, with_all-entries}
use Rattle.fed_room_contract.proofs.TextUpdates.{text_order_same}
use Rattle.fed_room_contract.proofs.state.State.copy.Goals as goal

abbrev seen : List (String Global × Ids) → List (List ℕ × Ids)
seen es = map (entry_seen (λ (ids : Ids). ids)) es

pub loop-kind-init : goal.loop-kind-init
loop-kind-init c =
    let es = c.self.inside.kinds.entries in
    let entries = entries-text_map (λ (ids : Ids). ids) es c.self.invariant in
    let start : c.into_iter-kind-iterator.result ≡ es = search rules in
    let all : with_all (kinds_of c.new-kinds.result.entries) (seen c.into_iter-kind-iterator.result) ≡ kinds_of es =
    ap (λ xs. with_all (kinds_of c.new-kinds.result.entries) (seen xs)) start
    ∙ ap (λ (m : TextMap Ids). with_all m (seen es)) (text_map-none (λ (ids : Ids). ids) c.new-kinds.result.entries c.new-kinds.ensures.empty)
    ∙ ap (with_all finite.empty) (sym entries) ∙ with_all-entries nat_list_cmp_total text_order_same (kinds_of es) in
    record { ordered = c.new-kinds.ensures.ordered; left = ap flattened all ∙ c.self.view_is }

pub loop-kind-preserved : goal.loop-kind-preserved
loop-kind-preserved c =
    let old = c.loop-kind.kinds in
    let key = c.in_ok-kind.kind in
    let ids = c.in_ok-copy.field-0 in
    let taken : c.loop-kind.kind-iterator ≡ (c.in-Some.kind.now, c.in-Some.keyed.now) ∷ c.next.new.self = c.in-Some.ensures.steps in
    let named : string_bytes key ≡ string_bytes c.in-Some.kind.now = c.in_ok-kind.ensures.ok ∙ c.deref.ensures in
    let kinds : kinds_of c.insert.new.self.entries ≡ finite.insert (kinds_of old.entries) (string_bytes c.in-Some.kind.now) c.in-Some.keyed.now =
    text_map-insert (λ (ids : Ids). ids) old.entries c.insert.new.self.entries key ids c.loop-kind.invariant.ordered c.insert.ensures.ordered c.in_ok-insert.ensures.entries
    ∙ ap (λ k. finite.insert (kinds_of old.entries) k ids) named ∙ ap (finite.insert (kinds_of old.entries) (string_bytes c.in-Some.kind.now)) c.in_ok-copy.ensures in
    record {
      ordered = c.insert.ensures.ordered;
      left = ap (λ (m : TextMap Ids). flattened (with_all m (seen c.next.new.self))) kinds ∙ ap (λ es. flattened (with_all (kinds_of old.entries) (seen es))) (sym taken) ∙ c.loop-kind.invariant.left;
    }

pub invariant_of-result : goal.invariant_of-result
invariant_of-result c = c.loop-kind.invariant.ordered

pub returns : goal.returns
returns c = ap (λ es. flattened (with_all (kinds_of c.loop-kind.kinds.entries) (seen es))) (sym c.in-None.ensures.steps.0) ∙ c.loop-kind.invariant.left
