use Rattle.std.proofs.Common.{◌≡◌, ◌+◌, ◌++◌, ◌∷◌, [], ◌||◌, ℕ, List, length, map, take, sym, ap, ◌∙◌, arith}
use Rattle.std.proofs.Math.Seq.{take-length}
use Rattle.std.proofs.lemmas.List.{map-append, take_more}
use Rattle.std.specs.FinMap as finite
use Rattle.fed_room_contract.specs.Entry.{seen}
use Rattle.fed_room_contract.specs.State.{StateMap}
use Rattle.fed_room_contract.specs.declared.entry.Entry.{Entry}
use Rattle.fed_room_contract.proofs.Changes.{all-keys, has_key, key-more, more-entries}
use Rattle.fed_room_contract.proofs.differing.add_entries.Goals as goal

pub loop-entry-preserved : goal.loop-entry-preserved
loop-entry-preserved c = λ key.
    let es : List Entry = c.deref-entry-items.result.now in
    let index : ℕ = c.loop-entry.entry-index in
    let entry : Entry = c.entry-item.result in
    let before : StateMap = c.args.keys.now in
    let after : StateMap = c.loop-entry.keys in
    let more : map seen (take (index + 1) es) ≡ map seen (take index es) ++ seen entry ∷ [] =
    ap (map seen) (take_more es index entry c.loop-entry-test.true ∙ ap (λ (e : Entry). take index es ++ e ∷ []) (sym c.entry-item.is)) ∙ map-append seen (take index es) (entry ∷ []) in
    more-entries before after c.insert.new.self (map seen (take index es)) (seen entry) key (c.loop-entry.invariant key)
    (ap (λ (s : StateMap). finite.contains_key s key) c.in_ok-insert.ensures.ok ∙ key-more after (seen entry).0 c.in_ok-copy.field-0 key)
    ∙ ap (λ xs. finite.contains_key before key || has_key xs key) (sym more)

pub returns : goal.returns
returns c =
    let es : List Entry = c.deref-entry-items.result.now in
    let all : c.loop-entry.entry-index ≡ length es = omega (arith, c.loop-entry-test.false, c.loop-entry.auto.entry-index-end) in
    let whole : map seen (take c.loop-entry.entry-index es) ≡ finite.entries c.args.state.now =
    ap (map seen) (ap (λ (n : ℕ). take n es) all ∙ take-length es ∙ c.deref-entry-items.ensures.value) ∙ c.in_ok-entries.ensures in
    record {
      each = λ key.
          c.loop-entry.invariant key ∙ ap (λ xs. finite.contains_key c.args.keys.now key || has_key xs key) whole
          ∙ ap (λ b. finite.contains_key c.args.keys.now key || b) (all-keys c.args.state.now key);
    }
