use Rattle.std.proofs.Common.{◌≡◌, ℕ, List, length, map, take, ap, ◌∙◌, arith}
use Rattle.std.proofs.Math.Seq.{take-length}
use Rattle.std.specs.FinMap as finite
use Rattle.fed_room_contract.specs.Entry.{seen}
use Rattle.fed_room_contract.specs.ChangeParts.{key_of}
use Rattle.fed_room_contract.specs.declared.entry.Entry.{Entry}
use Rattle.fed_room_contract.proofs.Changes.{made-of, seen-keys}
use Rattle.fed_room_contract.proofs.change.changes_at.Goals as goal

pub returns-clause-made : goal.returns-clause-made
returns-clause-made c = λ before alike.
    let es : List Entry = c.deref-entry-items.result.now in
    let all : c.loop-entry.entry-index ≡ length es = omega (arith, c.loop-entry-test.false, c.loop-entry.auto.entry-index-end) in
    let whole : take c.loop-entry.entry-index es ≡ es = ap (λ (n : ℕ). take n es) all ∙ take-length es in
    let keys : map key_of c.loop-entry.changes.items ≡ finite.keys c.args.keys.now =
    c.loop-entry.invariant.keys ∙ ap (map (λ (e : Entry). (seen e).0)) whole ∙ seen-keys seen es ∙ ap (map (λ e. e.0)) (ap (map seen) c.deref-entry-items.ensures.value ∙ c.in_ok-entries.ensures) in
    made-of before c.args.state.now c.args.keys.now c.loop-entry.changes.items keys c.loop-entry.invariant.held alike
