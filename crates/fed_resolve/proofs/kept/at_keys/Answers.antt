use Rattle.std.proofs.Common.{◌≡◌, ℕ, List, [], ◌∷◌, ◌++◌, map, take, subst, sym, ap, ◌∙◌, None, Some, option_map}
use Rattle.std.specs.FinMap as finite
use Rattle.fed_room_contract.specs.Entry.{seen}
use Rattle.fed_room_contract.specs.State.{StateKey, key_cmp}
use Rattle.fed_resolve.specs.ConflictParts.{AreKept}
use Rattle.fed_resolve.proofs.Unconflicteds.{more_seen, kept-laid, kept-skipped}
use Rattle.fed_resolve.proofs.kept.at_keys.Goals.{in-Some+in_ok-copy+in_ok-insert, in_default}
use Rattle.fed_resolve.proofs.kept.at_keys.Goals as goal

pub loop-entry-init : goal.loop-entry-init
loop-entry-init c = subst (AreKept c.args.state.now []) (sym c.new-few.ensures) (record { each = λ q. finite.get-empty key_cmp q })

pub loop-entry-preserved : goal.loop-entry-preserved
loop-entry-preserved c =
    let whole = c.args.state.now in
    let entry = c.entry-item.result in
    let es : List (StateKey × List ℕ) = map seen (take c.loop-entry.entry-index c.deref-entry-items.result.now) in
    let more = more_seen seen c.deref-entry-items.result.now c.loop-entry.entry-index entry c.loop-entry-test.true c.entry-item.is in
    subst (λ xs. AreKept whole xs c.match-get.few) (sym more) (elim c.match-get.branch [
      | in-Some+in_ok-copy+in_ok-insert w ↦
          let here : finite.get whole (seen entry).0 ≡ Some w.in-Some.id.now = sym c.get.ensures ∙ ap (option_map (λ id. id.now)) w.in-Some.is in
          let few : c.match-get.few ≡ finite.insert c.loop-entry.few (seen entry).0 w.in-Some.id.now = w.few-is ∙ w.in_ok-insert.ensures.ok ∙ ap (λ i. finite.insert c.loop-entry.few (seen entry).0 i) w.in_ok-copy.ensures in
          subst (AreKept whole (es ++ seen entry ∷ [])) (sym few) (kept-laid whole c.loop-entry.few es (seen entry) c.loop-entry.invariant w.in-Some.id.now here)
      | in_default w ↦
          let here : finite.get whole (seen entry).0 ≡ None = sym c.get.ensures ∙ ap (option_map (λ id. id.now)) w.in_default.is in
          subst (AreKept whole (es ++ seen entry ∷ [])) (sym w.few-is) (kept-skipped whole c.loop-entry.few es (seen entry) c.loop-entry.invariant here)
    ])
