use Rattle.std.proofs.Common.{◌≡◌, ◌+◌, ◌++◌, ◌∷◌, [], List, true, take, is_some, not, subst, sym, ap, ◌∙◌}
use Rattle.std.proofs.lemmas.List.{take_more}
use Rattle.std.specs.FinMap as finite
use Rattle.fed_room_contract.specs.State.{StateKey, StateMap}
use Rattle.fed_room_contract.specs.ChangeParts.{AreKeysBeyond, key_of}
use Rattle.fed_room_contract.specs.declared.change.Change.{Change}
use Rattle.fed_room_contract.proofs.Changes.{key-more, key-there, more-changed, some-map}
use Rattle.fed_room_contract.proofs.change.add_keys.Goals.{then-is_none+in_ok-copy+in_ok-insert, else-is_none}
use Rattle.fed_room_contract.proofs.change.add_keys.Goals as goal

pub loop-change-preserved : goal.loop-change-preserved
loop-change-preserved c =
    let change : Change = c.change-item.result in
    let before : StateMap = c.args.keys.now in
    let after : StateMap = c.loop-change.keys in
    let cs : List Change = take c.loop-change.change-index c.args.changes.now in
    let kind = c.as_str-kind.ensures.value in
    let key = c.as_str-state_key.ensures.value in
    let own : (c.as_str-kind.result.now, c.as_str-state_key.result.now) ≡ key_of change = λ i. (kind i, key i) in
    let more : take (c.loop-change.change-index + 1) c.args.changes.now ≡ cs ++ change ∷ [] =
    take_more c.args.changes.now c.loop-change.change-index change c.loop-change-test.true ∙ ap (λ (x : Change). cs ++ x ∷ []) (sym c.change-item.is) in
    subst (λ (xs : List Change). AreKeysBeyond before xs c.if-is_none.keys) (sym more) (elim c.if-is_none.branch [
      | then-is_none+in_ok-copy+in_ok-insert w ↦
          let state : c.if-is_none.keys ≡ finite.insert after (key_of change) w.in_ok-copy.field-0 = w.keys-is ∙ w.in_ok-insert.ensures.ok ∙ ap (λ (q : StateKey). finite.insert after q w.in_ok-copy.field-0) own in
          record { each = λ q. more-changed before after c.if-is_none.keys cs change q (c.loop-change.invariant.each q) (ap (λ (s : StateMap). finite.contains_key s q) state ∙ key-more after (key_of change) _ q) }
      | else-is_none w ↦
          let there : finite.contains_key after (key_of change) ≡ true =
          ap (λ (q : StateKey). finite.contains_key after q) (sym own) ∙ ap is_some (sym c.get.ensures) ∙ some-map (λ id. id.now) c.get.result ∙ c.is_none.ensures ∙ ap not w.if-is_none.false in
          record { each = λ q. more-changed before after c.if-is_none.keys cs change q (c.loop-change.invariant.each q) (ap (λ (s : StateMap). finite.contains_key s q) w.keys-is ∙ key-there after (key_of change) q there) }
    ])
