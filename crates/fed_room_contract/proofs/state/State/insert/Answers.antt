use Rattle.std.proofs.Common.{◌≡◌, ℕ, List, Option, None, Some, IsSome, option_map, unwrap_or, refl, sym, ap, ◌∙◌, String}
use Rattle.std.specs.declared.alloc.Global.{Global}
use Rattle.std.specs.FinMap as finite
use Rattle.std.specs.BTreeMap.{BTreeMap, IsOrdered, get_by_text}
use Rattle.std.specs.String.{string_cmp}
use Rattle.std.proofs.lemmas.Result.{on_ok_weaker, on_err_weaker}
use Rattle.fed_json.proofs.TextMaps.{get-text_map, text_map-insert}
use Rattle.fed_room_contract.specs.State.{StateMap, with_entry}
use Rattle.fed_room_contract.specs.StateParts.{Ids, kinds_of, flattened}
use Rattle.fed_room_contract.proofs.TextUpdates.{text_map-updates}
use Rattle.fed_room_contract.proofs.States.{flattened-insert_at, insert_same}
use Rattle.fed_room_contract.proofs.state.State.insert.Goals as goal

unchanged : (o : Option Ids) → option_map (λ x. x) o ≡ o
unchanged None = refl
unchanged (Some x) = refl

found : (m : BTreeMap (String Global) Ids) (kind : List ℕ) (o : Option Ids) → IsOrdered string_cmp m → o ≡ get_by_text m kind → finite.get (kinds_of m.entries) kind ≡ o
found m kind o h e = get-text_map (λ (ids : Ids). ids) m.entries h kind ∙ unchanged _ ∙ sym e

is_there : (o : Option Ids) (ids : Ids) → Some ids ≡ o → IsSome o
is_there (Some x) ids h = refl
is_there None ids h = absurd (cc)

pub returns-in-Some-clause-ok : goal.returns-in-Some-clause-ok
returns-in-Some-clause-ok c =
    let m = c.self.inside.kinds in
    let kind = c.args.kind.now in
    let old = c.in-Some.keyed.now in
    let new = c.insert.new.self in
    let written = c.get_mut.follows.holds new in
    let there = found m kind (Some old) c.self.invariant c.in-Some.ensures.value in
    let kinds = text_map-updates (λ (ids : Ids). ids) m (c.get_mut.follows.lender new) kind new c.self.invariant written.4 (written.3 (is_there _ old c.in-Some.ensures.value)) in
    on_ok_weaker c.insert.result (λ laid.
    ap flattened (kinds ∙ ap (finite.insert (kinds_of m.entries) kind) laid)
    ∙ flattened-insert_at (kinds_of m.entries) kind c.args.state_key.now c.args.id old (ap (λ (o : Option Ids). unwrap_or o finite.empty) there)
    ∙ ap (λ (s : StateMap). with_entry s kind c.args.state_key.now c.args.id) c.self.view_is) c.insert.ensures.ok

pub returns-in-Some-clause-err : goal.returns-in-Some-clause-err
returns-in-Some-clause-err c =
    let m = c.self.inside.kinds in
    let kind = c.args.kind.now in
    let old = c.in-Some.keyed.now in
    let new = c.insert.new.self in
    let written = c.get_mut.follows.holds new in
    let there = found m kind (Some old) c.self.invariant c.in-Some.ensures.value in
    let kinds = text_map-updates (λ (ids : Ids). ids) m (c.get_mut.follows.lender new) kind new c.self.invariant written.4 (written.3 (is_there _ old c.in-Some.ensures.value)) in
    on_err_weaker c.insert.result (λ same.
    ap flattened (kinds ∙ ap (finite.insert (kinds_of m.entries) kind) same ∙ insert_same (kinds_of m.entries) kind old there) ∙ c.self.view_is) c.insert.ensures.err

pub returns-clause-ok : goal.returns-clause-ok
returns-clause-ok c =
    let m = c.self.inside.kinds in
    let kind = c.args.kind.now in
    let new = c.insert-2.new.self in
    let left = c.get_mut.follows.lender-at-none in
    let stays : left ≡ m = c.get_mut.follows.holds-at-none in
    let missing = found m kind None c.self.invariant c.in_default.ensures.value in
    let kinds = text_map-insert (λ (ids : Ids). ids) left.entries c.insert-3.new.self.entries c.in_ok-kind.kind new c.in_ok-insert-2.ensures.was_ordered c.in_ok-insert-2.ensures.ordered c.in_ok-insert-2.ensures.entries in
    let one : new ≡ finite.insert finite.empty c.args.state_key.now c.args.id = c.in_ok-insert.ensures.ok ∙ ap (λ (ids : Ids). finite.insert ids c.args.state_key.now c.args.id) c.new-keyed.ensures in
    ap flattened (kinds ∙ ap (λ k. finite.insert (kinds_of left.entries) k new) c.in_ok-kind.ensures.ok ∙ ap (λ (n : BTreeMap (String Global) Ids). finite.insert (kinds_of n.entries) kind new) stays ∙ ap (finite.insert (kinds_of m.entries) kind) one)
    ∙ flattened-insert_at (kinds_of m.entries) kind c.args.state_key.now c.args.id finite.empty (ap (λ (o : Option Ids). unwrap_or o finite.empty) missing)
    ∙ ap (λ (s : StateMap). with_entry s kind c.args.state_key.now c.args.id) c.self.view_is
