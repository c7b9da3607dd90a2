use Rattle.std.proofs.Common.{◌≡◌, ℕ, List, Option, None, Some, IsSome, option_map, refl, sym, ap, ◌∙◌, String}
use Rattle.std.specs.declared.alloc.Global.{Global}
use Rattle.std.specs.FinMap as finite
use Rattle.std.specs.BTreeMap.{BTreeMap, IsOrdered, get_by_text}
use Rattle.std.specs.String.{string_cmp}
use Rattle.fed_json.proofs.TextMaps.{get-text_map}
use Rattle.fed_room_contract.specs.State.{StateMap}
use Rattle.fed_room_contract.specs.StateParts.{Ids, kinds_of, flattened}
use Rattle.fed_room_contract.specs.declared.state.State.TheInside.{Inside}
use Rattle.fed_room_contract.proofs.TextUpdates.{text_map-updates}
use Rattle.fed_room_contract.proofs.States.{flattened-remove_at, flattened-remove_none}
use Rattle.fed_room_contract.proofs.state.State.remove.Goals.{in-Some, in_default}
use Rattle.fed_room_contract.proofs.state.State.remove.Goals as goal

unchanged : (o : Option Ids) → option_map (λ x. x) o ≡ o
unchanged None = refl
unchanged (Some x) = refl

found : (m : BTreeMap (String Global) Ids) (kind : List ℕ) (o : Option Ids) → IsOrdered string_cmp m → o ≡ get_by_text m kind → finite.get (kinds_of m.entries) kind ≡ o
found m kind o h e = get-text_map (λ (ids : Ids). ids) m.entries h kind ∙ unchanged _ ∙ sym e

is_there : (o : Option Ids) (ids : Ids) → Some ids ≡ o → IsSome o
is_there (Some x) ids h = refl
is_there None ids h = absurd (cc)

pub returns : goal.returns
returns c =
    let m = c.self.inside.kinds in
    let kind = c.args.kind.now in
    let key = c.args.state_key.now in
    elim c.match-get_mut.branch [
      | in-Some w ↦
          let old = w.in-Some.keyed.now in
          let new = w.remove.new.self in
          let written = c.get_mut.follows.holds new in
          let there = found m kind (Some old) c.self.invariant w.in-Some.ensures.value in
          let kinds = text_map-updates (λ (ids : Ids). ids) m (c.get_mut.follows.lender new) kind new c.self.invariant written.4 (written.3 (is_there _ old w.in-Some.ensures.value)) in
          ap (λ (s : Inside). flattened (kinds_of s.kinds.entries)) w.self-inside-is
          ∙ ap flattened (kinds ∙ ap (finite.insert (kinds_of m.entries) kind) w.remove.ensures)
          ∙ flattened-remove_at (kinds_of m.entries) kind key old there
          ∙ ap (λ (s : StateMap). finite.remove s (kind, key)) c.self.view_is
      | in_default w ↦
          let missing = found m kind None c.self.invariant w.in_default.ensures.value in
          ap (λ (s : Inside). flattened (kinds_of s.kinds.entries)) w.self-inside-is
          ∙ ap (λ (n : BTreeMap (String Global) Ids). flattened (kinds_of n.entries)) c.get_mut.follows.holds-at-none
          ∙ flattened-remove_none (kinds_of m.entries) kind key missing
          ∙ ap (λ (s : StateMap). finite.remove s (kind, key)) c.self.view_is
    ]
