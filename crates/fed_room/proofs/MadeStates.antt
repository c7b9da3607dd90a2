-- States that were made of several, and differ from each of them at some keys alone.
use Rattle.std.proofs.Common.{ℕ, List, Bool, true, false, cond, Option, None, Some, if◌then◌else◌, sym, ap, ◌∙◌}
use Rattle.std.specs.FinMap as finite
use Rattle.std.specs.Ordering.{eq_by_cmp}
use Rattle.fed_auth.specs.AuthState.{with_id_at}
use Rattle.fed_room_contract.specs.State.{StateMap, key_cmp}
use Rattle.fed_room_contract.specs.Steps.{IsAlikeBut}
use Rattle.fed_room_contract.proofs.Changes.{first-not, second-not, key-more}
use Rattle.fed_room_contract.proofs.States.{key_cmp_total}

module _ (base state keys : StateMap) (kind id other : List ℕ) (alike : IsAlikeBut keys base state) where
  laid : (own : Option (List ℕ)) → IsAlikeBut (with_id_at keys kind own id) base (with_id_at state kind own other)
  laid None q missing = alike q missing
  laid (Some k) q missing =
      let both = sym (key-more keys (kind, k) id q) ∙ missing in
      let apart = second-not (finite.contains_key keys q) (eq_by_cmp key_cmp q (kind, k)) both in
      finite.get-insert key_cmp_total state (kind, k) other q ∙ ap (λ b. cond b (Some other) (finite.get state q)) apart
      ∙ alike q (first-not (finite.contains_key keys q) (eq_by_cmp key_cmp q (kind, k)) both)

  kept : (own : Option (List ℕ)) → IsAlikeBut (with_id_at keys kind own id) base state
  kept None q missing = alike q missing
  kept (Some k) q missing = alike q (first-not (finite.contains_key keys q) (eq_by_cmp key_cmp q (kind, k)) (sym (key-more keys (kind, k) id q) ∙ missing))

  -- so does such a state with an event, at its key too
  pub alike-with : (own : Option (List ℕ)) (rejected : Bool) → IsAlikeBut (with_id_at keys kind own id) base (if rejected then state else with_id_at state kind own other)
  alike-with own true = kept own
  alike-with own false = laid own
