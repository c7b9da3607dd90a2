use Rattle.std.proofs.Common.{◌≡◌, ◌<◌, ℕ, true, false, Some}
use Rattle.std.specs.FinMap as finite
use Rattle.std.specs.List.{slice_get}
use Rattle.fed_room_contract.specs.State.{StateKey}
use Rattle.fed_room_contract.specs.declared.graph.Stored.{Stored}
use Rattle.fed_auth.specs.AuthState.{stands_at}
use Rattle.fed_resolve.specs.ChainParts.{is_marked}
use Rattle.fed_resolve.proofs.kept.add_keys_of.Given as goal

-- those of the places so far
abbrev pub invariant-loop-place : goal.invariant-loop-place
invariant-loop-place l = record {
  more : (key : StateKey) → finite.contains_key l.keys key ≡ false → finite.contains_key l.fn.keys key ≡ false;
  each : (place : ℕ) (stored : Stored) (key : StateKey) → place < l.place → is_marked l.marks place ≡ true → slice_get l.graph.stored place ≡ Some stored → stands_at key.0 key.1 stored ≡ true
      → finite.contains_key l.keys key ≡ true;
}
