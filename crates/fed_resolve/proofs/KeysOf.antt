-- The types and state keys at which events of a set stand.
use Rattle.std.proofs.Common.{◌≡◌, ℕ, List, Bool, true, false, true≢false, ◌||◌, Option, None, Some, bytes_eq, refl, sym, ap, ◌∙◌}
use Rattle.std.proofs.lemmas.Bool.{and_parts}
use Rattle.std.specs.FinMap as finite
use Rattle.std.specs.List.{slice_get}
use Rattle.std.specs.Option.{option_eq}
use Rattle.std.specs.Ordering.{is_eq, eq_by_cmp}
use Rattle.std.specs.Cmp.{tied_itself}
use Rattle.fed_auth.proofs.AuthStates.{same_bytes}
use Rattle.fed_auth.specs.AuthState.{kind_in, state_key_in, stands_at}
use Rattle.fed_room_contract.specs.declared.graph.Stored.{Stored}
use Rattle.fed_room_contract.specs.State.{StateMap, key_cmp}
use Rattle.fed_room_contract.proofs.Changes.{first-not, key-more}
use Rattle.fed_room_contract.proofs.States.{key_cmp_total}
use Rattle.fed_resolve.specs.KeptParts.{HasKeyAt}

or-second : (a b : Bool) → b ≡ true → (a || b) ≡ true
or-second true b h = refl
or-second false b h = h

own-key : (o : Option (List ℕ)) (key : List ℕ) → option_eq bytes_eq (Some key) o ≡ true → o ≡ Some key
own-key None key h = absurd (true≢false (sym h))
own-key (Some x) key h = ap Some (sym (same_bytes key x h))

stands-parts : (kind key : List ℕ) (stored : Stored) → stands_at kind key stored ≡ true → (kind ≡ kind_in stored) × (state_key_in stored ≡ Some key)
unfolding stands_at
stands-parts kind key stored h =
    let parts = and_parts (bytes_eq kind (kind_in stored)) (option_eq bytes_eq (Some key) (state_key_in stored)) h in
    (same_bytes kind (kind_in stored) parts.0, own-key (state_key_in stored) key parts.1)

pub key-entered : (events : List Stored) (place : ℕ) (before : StateMap) (stored : Stored) (kind key id : List ℕ) → slice_get events place ≡ Some stored → kind ≡ kind_in stored → state_key_in stored ≡ Some key
    → HasKeyAt events place before (finite.insert before (kind, key) id)
key-entered events place before stored kind key id here same own = record {
  more = λ q none. first-not (finite.contains_key before q) (eq_by_cmp key_cmp q (kind, key)) (sym (key-more before (kind, key) id q) ∙ none);
  each = λ other q there stands.
      let one : other ≡ stored = cc in
      let parts = stands-parts q.0 q.1 other stands in
      let first : kind ≡ q.0 = same ∙ ap kind_in (sym one) ∙ sym parts.0 in
      let second : key ≡ q.1 = let both = sym own ∙ ap state_key_in (sym one) ∙ parts.1 in cc in
      key-more before (kind, key) id q
      ∙ or-second (finite.contains_key before q) (eq_by_cmp key_cmp q (kind, key)) ((λ i. eq_by_cmp key_cmp q (first i, second i)) ∙ ap is_eq (tied_itself key_cmp_total q));
}

pub key-missing : (events : List Stored) (place : ℕ) (before : StateMap) (stored : Stored) → slice_get events place ≡ Some stored → state_key_in stored ≡ None → HasKeyAt events place before before
key-missing events place before stored here none = record {
  more = λ q gone. gone;
  each = λ other q there stands.
      let one : other ≡ stored = cc in
      let parts = stands-parts q.0 q.1 other stands in
      absurd (let both = sym none ∙ ap state_key_in (sym one) ∙ parts.1 in cc);
}
