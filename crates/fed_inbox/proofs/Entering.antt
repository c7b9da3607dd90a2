-- How far the elements of a transaction are entered.
use Rattle.std.proofs.Common.{◌≡◌, ℕ, List, [], ◌∷◌, ◌++◌, Bool, true, false, ◌&&◌, ◌||◌, not, cond, if◌then◌else◌, Option, Some, is_some, is_none, map, filter, bytes_eq, refl, sym, ap, ◌∙◌, append_assoc, ◌⊎◌, inl, inr}
use Rattle.std.proofs.lemmas.Bool.{cases_Bool}
use Rattle.std.proofs.lemmas.List.{append-nil}
use Rattle.std.specs.FinMap as finite
use Rattle.std.specs.Cmp.Lexicographic.{slice_cmp, nat_list_cmp_total}
use Rattle.std.specs.Ordering.{is_eq, nat_cmp}
use Rattle.std.proofs.lemmas.Map.Text.{is_eq-slice_cmp}
use Rattle.serde_json.specs.Data.{Data}
use Rattle.serde_json.specs.Find.{as_object}
use Rattle.fed_event.specs.Names.{is_one_of}
use Rattle.fed_inbox.specs.Elements.{read_as, element_id}
use Rattle.fed_event.specs.Keys.{Checks}
use Rattle.fed_event.specs.Checked.{CheckedEvent, checked_of}
use Rattle.fed_txn.specs.Verdicts.{VerdictMap}
use Rattle.fed_inbox.specs.Taking.{firsts_but, verdict_on, with_verdicts, verdicts_on, passing, fresh_of}
use Rattle.fed_inbox.specs.ReceivedParts.{Entered, with_event, after_element}

is_some-cond : (b : Bool) (v : Option (List ℕ)) (o : Option (Option (List ℕ))) → is_some (cond b (Some v) o) ≡ (b || is_some o)
is_some-cond true v o = refl
is_some-cond false v o = refl

key_entered : (m : VerdictMap) (k : List ℕ) (v : Option (List ℕ)) (q : List ℕ) → finite.contains_key (finite.insert m k v) q ≡ (bytes_eq q k || finite.contains_key m q)
key_entered m k v q =
    ap is_some (finite.get-insert nat_list_cmp_total m k v q) ∙ is_some-cond (is_eq (slice_cmp nat_cmp q k)) v (finite.get m q)
    ∙ ap (λ b. b || is_some (finite.get m q)) (is_eq-slice_cmp q k)

module _ (checks : Checks) (rooms : List (List ℕ)) where
  -- what is left makes the rest, where the ids with a verdict are the known ones
  pub record Enters (so_far : Entered) (left all : List Data) : Type 0 where
    pub known : List (List ℕ)
    pub keys : (id : List ℕ) → finite.contains_key so_far.0 id ≡ is_one_of known id
    pub verdicts : with_verdicts checks rooms so_far.0 (firsts_but known left) ≡ verdicts_on checks rooms all
    pub fresh : so_far.1 ++ passing checks rooms (firsts_but known left) ≡ fresh_of checks rooms all

  pub enters_first : (all : List Data) → Enters (finite.empty, []) all all
  enters_first all = record { known = []; keys = λ id. ap is_some (finite.get-empty (slice_cmp nat_cmp) id); verdicts = refl; fresh = refl }

  one_more : (event : Data) (events : List Data) (fresh : List CheckedEvent)
      → (if is_none (verdict_on checks rooms event) then fresh ++ checked_of checks (read_as event) ∷ [] else fresh) ++ passing checks rooms events ≡ fresh ++ passing checks rooms (event ∷ events)
  one_more event events fresh =
      elim (is_none (verdict_on checks rooms event)) as (λ b. (if b then fresh ++ checked_of checks (read_as event) ∷ [] else fresh) ++ passing checks rooms events
      ≡ fresh ++ map (λ e. checked_of checks (read_as e)) (if b then event ∷ filter (λ e. is_none (verdict_on checks rooms e)) events else filter (λ e. is_none (verdict_on checks rooms e)) events))
      [ true ↦ append_assoc fresh (checked_of checks (read_as event) ∷ []) (passing checks rooms events) | false ↦ refl ]

  pub enters_next : (so_far : Entered) (element : Data) (left all : List Data) → Enters so_far (element ∷ left) all → Enters (after_element checks rooms so_far element) left all
  enters_next so_far element left all reached = by (cases_Bool looked_at)
    where
      id : List ℕ
      id = element_id element

      looked_at : Bool
      looked_at = is_some (as_object element) && not (finite.contains_key so_far.0 id)

      same_test : (is_some (as_object element) && not (is_one_of reached.known id)) ≡ looked_at
      same_test = ap (λ b. is_some (as_object element) && not b) (sym (reached.keys id))

      firsts_by : (b : Bool) → looked_at ≡ b → firsts_but reached.known (element ∷ left) ≡ (if b then element ∷ firsts_but (id ∷ reached.known) left else firsts_but reached.known left)
      firsts_by b is = ap (λ t. if t then element ∷ firsts_but (id ∷ reached.known) left else firsts_but reached.known left) (same_test ∙ is)

      after_by : (b : Bool) → looked_at ≡ b → after_element checks rooms so_far element ≡ (if b then with_event checks rooms so_far element else so_far)
      after_by b is = ap (λ t. if t then with_event checks rooms so_far element else so_far) is

      by : (looked_at ≡ true) ⊎ (looked_at ≡ false) → Enters (after_element checks rooms so_far element) left all
      by (inl is) = rw (after_by true is) (record {
        known = id ∷ reached.known;
        keys = λ q. key_entered so_far.0 id (verdict_on checks rooms element) q ∙ ap (λ b. bytes_eq q id || b) (reached.keys q);
        verdicts = ap (with_verdicts checks rooms so_far.0) (sym (firsts_by true is)) ∙ reached.verdicts;
        fresh = one_more element (firsts_but (id ∷ reached.known) left) so_far.1 ∙ ap (λ events. so_far.1 ++ passing checks rooms events) (sym (firsts_by true is)) ∙ reached.fresh;
      })
      by (inr is) = rw (after_by false is) (record {
        known = reached.known;
        keys = reached.keys;
        verdicts = ap (with_verdicts checks rooms so_far.0) (sym (firsts_by false is)) ∙ reached.verdicts;
        fresh = ap (λ events. so_far.1 ++ passing checks rooms events) (sym (firsts_by false is)) ∙ reached.fresh;
      })

  pub enters_last : (so_far : Entered) (all : List Data) → Enters so_far [] all → (so_far.0 ≡ verdicts_on checks rooms all) × (so_far.1 ≡ fresh_of checks rooms all)
  enters_last so_far all reached = (reached.verdicts, sym (append-nil so_far.1) ∙ reached.fresh)
