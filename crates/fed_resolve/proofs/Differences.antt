-- What states disagree on.
use Rattle.std.proofs.Common.{◌≡◌, ℕ, List, [], ◌∷◌, ◌+◌, ◌<◌, Bool, true, false, not, ◌&&◌, ◌||◌, cond, T, take, length, get_or, eqb, Option, None, Some, bytes_eq, refl, sym, ap, ◌∙◌, arith}
use Rattle.std.specs.List.{list_any, list_all, filter_map, cons_option, AllByRecursion}
use Rattle.std.specs.Option.{option_eq}
use Rattle.std.specs.Ordering.{eq_by_cmp, is_eq}
use Rattle.std.specs.FinMap as finite
use Rattle.std.specs.FinMap.{find, is_sorted}
use Rattle.std.specs.Cmp.{tied_itself}
use Rattle.std.proofs.lemmas.List.Folds.{list_any_more}
use Rattle.fed_event.specs.Tests.{holds}
use Rattle.fed_room_contract.specs.declared.graph.Stored.{Stored}
use Rattle.fed_room_contract.specs.State.{StateKey, StateMap, key_cmp}
use Rattle.fed_room_contract.proofs.Filled.{first, second, tied, absent}
use Rattle.fed_room_contract.proofs.States.{key_cmp_total}
use Rattle.fed_resolve.specs.Chain.{place_of, is_entry_at}
use Rattle.fed_resolve.specs.Conflict.{agree_with, unconflicted}
use Rattle.fed_resolve.specs.ChainParts.{or_among}
use Rattle.fed_resolve.specs.Marks.{AreMarks}
use Rattle.fed_resolve.specs.ConflictParts.{has_id_at, disputed_place, disputed_beside, is_disputed_in}
use Rattle.fed_auth.proofs.AuthStates.{same_bytes}
use Rattle.fed_resolve.proofs.Unconflicteds.{entry-unconflicted}

-- ---- a state has each of its entries

abbrev Entry : Type 0
Entry = StateKey × List ℕ

abbrev pub IsFoundIn : List Entry → Entry → Type 0
IsFoundIn es e = find key_cmp e.0 es ≡ Some e.1

-- an entry more in front is at another key
still_found : (x : Entry) (es : List Entry) → T (is_sorted key_cmp (x ∷ es)) → (e : Entry) → IsFoundIn es e → IsFoundIn (x ∷ es) e
still_found x es sorted e found = by (eq_by_cmp key_cmp e.0 x.0) refl
  where
    by : (b : Bool) → eq_by_cmp key_cmp e.0 x.0 ≡ b → cond b (Some x.1) (find key_cmp e.0 es) ≡ Some e.1
    by false t = found
    by true t =
        let none : find key_cmp e.0 es ≡ None = absent key_cmp_total e.0 x.0 es (tied _ t) (first _ _ sorted) in
        absurd (let no : None ≡ Some e.1 = sym none ∙ found in cc)

all_still : (P Q : Entry → Type 0) → ((e : Entry) → P e → Q e) → (es : List Entry) → AllByRecursion P es → AllByRecursion Q es
all_still P Q f [] all = tt
all_still P Q f (e ∷ es) all = (f e all.0, all_still P Q f es all.1)

pub each_found : (es : List Entry) → T (is_sorted key_cmp es) → AllByRecursion (IsFoundIn es) es
each_found [] sorted = tt
each_found (e ∷ es) sorted =
    (ap (λ r. cond (is_eq r) (Some e.1) (find key_cmp e.0 es)) (tied_itself key_cmp_total e.0), all_still (IsFoundIn es) (IsFoundIn (e ∷ es)) (still_found e es sorted) es (each_found es (second _ _ sorted)))

-- ---- entries that not all states have

holds_or_none : (b : Bool) (o : Option ℕ) (q : ℕ) → holds (λ p. eqb p q) (cond b None o) ≡ (not b && holds (λ p. eqb p q) o)
holds_or_none true o q = refl
holds_or_none false o q = refl

any_holds : (o : Option ℕ) (places : List ℕ) (q : ℕ) → list_any (λ p. eqb p q) (cons_option o places) ≡ (holds (λ p. eqb p q) o || list_any (λ p. eqb p q) places)
any_holds None places q = refl
any_holds (Some p) places q = refl

module _ (events : List Stored) (states : List StateMap) (state : StateMap) (q : ℕ) where
  abbrev disputed : Entry → Bool
  disputed entry = not (agree_with state states entry.0) && is_entry_at events q entry.1

  one_disputed : (e : Entry) → finite.get state e.0 ≡ Some e.1 → holds (λ p. eqb p q) (disputed_place events states e) ≡ disputed e
  one_disputed e here =
      holds_or_none (list_all (has_id_at e.0.0 e.0.1 e.1) states) (place_of events e.1) q
      ∙ ap (λ o. not (list_all (λ other. option_eq bytes_eq (finite.get other e.0) o) states) && is_entry_at events q e.1) (sym here)

  disputed-entries : (es : List Entry) → AllByRecursion (λ e. finite.get state e.0 ≡ Some e.1) es → list_any (λ p. eqb p q) (filter_map (disputed_place events states) es) ≡ list_any disputed es
  disputed-entries [] all = refl
  disputed-entries (e ∷ es) all =
      any_holds (disputed_place events states e) (filter_map (disputed_place events states) es) q
      ∙ ap (λ b. b || list_any (λ p. eqb p q) (filter_map (disputed_place events states) es)) (one_disputed e all.0)
      ∙ ap (λ b. disputed e || b) (disputed-entries es all.1)

  -- all entries of a state
  pub disputed-state : list_any (λ p. eqb p q) (filter_map (disputed_place events states) (finite.entries state)) ≡ list_any disputed (finite.entries state)
  disputed-state =
      disputed-entries (finite.entries state)
      (all_still (IsFoundIn (finite.entries state)) (λ e. finite.get state e.0 ≡ Some e.1) (λ e found. finite.get-entries state e.0 ∙ found) (finite.entries state) (each_found (finite.entries state) (finite.entries_sorted state)))

-- one more state is looked at
pub disputed-more : (events : List Stored) (states : List StateMap) (i : ℕ) (state : StateMap) → i < length states → state ≡ get_or states i state
    → (es : List Entry) → es ≡ finite.entries state → (before new : List Bool)
    → AreMarks (length events) (is_disputed_in events states (take i states)) before → AreMarks (length events) (or_among (filter_map (disputed_place events states) es) before) new
    → AreMarks (length events) (is_disputed_in events states (take (i + 1) states)) new
disputed-more events states i state within here es whole before new are more = record {
  long = more.long;
  each = λ q below.
      more.each q below
      ∙ ap (λ b. b || list_any (λ p. eqb p q) (filter_map (disputed_place events states) es)) (are.each q below)
      ∙ ap (λ xs. is_disputed_in events states (take i states) q || list_any (λ p. eqb p q) (filter_map (disputed_place events states) xs)) whole
      ∙ ap (λ b. is_disputed_in events states (take i states) q || b) (disputed-state events states state q ∙ ap (λ s. list_any (disputed events states s q) (finite.entries s)) here)
      ∙ sym (list_any_more (λ s. list_any (disputed events states s q) (finite.entries s)) states i state within);
}

-- ---- what the unconflicted state has not, not all states have

and_none : (b : Bool) → (b && false) ≡ false
and_none true = refl
and_none false = refl

and_all : (b : Bool) → (b && true) ≡ b
and_all true = refl
and_all false = refl

shown_id : (b : Bool) (x id : List ℕ) → option_eq bytes_eq (cond b (Some x) None) (Some id) ≡ (b && bytes_eq x id)
shown_id true x id = refl
shown_id false x id = refl

shown_none : (b : Bool) (id : List ℕ) → option_eq bytes_eq (cond b None None) (Some id) ≡ false
shown_none true id = refl
shown_none false id = refl

module _ (first : StateMap) (others : List StateMap) (kind key id : List ℕ) where
  abbrev own : StateKey
  own = (kind, key)

  abbrev all_have : Option (List ℕ) → Bool
  all_have o = list_all (λ other. option_eq bytes_eq (finite.get other own) o) others

  agreed_first : (o : Option (List ℕ)) → option_eq bytes_eq (cond (all_have o) o None) (Some id) ≡ (option_eq bytes_eq o (Some id) && all_have (Some id))
  agreed_first None = shown_none (all_have None) id
  agreed_first (Some x) = shown_id (all_have (Some x)) x id ∙ by (bytes_eq x id) refl
    where
      by : (b : Bool) → bytes_eq x id ≡ b → (all_have (Some x) && b) ≡ (b && all_have (Some id))
      by true t = and_all (all_have (Some x)) ∙ ap (λ y. all_have (Some y)) (same_bytes x id t)
      by false t = and_none (all_have (Some x))

  agreed-id : has_id_at kind key id (unconflicted (first ∷ others)) ≡ list_all (has_id_at kind key id) (first ∷ others)
  agreed-id = ap (λ o. option_eq bytes_eq o (Some id)) (entry-unconflicted first others own) ∙ agreed_first (finite.get first own)

pub disputed-beside : (events : List Stored) (states : List StateMap) → 0 < length states → disputed_beside events (unconflicted states) ≡ disputed_place events states
disputed-beside events [] some = absurd (omega arith)
disputed-beside events (first ∷ others) some = λ i entry. cond (agreed-id first others entry.0.0 entry.0.1 entry.1 i) None (place_of events entry.1)
