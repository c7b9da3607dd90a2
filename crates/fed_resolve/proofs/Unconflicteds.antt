-- The unconflicted state, entry by entry; and the full auth chain of a state.
use Rattle.std.proofs.Common.{◌≡◌, ℕ, List, [], ◌∷◌, ◌++◌, ◌+◌, map, take, length, ◌<◌, append-nil, bytes_eq, Bool, true, false, ◌||◌, cond, Option, None, Some, is_some, refl, sym, ap, subst, ◌∙◌, arith}
use Rattle.std.proofs.lemmas.Bool.{or_right}
use Rattle.std.proofs.lemmas.List.Folds.{list_any-append}
use Rattle.std.proofs.lemmas.List.{take_more, map-append}
use Rattle.std.proofs.lemmas.List.Elements.{filter_map-append}
use Rattle.std.specs.Option.{option_eq}
use Rattle.std.specs.FinMap as finite
use Rattle.std.specs.List.{list_any, list_all, filter_map, cons_option, slice_index_or, slice_get}
use Rattle.std.specs.Ordering.{eq_by_cmp}
use Rattle.fed_event.specs.Tests.{holds}
use Rattle.fed_room_contract.specs.declared.graph.Stored.{Stored}
use Rattle.fed_room_contract.specs.State.{StateKey, StateMap, key_cmp}
use Rattle.fed_room_contract.proofs.Filled.{tied}
use Rattle.fed_room_contract.proofs.States.{key_cmp_total, key_cmp_same}
use Rattle.fed_auth.proofs.Selections.{list_any-map}
use Rattle.fed_resolve.specs.Chain.{is_in_chain, is_in_chains, is_in_full_chain}
use Rattle.fed_resolve.specs.Conflict.{agree_with, unconflicted}
use Rattle.fed_resolve.specs.ConflictParts.{AreKept, has_key, has_id_at, place_of_entry}

or_none : (a : Bool) → a ≡ (a || (false || false))
or_none true = refl
or_none false = refl

pub has_more : (es : List (StateKey × List ℕ)) (e : StateKey × List ℕ) (q : StateKey) → eq_by_cmp key_cmp q e.0 ≡ true → has_key (es ++ e ∷ []) q ≡ true
has_more es e q t = list_any-append (λ x. eq_by_cmp key_cmp q x.0) es (e ∷ []) ∙ or_right (has_key es q) (eq_by_cmp key_cmp q e.0 || false) (ap (λ b. b || false) t)

pub has_other : (es : List (StateKey × List ℕ)) (e : StateKey × List ℕ) (q : StateKey) → eq_by_cmp key_cmp q e.0 ≡ false → has_key es q ≡ has_key (es ++ e ∷ []) q
has_other es e q t = or_none (has_key es q) ∙ ap (λ b. has_key es q || (b || false)) (sym t) ∙ sym (list_any-append (λ x. eq_by_cmp key_cmp q x.0) es (e ∷ []))

pub kept-none : (whole : StateMap) → AreKept whole [] finite.empty
kept-none whole = record { each = λ q. finite.get-empty key_cmp q }

module _ (whole state : StateMap) (es : List (StateKey × List ℕ)) (e : StateKey × List ℕ) (kept : AreKept whole es state) where
  other : (q : StateKey) → eq_by_cmp key_cmp q e.0 ≡ false → finite.get state q ≡ cond (has_key (es ++ e ∷ []) q) (finite.get whole q) None
  other q t = kept.each q ∙ ap (λ b. cond b (finite.get whole q) None) (has_other es e q t)

  pub kept-laid : (id : List ℕ) → finite.get whole e.0 ≡ Some id → AreKept whole (es ++ e ∷ []) (finite.insert state e.0 id)
  kept-laid id h = record { each = λ q. finite.get-insert key_cmp_total state e.0 id q ∙ by q (eq_by_cmp key_cmp q e.0) refl }
    where
      by : (q : StateKey) (b : Bool) → eq_by_cmp key_cmp q e.0 ≡ b → cond b (Some id) (finite.get state q) ≡ cond (has_key (es ++ e ∷ []) q) (finite.get whole q) None
      by q true t = sym h ∙ ap (finite.get whole) (sym (key_cmp_same q e.0 (tied _ t))) ∙ ap (λ b. cond b (finite.get whole q) None) (sym (has_more es e q t))
      by q false t = other q t

  pub kept-skipped : finite.get whole e.0 ≡ None → AreKept whole (es ++ e ∷ []) state
  kept-skipped h = record { each = λ q. by q (eq_by_cmp key_cmp q e.0) refl }
    where
      nothing : (b : Bool) (o : Option (List ℕ)) → o ≡ None → cond b o None ≡ None
      nothing true o n = n
      nothing false o n = refl

      by : (q : StateKey) (b : Bool) → eq_by_cmp key_cmp q e.0 ≡ b → finite.get state q ≡ cond (has_key (es ++ e ∷ []) q) (finite.get whole q) None
      by q true t =
          let none : finite.get whole q ≡ None = ap (finite.get whole) (key_cmp_same q e.0 (tied _ t)) ∙ h in
          kept.each q ∙ nothing (has_key es q) (finite.get whole q) none ∙ sym (nothing (has_key (es ++ e ∷ []) q) (finite.get whole q) none)
      by q false t = other q t

-- at a key
pub entry-unconflicted : (first : StateMap) (others : List StateMap) (q : StateKey)
    → finite.get (unconflicted (first ∷ others)) q ≡ cond (agree_with first others q) (finite.get first q) None
entry-unconflicted first others q = finite.get-retain_keys first (agree_with first others) q (λ x h. ap (agree_with first others) (sym (key_cmp_same q x h)))

chosen_twice : (b : Bool) (o : Option (List ℕ)) → cond (is_some o) (cond b o None) None ≡ cond b o None
chosen_twice true None = refl
chosen_twice false None = refl
chosen_twice b (Some x) = refl

-- all entries of the first state were looked at
pub kept-all : (first : StateMap) (others : List StateMap) (state : StateMap) → AreKept (unconflicted (first ∷ others)) (finite.entries first) state → state ≡ unconflicted (first ∷ others)
kept-all first others state kept =
    finite.same_map key_cmp_total key_cmp_same _ _ (λ q.
    kept.each q
    ∙ ap (λ b. cond b (finite.get (unconflicted (first ∷ others)) q) None) (sym (list_any-map (eq_by_cmp key_cmp q) (λ (e : StateKey × List ℕ). e.0) (finite.entries first)) ∙ sym (finite.contains_key-keys first q))
    ∙ ap (λ o. cond (is_some (finite.get first q)) o None) (entry-unconflicted first others q)
    ∙ chosen_twice (agree_with first others q) (finite.get first q)
    ∙ sym (entry-unconflicted first others q))

-- ---- full auth chains

chains-entries : (events : List Stored) (es : List (StateKey × List ℕ)) (q : ℕ)
    → is_in_chains events (filter_map (place_of_entry events) es) q ≡ list_any (λ e. holds (λ p. is_in_chain events p q) (place_of_entry events e)) es
chains-entries events [] q = refl
chains-entries events (e ∷ es) q =
    elim (place_of_entry events e) as (λ o. is_in_chains events (cons_option o (filter_map (place_of_entry events) es)) q ≡ (holds (λ p. is_in_chain events p q) o || list_any (λ x. holds (λ p. is_in_chain events p q) (place_of_entry events x)) es)) [
      | None ↦ chains-entries events es q
      | Some p ↦ ap (λ b. is_in_chain events p q || b) (chains-entries events es q)
    ]

pub full-chain : (events : List Stored) (state : StateMap) (q : ℕ) (places : List ℕ) (es : List (StateKey × List ℕ)) → places ≡ filter_map (place_of_entry events) es → es ≡ finite.entries state
    → is_in_chains events places q ≡ is_in_full_chain events state q
full-chain events state q places es p e =
    ap (λ ps. is_in_chains events ps q) (p ∙ ap (filter_map (place_of_entry events)) e) ∙ chains-entries events (finite.entries state) q

-- the entries so far, with one more
pub more_seen : {E X : Type 0} (f : E → X) (xs : List E) (i : ℕ) (x : E) → i < length xs → x ≡ slice_index_or xs i x → map f (take (i + 1) xs) ≡ map f (take i xs) ++ f x ∷ []
more_seen f xs i x within is = ap (map f) (take_more xs i x within ∙ ap (λ y. take i xs ++ y ∷ []) (sym is)) ∙ map-append f (take i xs) (x ∷ [])

pub more_mapped : {X Y : Type 0} (h : X → Option Y) (xs : List X) (x : X) → filter_map h (xs ++ x ∷ []) ≡ filter_map h xs ++ cons_option (h x) []
more_mapped h xs x = filter_map-append h xs (x ∷ [])

-- at a key: without states, and in the two cases
pub entry-nowhere : (states : List StateMap) → length states ≡ 0 → (q : StateKey) → finite.get (unconflicted states) q ≡ None
entry-nowhere [] e q = finite.get-empty key_cmp q
entry-nowhere (x ∷ xs) e q = absurd (omega arith)

pub entry-none : (first : StateMap) (others : List StateMap) (q : StateKey) → finite.get first q ≡ None → finite.get (unconflicted (first ∷ others)) q ≡ None
entry-none first others q none = entry-unconflicted first others q ∙ nothing (agree_with first others q) (finite.get first q) none
  where
    nothing : (b : Bool) (o : Option (List ℕ)) → o ≡ None → cond b o None ≡ None
    nothing true o n = n
    nothing false o n = refl

module _ (first : StateMap) (others : List StateMap) (kind key id : List ℕ) (here : finite.get first (kind, key) ≡ Some id) where
  agree-here : (b : Bool) → list_all (has_id_at kind key id) others ≡ b → agree_with first others (kind, key) ≡ b
  agree-here b h = ap (λ o. list_all (λ other. option_eq bytes_eq (finite.get other (kind, key)) o) others) here ∙ h

  pub entry-agreed : list_all (has_id_at kind key id) others ≡ true → Some id ≡ finite.get (unconflicted (first ∷ others)) (kind, key)
  entry-agreed h = sym here ∙ ap (λ b. cond b (finite.get first (kind, key)) None) (sym (agree-here true h)) ∙ sym (entry-unconflicted first others (kind, key))

  pub entry-disagreed : list_all (has_id_at kind key id) others ≡ false → None ≡ finite.get (unconflicted (first ∷ others)) (kind, key)
  entry-disagreed h = ap (λ b. cond b (finite.get first (kind, key)) None) (sym (agree-here false h)) ∙ sym (entry-unconflicted first others (kind, key))

-- the places so far, in the two cases
module _ {E : Type 0} (events : List Stored) (f : E → StateKey × List ℕ) (xs : List E) (i : ℕ) (x : E) (within : i < length xs) (is : x ≡ slice_index_or xs i x) (before : List ℕ) (so_far : before ≡ filter_map (place_of_entry events) (map f (take i xs))) where
  places-more : (o : Option ℕ) → place_of_entry events (f x) ≡ o → before ++ cons_option o [] ≡ filter_map (place_of_entry events) (map f (take (i + 1) xs))
  places-more o h =
      ap (λ b. b ++ cons_option o []) so_far ∙ ap (λ p. filter_map (place_of_entry events) (map f (take i xs)) ++ cons_option p []) (sym h)
      ∙ sym (more_mapped (place_of_entry events) (map f (take i xs)) (f x)) ∙ ap (filter_map (place_of_entry events)) (sym (more_seen f xs i x within is))

  pub places-pushed : (place : ℕ) → place_of_entry events (f x) ≡ Some place → before ++ place ∷ [] ≡ filter_map (place_of_entry events) (map f (take (i + 1) xs))
  places-pushed place h = places-more (Some place) h

  pub places-same : place_of_entry events (f x) ≡ None → before ≡ filter_map (place_of_entry events) (map f (take (i + 1) xs))
  places-same h = sym (append-nil before) ∙ places-more None h

-- by the first state, where there is one
pub kept-first : (states : List StateMap) (first state : StateMap) (es : List (StateKey × List ℕ)) → Some first ≡ slice_get states 0 → es ≡ finite.entries first → AreKept (unconflicted states) es state
    → state ≡ unconflicted states
kept-first [] first state es is e kept = absurd (cc)
kept-first (x ∷ xs) first state es is e kept =
    let same : first ≡ x = cc in
    kept-all x xs state (subst (λ ys. AreKept (unconflicted (x ∷ xs)) ys state) (e ∙ ap (λ s. finite.entries s) same) kept)

pub kept-nowhere : (states : List StateMap) → None ≡ slice_get states 0 → finite.empty ≡ unconflicted states
kept-nowhere [] none = refl
kept-nowhere (x ∷ xs) none = absurd (cc)
