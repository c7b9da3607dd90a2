-- States that are completed from auth events, entry by entry.
use Rattle.std.proofs.Common.{◌≡◌, ℕ, zero, suc, List, [], ◌∷◌, ◌++◌, All, Bool, true, false, true≢false, ◌||◌, cond, Option, None, Some, is_some, refl, sym, ap, ◌∙◌, arith}
use Rattle.std.proofs.lemmas.Bool.{or_left, or_right}
use Rattle.std.proofs.lemmas.List.Folds.{list_any-append}
use Rattle.std.specs.Prelude.{⊤, find, map, Result, Ok, Err, length, ◌<◌, if◌then◌else◌, option_and_then, slice_get}
use Rattle.std.specs.FinMap as finite
use Rattle.std.specs.List.{filter_map, cons_option, slice_index_or}
use Rattle.std.specs.Ordering.{eq_by_cmp, is_eq}
use Rattle.std.specs.Cmp.{tied_itself}
use Rattle.std.specs.Result.{is_ok}
use Rattle.fed_event.specs.Tests.{holds}
use Rattle.fed_event.specs.Fields.{auth_events_of}
use Rattle.fed_room_contract.specs.declared.rule.Rule.{Rule}
use Rattle.fed_room_contract.specs.declared.graph.Stored.{Stored}
use Rattle.fed_room_contract.specs.State.{StateKey, StateMap, key_cmp, with_entry}
use Rattle.fed_room_contract.specs.Graph.{has_id, id_of, stored_at, links_in, auth_links}
use Rattle.fed_room_contract.proofs.Positions.{find-position, find-no_position}
use Rattle.fed_room_contract.proofs.Filled.{tied}
use Rattle.fed_room_contract.proofs.States.{key_cmp_total, key_cmp_same}
use Rattle.fed_auth.specs.AuthState.{is_rejected, stands_at, stored_of, with_stored}
use Rattle.fed_auth.specs.Allowed.{allowed_of}
use Rattle.fed_auth.specs.Selection.{entry_of, selector_of, selection_keys}
use Rattle.fed_resolve.specs.Chain.{place_of}
use Rattle.fed_resolve.specs.Checks.{with_auth, with_key, with_keys, laid_over, check_stored, check}
use Rattle.fed_resolve.specs.ChecksParts.{id_unless_rejected, auth_id_at, known_at, with_known, has_selected, IsSelected}

itself : (key : StateKey) → eq_by_cmp key_cmp key key ≡ true
itself key = ap is_eq (tied_itself key_cmp_total key)

has_nth : (keys : List (Option StateKey)) (i : ℕ) (d : Option StateKey) (key : StateKey) → i < length keys → slice_index_or keys i d ≡ Some key → has_selected keys key ≡ true
has_nth [] i d key h e = absurd (omega arith)
has_nth (k ∷ keys) zero d key h e = or_left (holds (eq_by_cmp key_cmp key) k) (has_selected keys key) (ap (holds (eq_by_cmp key_cmp key)) e ∙ itself key)
has_nth (k ∷ keys) (suc i) d key h e = or_right (holds (eq_by_cmp key_cmp key) k) (has_selected keys key) (has_nth keys i d key (omega arith) e)

-- what stands at an index
pub nth-map : {X Y : Type 0} (f : X → Y) (xs : List X) (i : ℕ) (d : X) → f (slice_index_or xs i d) ≡ slice_index_or (map f xs) i (f d)
nth-map f [] i d = refl
nth-map f (x ∷ xs) zero d = refl
nth-map f (x ∷ xs) (suc i) d = nth-map f xs i d

pub nth-default : {X : Type 0} (xs : List X) (i : ℕ) (d e : X) → i < length xs → slice_index_or xs i d ≡ slice_index_or xs i e
nth-default [] i d e h = absurd (omega arith)
nth-default (x ∷ xs) zero d e h = refl
nth-default (x ∷ xs) (suc i) d e h = nth-default xs i d e (omega arith)

module _ (auths : List Stored) where
  -- one key completed: at that key, and at any other one
  auth-here : (state : StateMap) (key : StateKey) (auth : Option Stored) → is_some (finite.get state key) ≡ false → finite.get (with_auth state key auth) key ≡ id_unless_rejected auth
  auth-here state key None none = absent (finite.get state key) none
    where
      absent : (o : Option (List ℕ)) → is_some o ≡ false → o ≡ None
      absent None h = refl
      absent (Some x) h = absurd (true≢false h)
  auth-here state key (Some auth) none = by (is_rejected auth)
    where
      absent : (o : Option (List ℕ)) → is_some o ≡ false → o ≡ None
      absent None h = refl
      absent (Some x) h = absurd (true≢false h)

      by : (b : Bool) → finite.get (if b then state else with_entry state key.0 key.1 (id_of auth)) key ≡ (if b then None else Some (id_of auth))
      by true = absent (finite.get state key) none
      by false = finite.get-insert key_cmp_total state key (id_of auth) key ∙ ap (λ b. cond b (Some (id_of auth)) (finite.get state key)) (itself key)

  auth-other : (state : StateMap) (key other : StateKey) (auth : Option Stored) → eq_by_cmp key_cmp other key ≡ false → finite.get (with_auth state key auth) other ≡ finite.get state other
  auth-other state key other None h = refl
  auth-other state key other (Some auth) h = by (is_rejected auth)
    where
      by : (b : Bool) → finite.get (if b then state else with_entry state key.0 key.1 (id_of auth)) other ≡ finite.get state other
      by true = refl
      by false = finite.get-insert key_cmp_total state key (id_of auth) other ∙ ap (λ b. cond b (Some (id_of auth)) (finite.get state other)) h

  -- one key completed: what the state has there
  key-here : (state : StateMap) (key : StateKey) → finite.get (with_key auths state (Some key)) key ≡ known_at auths state key
  key-here state key = by (is_some (finite.get state key)) refl
    where
      by : (b : Bool) → is_some (finite.get state key) ≡ b
          → finite.get (if b then state else with_auth state key (find (stands_at key.0 key.1) auths)) key ≡ cond b (finite.get state key) (auth_id_at auths key)
      by true e = refl
      by false e = auth-here state key (find (stands_at key.0 key.1) auths) e

  key-other : (state : StateMap) (key other : StateKey) → eq_by_cmp key_cmp other key ≡ false → finite.get (with_key auths state (Some key)) other ≡ finite.get state other
  key-other state key other h = by (is_some (finite.get state key))
    where
      by : (b : Bool) → finite.get (if b then state else with_auth state key (find (stands_at key.0 key.1) auths)) other ≡ finite.get state other
      by true = refl
      by false = auth-other state key other (find (stands_at key.0 key.1) auths) h

  -- what is known at a key stays
  known-again : (o : Option (List ℕ)) (auth : Option (List ℕ)) → cond (is_some (cond (is_some o) o auth)) (cond (is_some o) o auth) auth ≡ cond (is_some o) o auth
  known-again (Some x) auth = refl
  known-again None None = refl
  known-again None (Some x) = refl

  known-stays : (state : StateMap) (key : Option StateKey) (other : StateKey) → known_at auths (with_key auths state key) other ≡ known_at auths state other
  known-stays state None other = refl
  known-stays state (Some key) other = by (eq_by_cmp key_cmp other key) refl
    where
      by : (b : Bool) → eq_by_cmp key_cmp other key ≡ b → known_at auths (with_key auths state (Some key)) other ≡ known_at auths state other
      by true t =
          let same : other ≡ key = key_cmp_same other key (tied _ t) in
          let here : finite.get (with_key auths state (Some key)) other ≡ known_at auths state other =
          ap (finite.get (with_key auths state (Some key))) same ∙ key-here state key ∙ ap (known_at auths state) (sym same) in
          ap (λ o. cond (is_some o) o (auth_id_at auths other)) here ∙ known-again (finite.get state other) (auth_id_at auths other)
      by false t = ap (λ o. cond (is_some o) o (auth_id_at auths other)) (key-other state key other t)

  -- at a key that was completed
  keys-done : (keys : List (Option StateKey)) (state : StateMap) (key : StateKey) → finite.get state key ≡ known_at auths state key → finite.get (with_keys auths state keys) key ≡ known_at auths state key
  keys-done [] state key h = h
  keys-done (k ∷ keys) state key h =
      keys-done keys (with_key auths state k) key (step k ∙ sym (known-stays state k key)) ∙ known-stays state k key
    where
      step : (k : Option StateKey) → finite.get (with_key auths state k) key ≡ known_at auths state key
      step None = h
      step (Some one) = by (eq_by_cmp key_cmp key one) refl
        where
          by : (b : Bool) → eq_by_cmp key_cmp key one ≡ b → finite.get (with_key auths state (Some one)) key ≡ known_at auths state key
          by true t = let same = key_cmp_same key one (tied _ t) in ap (finite.get (with_key auths state (Some one))) same ∙ key-here state one ∙ ap (known_at auths state) (sym same)
          by false t = key-other state one key t ∙ h

  keys-known-step : (one : StateKey) (keys : List (Option StateKey)) (state : StateMap) (key : StateKey) (b : Bool) → eq_by_cmp key_cmp key one ≡ b
      → (has_selected keys key ≡ true → finite.get (with_keys auths (with_key auths state (Some one)) keys) key ≡ known_at auths (with_key auths state (Some one)) key)
      → (b || has_selected keys key) ≡ true → finite.get (with_keys auths (with_key auths state (Some one)) keys) key ≡ known_at auths state key
  keys-known-step one keys state key true t later h =
      let same = key_cmp_same key one (tied _ t) in
      let here = ap (finite.get (with_key auths state (Some one))) same ∙ key-here state one ∙ ap (known_at auths state) (sym same) in
      keys-done keys (with_key auths state (Some one)) key (here ∙ sym (known-stays state (Some one) key)) ∙ known-stays state (Some one) key
  keys-known-step one keys state key false t later h = later h ∙ known-stays state (Some one) key

  keys-known : (keys : List (Option StateKey)) (state : StateMap) (key : StateKey) → has_selected keys key ≡ true → finite.get (with_keys auths state keys) key ≡ known_at auths state key
  keys-known [] state key h = absurd (true≢false (sym h))
  keys-known (None ∷ keys) state key h = keys-known keys state key h
  keys-known (Some one ∷ keys) state key h =
      keys-known-step one keys state key (eq_by_cmp key_cmp key one) refl (keys-known keys (with_key auths state (Some one)) key) h

  -- at the key at an index
  pub nth-known : (keys : List (Option StateKey)) (state : StateMap) (i : ℕ) (d : Option StateKey) → i < length keys
      → option_and_then (known_at auths state) (slice_index_or keys i d) ≡ entry_of (with_keys auths state keys) (slice_index_or keys i d)
  nth-known keys state i d h = by (slice_index_or keys i d) refl
    where
      by : (k : Option StateKey) → slice_index_or keys i d ≡ k → option_and_then (known_at auths state) k ≡ entry_of (with_keys auths state keys) k
      by None e = refl
      by (Some key) e = sym (keys-known keys state key (has_nth keys i d key h e))

-- ---- the auth events by their places

module _ (events : List Stored) where
  pub at_place : (id : List ℕ) → option_and_then (slice_get events) (place_of events id) ≡ stored_at events id
  at_place id = by (place_of events id) refl
    where
      by : (o : Option ℕ) → place_of events id ≡ o → option_and_then (slice_get events) o ≡ stored_at events id
      by None e = sym (find-no_position (has_id id) events e)
      by (Some i) e = sym (find-position (has_id id) events i e)

  cons_both : (id : List ℕ) (ids : List (List ℕ)) (o : Option ℕ) → option_and_then (slice_get events) o ≡ stored_at events id
      → filter_map (slice_get events) (filter_map (place_of events) ids) ≡ stored_of events ids
      → filter_map (slice_get events) (cons_option o (filter_map (place_of events) ids)) ≡ cons_option (stored_at events id) (stored_of events ids)
  cons_both id ids None e later = later ∙ ap (λ x. cons_option x (stored_of events ids)) e
  cons_both id ids (Some i) e later = ap (λ x. cons_option x (filter_map (slice_get events) (filter_map (place_of events) ids))) e ∙ ap (cons_option (stored_at events id)) later

  pub at_places : (ids : List (List ℕ)) → filter_map (slice_get events) (filter_map (place_of events) ids) ≡ stored_of events ids
  at_places [] = refl
  at_places (id ∷ ids) = cons_both id ids (place_of events id) (at_place id) (at_places ids)

-- ---- the state at the keys that the rules look at

module _ (whole : StateMap) where
  pub selected-none : IsSelected whole [] finite.empty
  selected-none = record { each = λ q. finite.get-empty key_cmp q }

  has_more : (keys : List (Option StateKey)) (key : Option StateKey) (q : StateKey) → has_selected (keys ++ key ∷ []) q ≡ (has_selected keys q || (holds (eq_by_cmp key_cmp q) key || false))
  has_more keys key q = list_any-append (holds (eq_by_cmp key_cmp q)) keys (key ∷ [])

  or_no : (b c : Bool) → c ≡ false → (b || (c || false)) ≡ b
  or_no true c h = refl
  or_no false c h = ap (λ x. x || false) h

  -- nothing is laid over where the other one has nothing
  selected-skipped : (keys : List (Option StateKey)) (key : Option StateKey) (state : StateMap) → entry_of whole key ≡ None → IsSelected whole keys state → IsSelected whole (keys ++ key ∷ []) state
  selected-skipped keys key state none selected = record { each = λ q. selected.each q ∙ by key none q (holds (eq_by_cmp key_cmp q) key) refl }
    where
      nothing : (b : Bool) (o : Option (List ℕ)) → o ≡ None → (if b then o else None) ≡ None
      nothing true o n = n
      nothing false o n = refl

      by : (k : Option StateKey) → entry_of whole k ≡ None → (q : StateKey) (b : Bool) → holds (eq_by_cmp key_cmp q) k ≡ b
          → (if has_selected keys q then finite.get whole q else None) ≡ (if has_selected (keys ++ k ∷ []) q then finite.get whole q else None)
      by k n q false f = ap (λ b. if b then finite.get whole q else None) (sym (has_more keys k q ∙ or_no (has_selected keys q) (holds (eq_by_cmp key_cmp q) k) f))
      by None n q true t = absurd (true≢false (sym t))
      by (Some one) n q true t =
          let same : q ≡ one = key_cmp_same q one (tied _ t) in
          let at : finite.get whole q ≡ None = ap (finite.get whole) same ∙ n in
          nothing (has_selected keys q) (finite.get whole q) at ∙ sym (nothing (has_selected (keys ++ Some one ∷ []) q) (finite.get whole q) at)

  selected-laid : (keys : List (Option StateKey)) (key : StateKey) (id : List ℕ) (state : StateMap) → finite.get whole key ≡ Some id → IsSelected whole keys state
      → IsSelected whole (keys ++ Some key ∷ []) (finite.insert state key id)
  selected-laid keys key id state h selected = record { each = λ q. finite.get-insert key_cmp_total state key id q ∙ by q (eq_by_cmp key_cmp q key) refl }
    where
      by : (q : StateKey) (b : Bool) → eq_by_cmp key_cmp q key ≡ b → cond b (Some id) (finite.get state q) ≡ (if has_selected (keys ++ Some key ∷ []) q then finite.get whole q else None)
      by q true t =
          sym h ∙ ap (finite.get whole) (sym (key_cmp_same q key (tied _ t)))
          ∙ ap (λ b. if b then finite.get whole q else None) (sym (has_more keys (Some key) q ∙ or_right (has_selected keys q) (eq_by_cmp key_cmp q key || false) (ap (λ b. b || false) t)))
      by q false t =
          selected.each q ∙ ap (λ b. if b then finite.get whole q else None) (sym (has_more keys (Some key) q ∙ or_no (has_selected keys q) (eq_by_cmp key_cmp q key) t))

  pub selected-more : (keys : List (Option StateKey)) (key : Option StateKey) (state : StateMap) → IsSelected whole keys state → IsSelected whole (keys ++ key ∷ []) (with_known state key (entry_of whole key))
  selected-more keys None state selected = selected-skipped keys None state refl selected
  selected-more keys (Some key) state selected = by (finite.get whole key) refl
    where
      by : (o : Option (List ℕ)) → finite.get whole key ≡ o → IsSelected whole (keys ++ Some key ∷ []) (with_known state (Some key) o)
      by None e = selected-skipped keys (Some key) state e selected
      by (Some id) e = selected-laid keys key id state e selected

  -- so both have the same at each of the keys
  pub selected-same : (keys : List (Option StateKey)) (state : StateMap) → IsSelected whole keys state → All (λ key. entry_of state key ≡ entry_of whole key) keys
  selected-same keys state selected i d h = by (slice_index_or keys i d) refl
    where
      by : (k : Option StateKey) → slice_index_or keys i d ≡ k → entry_of state k ≡ entry_of whole k
      by None e = refl
      by (Some key) e = selected.each key ∙ ap (λ b. if b then finite.get whole key else None) (has_nth keys i d key h e)

-- ---- what a check comes to

module _ (events : List Stored) (state : StateMap) (place : ℕ) (stored : Stored) (there : slice_get events place ≡ Some stored) where
  abbrev verdict : Result ⊤ Rule
  verdict = allowed_of events stored.event (with_keys (stored_of events (auth_events_of stored.event.event)) state (selection_keys (selector_of stored.event.event)))

  check-is : laid_over state stored verdict ≡ check events state place
  check-is =
      ap (λ auths. laid_over state stored (allowed_of events stored.event (with_keys auths state (selection_keys (selector_of stored.event.event)))))
      (sym (ap (λ o. filter_map (slice_get events) (links_in (auth_links events) o)) there ∙ at_places events (auth_events_of stored.event.event)))
      ∙ sym (ap (check_stored events state place) there)

  pub check-laid : (r : Result ⊤ Rule) → r ≡ verdict → is_ok r ≡ true → with_stored state stored ≡ check events state place
  check-laid r e h = by r h ∙ ap (laid_over state stored) e ∙ check-is
    where
      by : (r : Result ⊤ Rule) → is_ok r ≡ true → with_stored state stored ≡ laid_over state stored r
      by (Ok done) h = refl
      by (Err rule) h = absurd (true≢false (sym h))

  pub check-left : (r : Result ⊤ Rule) → r ≡ verdict → is_ok r ≡ false → state ≡ check events state place
  check-left r e h = by r h ∙ ap (laid_over state stored) e ∙ check-is
    where
      by : (r : Result ⊤ Rule) → is_ok r ≡ false → state ≡ laid_over state stored r
      by (Ok done) h = absurd (true≢false h)
      by (Err rule) h = refl
