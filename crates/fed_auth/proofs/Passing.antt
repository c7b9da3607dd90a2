-- What is selected from a state passes the rules on the auth events that speak of types and state keys.
use Rattle.std.proofs.Common.{◌≡◌, ◌≢◌, ℕ, suc, List, [], ◌∷◌, Bool, true, false, true≢false, not, ◌&&◌, ◌||◌, inl, inr, Option, Some, None, is_some, bytes_eq, refl, sym, ◌∙◌, ap, arith}
use Rattle.std.proofs.lemmas.Bool.{and_parts, or_cases, or_parts, or_left, or_right}
use Rattle.std.proofs.lemmas.List.Folds.{Any-from_list_any}
use Rattle.std.specs.List.{list_any, cons_option, AllPairs}
use Rattle.std.specs.Option.{option_eq}
use Rattle.fed_event.specs.Event.{Event}
use Rattle.fed_event.specs.Tests.{holds}
use Rattle.fed_room_contract.specs.declared.graph.Stored.{Stored}
use Rattle.fed_room_contract.specs.State.{StateKey, StateMap, entry_at}
use Rattle.fed_room_contract.specs.Graph.{stored_at}
use Rattle.fed_auth.specs.AuthState.{stored_of, kind_in, state_key_in, are_alike, has_double, stands_at, is_outside_selection, NamesOwnEvents}
use Rattle.fed_auth.specs.Selection.{selector_of, is_key, selection_keys, ids_at, each_once, is_at}
use Rattle.fed_auth.proofs.AuthStates.{same_bytes, itself, same_key}
use Rattle.fed_auth.proofs.Selections.{has, has-each_once, once_each}

held : (id : List ℕ) (o : Option (List ℕ)) → holds (λ x. bytes_eq x id) o ≡ true → o ≡ Some id
held id None h = absurd (true≢false (sym h))
held id (Some x) h = ap Some (same_bytes x id h)

the_some : {X : Type 0} {x y : X} → ◌≡◌ {A = Option X} (Some x) (Some y) → x ≡ y
the_some h = cc

itself_key : (kind key : List ℕ) → is_key kind key (kind, key) ≡ true
itself_key kind key = ap (λ b. b && bytes_eq key key) (itself kind) ∙ itself key

same_parts : (one other : Option (List ℕ)) (key : List ℕ) → one ≡ Some key → option_eq bytes_eq one other ≡ true → other ≡ Some key
same_parts one other key e h = same_key other key (ap (λ o. option_eq bytes_eq o other) (sym e) ∙ h)

alike_parts : (one other : Stored) (key : List ℕ) → state_key_in one ≡ Some key → are_alike one other ≡ true → (kind_in one ≡ kind_in other) × (state_key_in other ≡ Some key)
unfolding are_alike
alike_parts one other key e h =
    let parts = and_parts (is_some (state_key_in one) && bytes_eq (kind_in one) (kind_in other)) (option_eq bytes_eq (state_key_in one) (state_key_in other)) h in
    let kinds = and_parts (is_some (state_key_in one)) (bytes_eq (kind_in one) (kind_in other)) parts.0 in
    (same_bytes (kind_in one) (kind_in other) kinds.1, same_parts (state_key_in one) (state_key_in other) key e parts.1)

parts_of : (kind key : List ℕ) (auth : Stored) → stands_at kind key auth ≡ true → (kind ≡ kind_in auth) × (state_key_in auth ≡ Some key)
unfolding stands_at
parts_of kind key auth h =
    let parts = and_parts (bytes_eq kind (kind_in auth)) (option_eq bytes_eq (Some key) (state_key_in auth)) h in
    (same_bytes kind (kind_in auth) parts.0, same_key (state_key_in auth) key parts.1)

-- an event at its own key, which is among these
record Own (state : StateMap) (keys : List (Option StateKey)) (id : List ℕ) (auth : Stored) : Type 0 where
  key : List ℕ
  at : state_key_in auth ≡ Some key
  entry : entry_at state (kind_in auth) key ≡ Some id
  among : list_any (holds (is_key (kind_in auth) key)) keys ≡ true

module _ (events : List Stored) (state : StateMap) (names : NamesOwnEvents events state) where
  here : (keys : List (Option StateKey)) (id : List ℕ) (auth : Stored) (key : Option StateKey) → stored_at events id ≡ Some auth → is_at state id key ≡ true → Own state (key ∷ keys) id auth
  here keys id auth None stored h = absurd (true≢false (sym h))
  here keys id auth (Some k) stored h =
      let entry = held id (entry_at state k.0 k.1) h in
      let parts = parts_of k.0 k.1 auth (names.each k.0 k.1 id auth entry stored) in
      record {
        key = k.1;
        at = parts.1;
        entry = ap (λ kind. entry_at state kind k.1) (sym parts.0) ∙ entry;
        among = or_left (is_key (kind_in auth) k.1 k) (list_any (holds (is_key (kind_in auth) k.1)) keys) (ap (λ kind. is_key kind k.1 k) (sym parts.0) ∙ itself_key k.0 k.1);
      }

  later : (keys : List (Option StateKey)) (id : List ℕ) (auth : Stored) (key : Option StateKey) → Own state keys id auth → Own state (key ∷ keys) id auth
  later keys id auth key own = record {
    key = own.key;
    at = own.at;
    entry = own.entry;
    among = or_right (holds (is_key (kind_in auth) own.key) key) (list_any (holds (is_key (kind_in auth) own.key)) keys) own.among;
  }

  own : (keys : List (Option StateKey)) (id : List ℕ) (auth : Stored) → stored_at events id ≡ Some auth → list_any (is_at state id) keys ≡ true → Own state keys id auth
  own [] id auth stored h = absurd (true≢false (sym h))
  own (key ∷ keys) id auth stored h =
      elim (or_cases (is_at state id key) (list_any (is_at state id) keys) h) [
        | inl found ↦ here keys id auth key stored found
        | inr found ↦ later keys id auth key (own keys id auth stored found)
      ]

  -- ---- none is outside the selection

  module _ (event : Event) where
    inside_one : (id : List ℕ) (auth : Stored) → Own state (selection_keys (selector_of event)) id auth → is_outside_selection event auth ≡ false
    unfolding is_outside_selection
    inside_one id auth own = ap (λ o. not (holds (λ key. list_any (holds (is_key (kind_in auth) key)) (selection_keys (selector_of event))) o)) own.at ∙ ap not own.among

    inside : (ids : List (List ℕ)) → ((id : List ℕ) → has ids id ≡ true → list_any (is_at state id) (selection_keys (selector_of event)) ≡ true)
        → list_any (is_outside_selection event) (stored_of events ids) ≡ false
    inside [] found = refl
    inside (id ∷ ids) found = by (stored_at events id) refl (inside ids (λ x h. found x (or_right (bytes_eq id x) (has ids x) h)))
      where
        by : (o : Option Stored) → stored_at events id ≡ o → list_any (is_outside_selection event) (stored_of events ids) ≡ false
            → list_any (is_outside_selection event) (cons_option o (stored_of events ids)) ≡ false
        by None e rest = rest
        by (Some auth) e rest =
            ap (λ b. b || list_any (is_outside_selection event) (stored_of events ids))
            (inside_one id auth (own (selection_keys (selector_of event)) id auth e (found id (or_left (bytes_eq id id) (has ids id) (itself id)))))
            ∙ rest

    pub selection_inside : list_any (is_outside_selection event) (stored_of events (each_once (ids_at state (selection_keys (selector_of event))))) ≡ false
    selection_inside = inside _ (λ id h. sym (has-each_once state (selection_keys (selector_of event)) id) ∙ h)

  -- ---- no two are alike

  module _ (keys : List (Option StateKey)) where
    -- two that are alike are one
    one_id : (id x : List ℕ) (auth other : Stored) → Own state keys id auth → Own state keys x other → are_alike auth other ≡ true → id ≡ x
    one_id id x auth other mine theirs alike =
        let parts = alike_parts auth other mine.key mine.at alike in
        the_some (sym mine.entry ∙ ap (λ kind. entry_at state kind mine.key) parts.0 ∙ ap (entry_at state (kind_in other)) (the_some (sym parts.1 ∙ theirs.at)) ∙ theirs.entry)

    unlike : (id : List ℕ) (auth : Stored) → Own state keys id auth → (ids : List (List ℕ)) → ((x : List ℕ) → has ids x ≡ true → list_any (is_at state x) keys ≡ true)
        → has ids id ≡ false → list_any (are_alike auth) (stored_of events ids) ≡ false
    unlike id auth mine [] found new = refl
    unlike id auth mine (x ∷ ids) found new =
        by (stored_at events x) refl (unlike id auth mine ids (λ y h. found y (or_right (bytes_eq x y) (has ids y) h)) (or_parts (bytes_eq x id) (has ids id) new).1)
      where
        apart : (other : Stored) (b : Bool) → stored_at events x ≡ Some other → are_alike auth other ≡ b → b ≡ false
        apart other false e h = refl
        apart other true e h =
            let equal = one_id id x auth other mine (own keys x other e (found x (or_left (bytes_eq x x) (has ids x) (itself x)))) h in
            absurd (true≢false (sym (sym (or_parts (bytes_eq x id) (has ids id) new).0 ∙ ap (bytes_eq x) equal ∙ itself x)))

        by : (o : Option Stored) → stored_at events x ≡ o → list_any (are_alike auth) (stored_of events ids) ≡ false → list_any (are_alike auth) (cons_option o (stored_of events ids)) ≡ false
        by None e rest = rest
        by (Some other) e rest = ap (λ b. b || list_any (are_alike auth) (stored_of events ids)) (apart other (are_alike auth other) e refl) ∙ rest

    new_head : (id : List ℕ) (ids : List (List ℕ)) (b : Bool) → AllPairs ◌≢◌ (id ∷ ids) → has ids id ≡ b → b ≡ false
    new_head id ids false pairs h = refl
    new_head id ids true pairs h =
        let found = Any-from_list_any (λ known. bytes_eq known id) ids h in
        absurd (pairs 0 (suc found.0) found.1 (omega arith) (omega (arith, found.2)) (sym (found.3 ∙ same_bytes found.1 id found.4)))

    tail : (id : List ℕ) (ids : List (List ℕ)) → AllPairs ◌≢◌ (id ∷ ids) → AllPairs ◌≢◌ ids
    tail id ids pairs i j d lt len = pairs (suc i) (suc j) d (omega arith) (omega arith)

    single : (ids : List (List ℕ)) → ((x : List ℕ) → has ids x ≡ true → list_any (is_at state x) keys ≡ true) → AllPairs ◌≢◌ ids → has_double (stored_of events ids) ≡ false
    single [] found pairs = refl
    single (id ∷ ids) found pairs = by (stored_at events id) refl (single ids rest (tail id ids pairs))
      where
        rest : (x : List ℕ) → has ids x ≡ true → list_any (is_at state x) keys ≡ true
        rest x h = found x (or_right (bytes_eq id x) (has ids x) h)

        by : (o : Option Stored) → stored_at events id ≡ o → has_double (stored_of events ids) ≡ false → has_double (cons_option o (stored_of events ids)) ≡ false
        by None e others = others
        by (Some auth) e others =
            ap (λ b. b || has_double (stored_of events ids))
            (unlike id auth (own keys id auth e (found id (or_left (bytes_eq id id) (has ids id) (itself id)))) ids rest (new_head id ids (has ids id) pairs refl))
            ∙ others

    pub selection_single : has_double (stored_of events (each_once (ids_at state keys))) ≡ false
    selection_single = single _ (λ id h. sym (has-each_once state keys id) ∙ h) (once_each state keys)
