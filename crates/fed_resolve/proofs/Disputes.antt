-- What states that are kept disagree on, and what they resolve to.
use Rattle.std.proofs.Common.{◌≡◌, ◌++◌, ◌∷◌, [], ◌⊎◌, inl, inr, ℕ, List, Bool, true, false, true≢false, eqb, not, ◌&&◌, ◌||◌, cond, Contains, Option, None, Some, bytes_eq, filter, length, get_or, refl, sym, ap, subst, ◌∙◌, arith}
use Rattle.std.proofs.lemmas.Bool.{not-true, not-false}
use Rattle.std.proofs.lemmas.List.Elements.{Contains-append_cases, Contains-append_left, Contains-append_right, Contains-get_or}
use Rattle.std.proofs.lemmas.List.Folds.{list_all-map}
use Rattle.std.proofs.lemmas.Option.{slice_get_within}
use Rattle.std.specs.Prelude.{option_and_then}
use Rattle.std.specs.FinMap as finite
use Rattle.std.specs.FinMap.{find}
use Rattle.std.specs.List.{AllByRecursion, cons_option, filter_map, list_any, list_all}
use Rattle.std.specs.Option.{option_eq}
use Rattle.std.specs.Ordering.{is_eq, eq_by_cmp}
use Rattle.std.specs.Cmp.{tied_itself}
use Rattle.fed_auth.proofs.AuthStates.{itself, same_bytes}
use Rattle.fed_auth.proofs.Selections.{list_any-map}
use Rattle.fed_room_contract.specs.declared.graph.Stored.{Stored}
use Rattle.fed_room_contract.specs.State.{StateKey, StateMap, key_cmp}
use Rattle.fed_room_contract.specs.Steps.{AreAlikeBut, IsAlikeBut, state_at}
use Rattle.fed_room_contract.proofs.Changes.{all-keys}
use Rattle.fed_room_contract.proofs.Filled.{or, tied}
use Rattle.fed_room_contract.proofs.States.{key_cmp_total, key_cmp_same}
use Rattle.fed_resolve.specs.Chain.{place_of, is_entry_at, is_in_chain, is_in_chains, is_in_full_chain}
use Rattle.fed_resolve.specs.Conflict.{agree_with, unconflicted, is_conflicted, is_full_conflicted}
use Rattle.fed_resolve.specs.ConflictParts.{disputed_beside, has_id_at, has_key, place_of_entry, places_of_state}
use Rattle.fed_resolve.specs.KeptParts.{HasKeysOf, IsWithout, agree_at, at_places, disputed_of, is_conflict_of, is_own_of_some, own_and_common, own_places, place_in}
use Rattle.fed_resolve.specs.ChainParts.{is_marked}
use Rattle.fed_resolve.specs.Laws.{SomeStateHas, IsOfConflict}
use Rattle.fed_resolve.specs.Marks.{AreMarks}
use Rattle.fed_resolve.specs.Order.{is_among}
use Rattle.fed_resolve.specs.Resolution.{checked_state, resolved_of}
use Rattle.fed_resolve.proofs.Agreement.{any-agree, all-agree}
use Rattle.fed_resolve.proofs.Differences.{IsFoundIn, each_found, disputed-state, disputed-beside}
use Rattle.fed_resolve.proofs.Named.{entry-resolved}
use Rattle.fed_resolve.proofs.Origins.{entries-come}
use Rattle.fed_resolve.proofs.ReadySets.{contains-here, contains-later, contains-cases, contains-none}
use Rattle.fed_resolve.proofs.SameStates.{agreed_from, all_from, all_at, any-same, contained, same_option}
use Rattle.fed_resolve.proofs.Unconflicteds.{entry-unconflicted, full-chain, has_more, has_other}

abbrev Entry : Type 0
Entry = StateKey × List ℕ

or-first : (a b : Bool) → a ≡ true → (a || b) ≡ true
or-first a b h = ap (λ x. x || b) h

or-second : (a b : Bool) → b ≡ true → (a || b) ≡ true
or-second true b h = refl
or-second false b h = h

second-true : (a b : Bool) → (a && b) ≡ true → b ≡ true
second-true true b h = h
second-true false b h = absurd (true≢false (sym h))

alike-itself : (key : StateKey) → eq_by_cmp key_cmp key key ≡ true
alike-itself key = ap is_eq (tied_itself key_cmp_total key)

and-then : (f : List ℕ → Option ℕ) (o : Option (List ℕ)) (q : ℕ) → option_and_then f o ≡ Some q → (id : List ℕ) × ((o ≡ Some id) × (f id ≡ Some q))
and-then f None q h = absurd (cc)
and-then f (Some id) q h = (id, (refl, h))

shown-else : (b : Bool) (o : Option ℕ) (q : ℕ) → cond b None o ≡ Some q → (b ≡ false) × (o ≡ Some q)
shown-else true o q h = absurd (cc)
shown-else false o q h = (refl, h)

-- ---- members of lists

module _ {X Y : Type 0} (f : X → Option Y) where
  still : (o : Option Y) (ys : List Y) (y : Y) → Contains ys y → Contains (cons_option o ys) y
  still None ys y c = c
  still (Some x) ys y c = contains-later x ys y c

  in-filter_map : (xs : List X) (x : X) (y : Y) → Contains xs x → f x ≡ Some y → Contains (filter_map f xs) y
  in-filter_map [] x y there e = absurd (contains-none x there)
  in-filter_map (z ∷ xs) x y there e = by (contains-cases z xs x there) (λ later. in-filter_map xs x y later e)
    where
      by : (z ≡ x) ⊎ Contains xs x → (Contains xs x → Contains (filter_map f xs) y) → Contains (cons_option (f z) (filter_map f xs)) y
      by (inl same) rest = subst (λ (o : Option Y). Contains (cons_option o (filter_map f xs)) y) (sym (ap f same ∙ e)) (contains-here y (filter_map f xs))
      by (inr later) rest = still (f z) (filter_map f xs) y (rest later)

  from-filter_map : (xs : List X) (y : Y) → Contains (filter_map f xs) y → (x : X) × (Contains xs x × (f x ≡ Some y))
  from-filter_map [] y there = absurd (contains-none y there)
  from-filter_map (z ∷ xs) y there = by (f z) refl (from-filter_map xs y) there
    where
      by : (o : Option Y) → f z ≡ o → (Contains (filter_map f xs) y → (x : X) × (Contains xs x × (f x ≡ Some y))) → Contains (cons_option o (filter_map f xs)) y → (x : X) × (Contains (z ∷ xs) x × (f x ≡ Some y))
      by None e rest c = let found = rest c in (found.0, (contains-later z xs found.0 found.1.0, found.1.1))
      by (Some w) e rest c = elim (contains-cases w (filter_map f xs) y c) as (λ _. (x : X) × (Contains (z ∷ xs) x × (f x ≡ Some y))) [
        | inl same ↦ (z, (contains-here z xs, e ∙ ap Some same))
        | inr later ↦ let found = rest later in (found.0, (contains-later z xs found.0 found.1.0, found.1.1))
      ]

by-recursion : {X : Type 0} (P : X → Type 0) (xs : List X) → AllByRecursion P xs → (x : X) → Contains xs x → P x
by-recursion P [] all x there = absurd (contains-none x there)
by-recursion P (y ∷ xs) all x there = by (contains-cases y xs x there) (by-recursion P xs all.1 x)
  where
    by : (y ≡ x) ⊎ Contains xs x → (Contains xs x → P x) → P x
    by (inl same) rest = subst P same all.0
    by (inr later) rest = rest later

-- ---- the entries of a state

found-there : (es : List Entry) (key : StateKey) (id : List ℕ) → find key_cmp key es ≡ Some id → Contains es (key, id)
found-there [] key id h = absurd (cc)
found-there (e ∷ es) key id h = by (eq_by_cmp key_cmp key e.0) refl (found-there es key id) h
  where
    by : (b : Bool) → eq_by_cmp key_cmp key e.0 ≡ b → (find key_cmp key es ≡ Some id → Contains es (key, id)) → cond b (Some e.1) (find key_cmp key es) ≡ Some id → Contains (e ∷ es) (key, id)
    by true t rest g =
        let one : e.0 ≡ key = sym (key_cmp_same key e.0 (tied _ t)) in
        let two : e.1 ≡ id = cc in
        (0, omega arith, λ i. (one i, two i))
    by false t rest g = contains-later e es (key, id) (rest g)

entry-there : (s : StateMap) (key : StateKey) (id : List ℕ) → finite.get s key ≡ Some id → Contains (finite.entries s) (key, id)
entry-there s key id h = found-there (finite.entries s) key id (sym (finite.get-entries s key) ∙ h)

entry-is : (s : StateMap) (e : Entry) → Contains (finite.entries s) e → finite.get s e.0 ≡ Some e.1
entry-is s e there = finite.get-entries s e.0 ∙ by-recursion (IsFoundIn (finite.entries s)) (finite.entries s) (each_found (finite.entries s) (finite.entries_sorted s)) e there

-- the places of the events of a state
place-there : (events : List Stored) (s : StateMap) (key : StateKey) (id : List ℕ) (q : ℕ) → finite.get s key ≡ Some id → place_of events id ≡ Some q → Contains (places_of_state events s) q
place-there events s key id q h e = in-filter_map (place_of_entry events) (finite.entries s) (key, id) q (entry-there s key id h) e

-- ---- keys

key-of : (es : List Entry) (key : StateKey) → has_key es key ≡ true → (e : Entry) × (Contains es e × (e.0 ≡ key))
key-of es key h =
    let found = contained (λ e. eq_by_cmp key_cmp key e.0) es h in
    (found.0, (found.1.0, sym (key_cmp_same key found.0.0 (tied _ found.1.1))))

own-key : (es : List Entry) (e : Entry) → Contains es e → has_key es e.0 ≡ true
own-key [] e there = absurd (contains-none e there)
own-key (x ∷ es) e there = by (contains-cases x es e there) (own-key es e)
  where
    by : (x ≡ e) ⊎ Contains es e → (Contains es e → has_key es e.0 ≡ true) → has_key (x ∷ es) e.0 ≡ true
    by (inl same) rest = or-first (eq_by_cmp key_cmp e.0 x.0) (has_key es e.0) (ap (λ (y : Entry). eq_by_cmp key_cmp e.0 y.0) same ∙ alike-itself e.0)
    by (inr later) rest = or-second (eq_by_cmp key_cmp e.0 x.0) (has_key es e.0) (rest later)

has-filtered : (p : StateKey → Bool) (es : List Entry) (key : StateKey) → has_key (filter (λ e. p e.0) es) key ≡ (has_key es key && p key)
has-filtered p [] key = refl
has-filtered p (e ∷ es) key = by (p e.0) refl (eq_by_cmp key_cmp key e.0) refl (has-filtered p es key)
  where
    none : (b : Bool) → (b && false) ≡ false
    none true = refl
    none false = refl

    by : (a : Bool) → p e.0 ≡ a → (b : Bool) → eq_by_cmp key_cmp key e.0 ≡ b → has_key (filter (λ e. p e.0) es) key ≡ (has_key es key && p key)
        → has_key (cond a (e ∷ filter (λ e. p e.0) es) (filter (λ e. p e.0) es)) key ≡ ((b || has_key es key) && p key)
    by true f true t rest =
        let same : p key ≡ true = ap p (key_cmp_same key e.0 (tied _ t)) ∙ f in
        ap (λ b. b || has_key (filter (λ e. p e.0) es) key) t ∙ sym same
    by true f false t rest = ap (λ b. b || has_key (filter (λ e. p e.0) es) key) t ∙ rest
    by false f true t rest =
        let same : p key ≡ false = ap p (key_cmp_same key e.0 (tied _ t)) ∙ f in
        rest ∙ ap (λ b. has_key es key && b) same ∙ none (has_key es key) ∙ sym same
    by false f false t rest = rest

-- one entry more is taken away
pub without-more : (whole left : StateMap) (es : List Entry) (e : Entry) → IsWithout whole es left → IsWithout whole (es ++ e ∷ []) (finite.remove left e.0)
without-more whole left es e is = record { each = λ key. finite.get-remove key_cmp_total left e.0 key ∙ by key (eq_by_cmp key_cmp key e.0) refl }
  where
    by : (key : StateKey) (b : Bool) → eq_by_cmp key_cmp key e.0 ≡ b → cond b None (finite.get left key) ≡ cond (has_key (es ++ e ∷ []) key) None (finite.get whole key)
    by key true t = ap (λ b. cond b None (finite.get whole key)) (sym (has_more es e key t))
    by key false t = is.each key ∙ ap (λ b. cond b None (finite.get whole key)) (has_other es e key t)

same-option : (o p : Option (List ℕ)) → option_eq bytes_eq o p ≡ true → o ≡ p
same-option None None h = refl
same-option None (Some x) h = absurd (true≢false (sym h))
same-option (Some x) None h = absurd (true≢false (sym h))
same-option (Some x) (Some y) h = ap Some (same_bytes x y h)

equal-option : (o p : Option (List ℕ)) → o ≡ p → option_eq bytes_eq o p ≡ true
equal-option o p h = ap (λ x. option_eq bytes_eq x p) h ∙ by p
  where
    by : (p : Option (List ℕ)) → option_eq bytes_eq p p ≡ true
    by None = refl
    by (Some x) = itself x

-- what all of them have alike, the others have as the first
pub first-alike : (after : List StateMap) (first : ℕ) (others : List ℕ) (keys : StateMap) → AreAlikeBut keys after (first ∷ others)
    → (key : StateKey) → finite.contains_key keys key ≡ false → (p : ℕ) → Contains others p → finite.get (state_at after p) key ≡ finite.get (state_at after first) key
first-alike after first others keys alike key missing p there = alike first p (contains-here first others) (contains-later first others p there) key missing

-- ---- where states disagree

module _ (after : List StateMap) (s0 : StateMap) (others : List ℕ) (keys agreed : StateMap)
    (alike : (key : StateKey) → finite.contains_key keys key ≡ false → (p : ℕ) → Contains others p → finite.get (state_at after p) key ≡ finite.get s0 key)
    (without : IsWithout s0 (disputed_of after s0 others (finite.entries keys)) agreed) where
  abbrev es : List Entry
  es = disputed_of after s0 others (finite.entries keys)

  abbrev states : List StateMap
  states = s0 ∷ at_places after others

  agree-is : (key : StateKey) → agree_with s0 (at_places after others) key ≡ agree_at after s0 others key
  agree-is key = list_all-map (λ other. option_eq bytes_eq (finite.get other key) (finite.get s0 key)) (state_at after) others

  disputed-is : (key : StateKey) → has_key es key ≡ (finite.contains_key keys key && not (agree_at after s0 others key))
  disputed-is key = has-filtered (λ k. not (agree_at after s0 others k)) (finite.entries keys) key ∙ ap (λ b. b && not (agree_at after s0 others key)) (all-keys keys key)

  -- at a key that is not disputed all have what the first has
  undisputed : (key : StateKey) → has_key es key ≡ false → (p : ℕ) → Contains others p → finite.get (state_at after p) key ≡ finite.get s0 key
  undisputed key h p there = by (finite.contains_key keys key) refl (sym (disputed-is key) ∙ h)
    where
      by : (b : Bool) → finite.contains_key keys key ≡ b → (b && not (agree_at after s0 others key)) ≡ false → finite.get (state_at after p) key ≡ finite.get s0 key
      by false t g = alike key t p there
      by true t g =
          same-option (finite.get (state_at after p) key) (finite.get s0 key)
          (all_at (λ place. option_eq bytes_eq (finite.get (state_at after place) key) (finite.get s0 key)) others p (not-false (agree_at after s0 others key) g) there)

  pub agreed-is : agreed ≡ unconflicted states
  agreed-is = finite.same_map key_cmp_total key_cmp_same agreed (unconflicted states) (λ key. without.each key ∙ by key (has_key es key) refl ∙ sym (entry-unconflicted s0 (at_places after others) key))
    where
      by : (key : StateKey) (b : Bool) → has_key es key ≡ b → cond b None (finite.get s0 key) ≡ cond (agree_with s0 (at_places after others) key) (finite.get s0 key) None
      by key true t =
          let gone : agree_at after s0 others key ≡ false = not-true (agree_at after s0 others key) (second-true (finite.contains_key keys key) (not (agree_at after s0 others key)) (sym (disputed-is key) ∙ t)) in
          ap (λ b. cond b (finite.get s0 key) None) (sym (agree-is key ∙ gone))
      by key false t =
          let yes : agree_at after s0 others key ≡ true =
          all_from (λ place. option_eq bytes_eq (finite.get (state_at after place) key) (finite.get s0 key)) others
          (λ p there. equal-option (finite.get (state_at after p) key) (finite.get s0 key) (undisputed key t p there)) in
          ap (λ b. cond b (finite.get s0 key) None) (sym (agree-is key ∙ yes))

  -- one of the states
  module _ (events : List Stored) (s : StateMap) (mine : (key : StateKey) → has_key es key ≡ false → finite.get s key ≡ finite.get s0 key) where
    agreed-here : (key : StateKey) (id : List ℕ) → has_key es key ≡ false → finite.get s key ≡ Some id → finite.get agreed key ≡ Some id
    agreed-here key id h e = without.each key ∙ ap (λ b. cond b None (finite.get s0 key)) h ∙ sym (mine key h) ∙ e

    agreed-none : (key : StateKey) → has_key es key ≡ true → finite.get agreed key ≡ None
    agreed-none key h = without.each key ∙ ap (λ b. cond b None (finite.get s0 key)) h

    own-from : (q : ℕ) → Contains (own_places events es s) q → (key : StateKey) × ((id : List ℕ) × ((has_key es key ≡ true) × ((finite.get s key ≡ Some id) × (place_of events id ≡ Some q))))
    own-from q c =
        let found = from-filter_map (place_in events s) es q c in
        let parts = and-then (place_of events) (finite.get s found.0.0) q found.1.1 in
        (found.0.0, (parts.0, (own-key es found.0 found.1.0, parts.1)))

    own-there : (key : StateKey) (id : List ℕ) (q : ℕ) → has_key es key ≡ true → finite.get s key ≡ Some id → place_of events id ≡ Some q → Contains (own_places events es s) q
    own-there key id q h e p =
        let one = key-of es key h in
        in-filter_map (place_in events s) es one.0 q one.1.0 (ap (λ k. option_and_then (place_of events) (finite.get s k)) one.1.1 ∙ ap (option_and_then (place_of events)) e ∙ p)

    -- the events that it has where not all agree
    own-conflict : (q : ℕ) → is_among (own_places events es s) q ≡ is_among (filter_map (disputed_beside events agreed) (finite.entries s)) q
    own-conflict q = any-same (own_places events es s) (filter_map (disputed_beside events agreed) (finite.entries s)) there back (λ p. eqb p q)
      where
        there : (p : ℕ) → Contains (own_places events es s) p → Contains (filter_map (disputed_beside events agreed) (finite.entries s)) p
        there p c =
            let found = own-from p c in
            let key = found.0 in
            let id = found.1.0 in
            let gone : has_id_at key.0 key.1 id agreed ≡ false = ap (λ o. option_eq bytes_eq o (Some id)) (agreed-none key found.1.1.0) in
            in-filter_map (disputed_beside events agreed) (finite.entries s) (key, id) p (entry-there s key id found.1.1.1.0) (ap (λ b. cond b None (place_of events id)) gone ∙ found.1.1.1.1)

        back : (p : ℕ) → Contains (filter_map (disputed_beside events agreed) (finite.entries s)) p → Contains (own_places events es s) p
        back p c =
            let found = from-filter_map (disputed_beside events agreed) (finite.entries s) p c in
            let e = found.0 in
            let here = entry-is s e found.1.0 in
            let parts = shown-else (has_id_at e.0.0 e.0.1 e.1 agreed) (place_of events e.1) p found.1.1 in
            by e (has_key es e.0) refl here parts.0 parts.1
          where
            by : (e : Entry) (b : Bool) → has_key es e.0 ≡ b → finite.get s e.0 ≡ Some e.1 → has_id_at e.0.0 e.0.1 e.1 agreed ≡ false → place_of events e.1 ≡ Some p → Contains (own_places events es s) p
            by e true t here gone place = own-there e.0 e.1 p t here place
            by e false t here gone place = absurd (true≢false (sym (ap (λ o. option_eq bytes_eq o (Some e.1)) (agreed-here e.0 e.1 t here) ∙ itself e.1) ∙ gone))

    -- its full auth chain
    own-chain : (q : ℕ) → is_in_chains events (own_places events es s ++ places_of_state events agreed) q ≡ is_in_full_chain events s q
    own-chain q =
        any-same (own_places events es s ++ places_of_state events agreed) (places_of_state events s) there back (λ p. is_in_chain events p q)
        ∙ full-chain events s q (places_of_state events s) (finite.entries s) refl refl
      where
        there : (p : ℕ) → Contains (own_places events es s ++ places_of_state events agreed) p → Contains (places_of_state events s) p
        there p c = elim (Contains-append_cases (own_places events es s) (places_of_state events agreed) p c) as (λ _. Contains (places_of_state events s) p) [
          | inl own ↦ let found = own-from p own in place-there events s found.0 found.1.0 p found.1.1.1.0 found.1.1.1.1
          | inr common ↦
              let found = from-filter_map (place_of_entry events) (finite.entries agreed) p common in
              let here = entry-is agreed found.0 found.1.0 in
              agreed-place found.0 (has_key es found.0.0) refl here found.1.1
        ]
          where
            agreed-place : (e : Entry) (b : Bool) → has_key es e.0 ≡ b → finite.get agreed e.0 ≡ Some e.1 → place_of events e.1 ≡ Some p → Contains (places_of_state events s) p
            agreed-place e true t here place = absurd (let none = agreed-none e.0 t in cc)
            agreed-place e false t here place =
                place-there events s e.0 e.1 p (mine e.0 t ∙ sym (without.each e.0 ∙ ap (λ b. cond b None (finite.get s0 e.0)) t) ∙ here) place

        back : (p : ℕ) → Contains (places_of_state events s) p → Contains (own_places events es s ++ places_of_state events agreed) p
        back p c =
            let found = from-filter_map (place_of_entry events) (finite.entries s) p c in
            by found.0 (has_key es found.0.0) refl (entry-is s found.0 found.1.0) found.1.1
          where
            by : (e : Entry) (b : Bool) → has_key es e.0 ≡ b → finite.get s e.0 ≡ Some e.1 → place_of events e.1 ≡ Some p → Contains (own_places events es s ++ places_of_state events agreed) p
            by e true t here place = Contains-append_left (own_places events es s) (places_of_state events agreed) p (own-there e.0 e.1 p t here place)
            by e false t here place = Contains-append_right (own_places events es s) (places_of_state events agreed) p (place-there events agreed e.0 e.1 p (agreed-here e.0 e.1 t here) place)

  -- all the states
  module _ (events : List Stored) (first : ℕ) (here : s0 ≡ state_at after first) where
    abbrev all : List ℕ
    all = first ∷ others

    mine : (p : ℕ) → Contains all p → (key : StateKey) → has_key es key ≡ false → finite.get (state_at after p) key ≡ finite.get s0 key
    mine p there key h = elim (contains-cases first others p there) as (λ _. finite.get (state_at after p) key ≡ finite.get s0 key) [
      | inl same ↦ ap (λ x. finite.get (state_at after x) key) (sym same) ∙ ap (λ (s : StateMap). finite.get s key) (sym here)
      | inr later ↦ undisputed key h p later
    ]

    abbrev has_disputed : ℕ → StateMap → Bool
    has_disputed q s = list_any (λ (e : Entry). not (agree_with s states e.0) && is_entry_at events q e.1) (finite.entries s)

    one-conflict : (q p : ℕ) → Contains all p → is_among (own_places events es (state_at after p)) q ≡ has_disputed q (state_at after p)
    one-conflict q p there =
        let s : StateMap = state_at after p in
        own-conflict events s (mine p there) q
        ∙ ap (λ f. is_among (filter_map f (finite.entries s)) q) (ap (disputed_beside events) agreed-is ∙ disputed-beside events states (omega arith))
        ∙ disputed-state events states s q

    states-are : at_places after all ≡ states
    states-are = λ i. sym here i ∷ at_places after others

    conflict-of : (q : ℕ) → is_own_of_some events after es all q ≡ is_conflicted events states q
    conflict-of q =
        any-agree (λ p. is_among (own_places events es (state_at after p)) q) (λ p. has_disputed q (state_at after p)) all (λ k d less. one-conflict q (get_or all k d) (Contains-get_or all k d less))
        ∙ sym (list_any-map (has_disputed q) (state_at after) all) ∙ ap (list_any (has_disputed q)) states-are

    one-chain : (q p : ℕ) → Contains all p → is_in_chains events (own_and_common events after es (places_of_state events agreed) p) q ≡ is_in_full_chain events (state_at after p) q
    one-chain q p there = own-chain events (state_at after p) (mine p there) q

    some-of : (q : ℕ) → list_any (λ p. is_in_chains events (own_and_common events after es (places_of_state events agreed) p) q) all ≡ list_any (λ s. is_in_full_chain events s q) states
    some-of q =
        any-agree (λ p. is_in_chains events (own_and_common events after es (places_of_state events agreed) p) q) (λ p. is_in_full_chain events (state_at after p) q) all
        (λ k d less. one-chain q (get_or all k d) (Contains-get_or all k d less))
        ∙ sym (list_any-map (λ s. is_in_full_chain events s q) (state_at after) all) ∙ ap (list_any (λ s. is_in_full_chain events s q)) states-are

    every-of : (q : ℕ) → list_all (λ p. is_in_chains events (own_and_common events after es (places_of_state events agreed) p) q) all ≡ list_all (λ s. is_in_full_chain events s q) states
    every-of q =
        all-agree (λ p. is_in_chains events (own_and_common events after es (places_of_state events agreed) p) q) (λ p. is_in_full_chain events (state_at after p) q) all
        (λ k d less. one-chain q (get_or all k d) (Contains-get_or all k d less))
        ∙ sym (list_all-map (λ s. is_in_full_chain events s q) (state_at after) all) ∙ ap (list_all (λ s. is_in_full_chain events s q)) states-are

    -- what they disagree on is their full conflicted set
    pub full-conflict : (q : ℕ) → is_conflict_of events after es (places_of_state events agreed) all q ≡ is_full_conflicted events states q
    full-conflict q = λ i. conflict-of q i || (some-of q i && not (every-of q i))

-- ---- what they resolve to

from-map : (after : List StateMap) (places : List ℕ) (t : StateMap) → Contains (at_places after places) t → (p : ℕ) × (Contains places p × (state_at after p ≡ t))
from-map after [] t there = absurd (contains-none t there)
from-map after (p ∷ places) t there = by (contains-cases (state_at after p) (at_places after places) t there) (from-map after places t)
  where
    by : (state_at after p ≡ t) ⊎ Contains (at_places after places) t → (Contains (at_places after places) t → (x : ℕ) × (Contains places x × (state_at after x ≡ t))) → (x : ℕ) × (Contains (p ∷ places) x × (state_at after x ≡ t))
    by (inl same) rest = (p, (contains-here p places, same))
    by (inr later) rest = let found = rest later in (found.0, (contains-later p places found.0 found.1.0, found.1.1))

-- what is resolved differs from each state at these keys alone
pub resolved-alike : (events : List Stored) (after : List StateMap) (first : ℕ) (others : List ℕ) (before keys resolved : StateMap) (marks : List Bool)
    → AreAlikeBut before after (first ∷ others) → HasKeysOf events marks before keys → AreMarks (length events) (is_full_conflicted events (at_places after (first ∷ others))) marks
    → resolved ≡ resolved_of events (at_places after (first ∷ others)) → (p : ℕ) → Contains (first ∷ others) p → IsAlikeBut keys (state_at after p) resolved
resolved-alike events after first others before keys resolved marks alike grown are same p mine key missing =
    same_option (finite.get resolved key) (finite.get (state_at after p) key)
    (λ id h. from-state id (entries-come events states key id (ap (λ (s : StateMap). finite.get s key) (sym same) ∙ h)))
    (λ id h. ap (λ (s : StateMap). finite.get s key) same ∙ entry-resolved events states key ∙ ap (λ o. or o (finite.get (checked_state events states) key)) (agreed_from (state_at after first) (at_places after others) key id (λ t there. all-have id h t there)))
  where
    states : List StateMap
    states = at_places after (first ∷ others)

    alike-to : (t : StateMap) → Contains states t → finite.get t key ≡ finite.get (state_at after p) key
    alike-to t there =
        let found = from-map after (first ∷ others) t there in
        ap (λ (s : StateMap). finite.get s key) (sym found.1.1) ∙ alike p found.0 mine found.1.0 key (grown.more key missing)

    all-have : (id : List ℕ) → finite.get (state_at after p) key ≡ Some id → (t : StateMap) → Contains states t → finite.get t key ≡ Some id
    all-have id h t there = alike-to t there ∙ h

    from-state : (id : List ℕ) → SomeStateHas states key id ⊎ IsOfConflict events states key id → finite.get (state_at after p) key ≡ Some id
    from-state id (inl some) = sym (alike-to some.1 (some.0, some.2, some.3)) ∙ some.4
    from-state id (inr of) =
        let marked : is_marked marks of.place ≡ true = are.each of.place (slice_get_within events of.place of.stored of.there) ∙ of.conflicted in
        absurd (true≢false (sym (grown.each of.place of.stored key marked of.there of.stands) ∙ missing))
