-- The ids of a selection: made one by one, found in the state, and in order.
use Rattle.std.proofs.Common.{◌≡◌, ◌≢◌, ℕ, ◌+◌, ◌<◌, List, [], ◌∷◌, ◌++◌, map, Bool, true, false, not, ◌&&◌, ◌||◌, cond, Option, Some, None, bytes_eq, refl, sym, ◌∙◌, ap, arith, append_assoc}
use Rattle.std.proofs.lemmas.Bool.{not-true}
use Rattle.std.proofs.lemmas.Slice.Eq.{bytes_eq-Decides}
use Rattle.std.proofs.lemmas.List.Elements.{filter_agree, filter_passes, All-weaker}
use Rattle.std.proofs.lemmas.List.Folds.{list_any-append}
use Rattle.std.proofs.lemmas.List.Kept.{AllPairs-cons, AllPairs-filter}
use Rattle.std.specs.List.{list_any, filter, cons_option, position_or_len, slice_index_or, All, AllPairs}
use Rattle.fed_event.specs.Tests.{holds}
use Rattle.fed_room_contract.specs.State.{StateKey, StateMap}
use Rattle.fed_auth.specs.Selection.{with_id, entry_of, ids_at, each_once, is_at}

same : (xs ys : List ℕ) → bytes_eq xs ys ≡ true → xs ≡ ys
same xs ys h = (bytes_eq-Decides xs ys).0 h

itself : (xs : List ℕ) → bytes_eq xs xs ≡ true
itself xs = (bytes_eq-Decides xs xs).1 refl

abbrev pub has : List (List ℕ) → List ℕ → Bool
has ids id = list_any (λ known. bytes_eq known id) ids

-- those that a list lacks
abbrev pub lacking : List (List ℕ) → List (List ℕ) → List (List ℕ)
lacking ids more = filter (λ id. not (has ids id)) more

pub list_any-map : {X Y : Type 0} (p : Y → Bool) (f : X → Y) (xs : List X) → list_any p (map f xs) ≡ list_any (λ x. p (f x)) xs
list_any-map p f [] = refl
list_any-map p f (x ∷ xs) = ap (λ b. p (f x) || b) (list_any-map p f xs)

-- ---- made one by one

filter_twice : {X : Type 0} (p q : X → Bool) (xs : List X) → filter p (filter q xs) ≡ filter (λ x. q x && p x) xs
filter_twice p q [] = refl
filter_twice p q (x ∷ xs) =
    elim (q x) as (λ b. filter p (cond b (x ∷ filter q xs) (filter q xs)) ≡ cond (b && p x) (x ∷ filter (λ y. q y && p y) xs) (filter (λ y. q y && p y) xs))
    [ true ↦ ap (λ ys. cond (p x) (x ∷ ys) ys) (filter_twice p q xs) | false ↦ filter_twice p q xs ]

pub lacking_none : (ids : List (List ℕ)) → lacking [] ids ≡ ids
lacking_none [] = refl
lacking_none (id ∷ ids) = ap (λ more. id ∷ more) (lacking_none ids)

module _ (ids : List (List ℕ)) (id : List ℕ) where
  among : (x : List ℕ) (b : Bool) → has ids id ≡ true → bytes_eq id x ≡ b → (not b && not (has ids x)) ≡ not (has ids x)
  among x true there equal = ap not (sym (ap (has ids) (sym (same id x equal)) ∙ there))
  among x false there equal = refl

  one_more : (a b : Bool) → (not b && not a) ≡ not (a || (b || false))
  one_more true true = refl
  one_more true false = refl
  one_more false true = refl
  one_more false false = refl

  -- the next id is there already
  pub once-known : (more : List (List ℕ)) → has ids id ≡ true → lacking ids (each_once (id ∷ more)) ≡ lacking ids (each_once more)
  once-known more there =
      ap (λ b. cond (not b) (id ∷ lacking ids (filter (λ other. not (bytes_eq id other)) (each_once more))) (lacking ids (filter (λ other. not (bytes_eq id other)) (each_once more)))) there
      ∙ filter_twice (λ x. not (has ids x)) (λ other. not (bytes_eq id other)) (each_once more)
      ∙ filter_agree _ _ (λ x. among x (bytes_eq id x) there refl) (each_once more)

  -- it is new
  pub once-new : (more : List (List ℕ)) → has ids id ≡ false → lacking ids (each_once (id ∷ more)) ≡ id ∷ lacking (ids ++ id ∷ []) (each_once more)
  once-new more new =
      ap (λ b. cond (not b) (id ∷ lacking ids (filter (λ other. not (bytes_eq id other)) (each_once more))) (lacking ids (filter (λ other. not (bytes_eq id other)) (each_once more)))) new
      ∙ ap (λ ys. id ∷ ys) (filter_twice (λ x. not (has ids x)) (λ other. not (bytes_eq id other)) (each_once more)
      ∙ filter_agree _ _ (λ x. one_more (has ids x) (bytes_eq id x) ∙ ap not (sym (list_any-append (λ known. bytes_eq known x) ids (id ∷ [])))) (each_once more))

  -- it is added where it is new
  once : (b : Bool) (more : List (List ℕ)) → has ids id ≡ b
      → ids ++ lacking ids (each_once (id ∷ more)) ≡ cond b ids (ids ++ id ∷ []) ++ lacking (cond b ids (ids ++ id ∷ [])) (each_once more)
  once true more there = ap (λ ys. ids ++ ys) (once-known more there)
  once false more new = ap (λ ys. ids ++ ys) (once-new more new) ∙ sym (append_assoc ids (id ∷ []) (lacking (ids ++ id ∷ []) (each_once more)))

-- the ids so far and those left, before and after one more is looked at
pub once-with_id : (ids more : List (List ℕ)) (o : Option (List ℕ)) → ids ++ lacking ids (each_once (cons_option o more)) ≡ with_id ids o ++ lacking (with_id ids o) (each_once more)
unfolding with_id
once-with_id ids more None = refl
once-with_id ids more (Some id) = once ids id (has ids id) more refl

-- ---- found in the state

-- the others than id, among which another is sought
has-others : (id x : List ℕ) (ids : List (List ℕ)) → bytes_eq id x ≡ false → has (filter (λ other. not (bytes_eq id other)) ids) x ≡ has ids x
has-others id x [] apart = refl
has-others id x (y ∷ ids) apart = by (bytes_eq id y) refl (has-others id x ids apart)
  where
    by : (b : Bool) → bytes_eq id y ≡ b → has (filter (λ other. not (bytes_eq id other)) ids) x ≡ has ids x
        → has (cond (not b) (y ∷ filter (λ other. not (bytes_eq id other)) ids) (filter (λ other. not (bytes_eq id other)) ids)) x ≡ (bytes_eq y x || has ids x)
    by true equal rest = rest ∙ ap (λ b. b || has ids x) (sym (ap (λ z. bytes_eq z x) (sym (same id y equal)) ∙ apart))
    by false differ rest = ap (λ b. bytes_eq y x || b) rest

has-once : (id x : List ℕ) (ids : List (List ℕ)) (b : Bool) → bytes_eq id x ≡ b → (b || has (filter (λ other. not (bytes_eq id other)) ids) x) ≡ (b || has ids x)
has-once id x ids true equal = refl
has-once id x ids false apart = has-others id x ids apart

module _ (state : StateMap) where
  pub has-each_once : (keys : List (Option StateKey)) (id : List ℕ) → has (each_once (ids_at state keys)) id ≡ list_any (is_at state id) keys
  has-each_once [] id = refl
  has-each_once (key ∷ keys) id =
      elim (entry_of state key) as (λ o. has (each_once (cons_option o (ids_at state keys))) id ≡ (holds (λ held. bytes_eq held id) o || list_any (is_at state id) keys)) [
        | None ↦ has-each_once keys id
        | Some held ↦ has-once held id (each_once (ids_at state keys)) (bytes_eq held id) refl ∙ ap (λ b. bytes_eq held id || b) (has-each_once keys id)
      ]

  -- ---- in order

  abbrev pub place : List (Option StateKey) → List ℕ → ℕ
  place keys id = position_or_len (is_at state id) keys

  -- what has a place in the rest of the keys has the next one in all, where the first key has another id or none
  place-next : (key : Option StateKey) (keys : List (Option StateKey)) (id : List ℕ) → is_at state id key ≡ false → place (key ∷ keys) id ≡ 1 + place keys id
  place-next key keys id other = ap (λ b. cond (not b) (1 + place keys id) 0) other

  place-here : (key : Option StateKey) (keys : List (Option StateKey)) (id : List ℕ) → is_at state id key ≡ true → place (key ∷ keys) id ≡ 0
  place-here key keys id here = ap (λ b. cond (not b) (1 + place keys id) 0) here

  later : (a b c d : ℕ) → a ≡ 1 + c → b ≡ 1 + d → c < d → a < b
  later a b c d e f h = omega arith

  behind : (a b c : ℕ) → a ≡ 0 → b ≡ 1 + c → a < b
  behind a b c e f = omega arith

  -- in the order of the rest is in the order of all, of ids that the first key does not have
  moved : (key : Option StateKey) (keys : List (Option StateKey)) (ids : List (List ℕ)) → All (λ id. is_at state id key ≡ false) ids
      → AllPairs (λ one other. place keys one < place keys other) ids → AllPairs (λ one other. place (key ∷ keys) one < place (key ∷ keys) other) ids
  moved key keys ids others ordered i j d lt len =
      later _ _ _ _ (place-next key keys _ (others i d (omega arith))) (place-next key keys _ (others j d len)) (ordered i j d lt len)

  apart : (id : List ℕ) (ids : List (List ℕ)) → All (λ other. bytes_eq id other ≡ false) (filter (λ other. not (bytes_eq id other)) ids)
  apart id ids = All-weaker _ _ (λ x. not-true (bytes_eq id x)) _ (filter_passes (λ other. not (bytes_eq id other)) ids)

  module _ (key : Option StateKey) (keys : List (Option StateKey)) (ordered : AllPairs (λ one other. place keys one < place keys other) (each_once (ids_at state keys))) where
    in_order-none : entry_of state key ≡ None → AllPairs (λ one other. place (key ∷ keys) one < place (key ∷ keys) other) (each_once (ids_at state keys))
    in_order-none none = moved key keys (each_once (ids_at state keys)) (λ k d len. ap (holds (λ held. bytes_eq held (slice_index_or (each_once (ids_at state keys)) k d))) none) ordered

    in_order-some : (id : List ℕ) → entry_of state key ≡ Some id
        → AllPairs (λ one other. place (key ∷ keys) one < place (key ∷ keys) other) (id ∷ filter (λ other. not (bytes_eq id other)) (each_once (ids_at state keys)))
    in_order-some id some =
        let ids = each_once (ids_at state keys) in
        let others = filter (λ other. not (bytes_eq id other)) ids in
        let elsewhere : All (λ other. is_at state other key ≡ false) others =
        All-weaker (λ other. bytes_eq id other ≡ false) (λ other. is_at state other key ≡ false) (λ other h. ap (holds (λ held. bytes_eq held other)) some ∙ h) others (apart id ids) in
        AllPairs-cons (λ one other. place (key ∷ keys) one < place (key ∷ keys) other) id others
        (λ k d len. behind _ _ _ (place-here key keys id (ap (holds (λ held. bytes_eq held id)) some ∙ itself id)) (place-next key keys (slice_index_or others k d) (elsewhere k d len)))
        (moved key keys others elsewhere (AllPairs-filter (λ one other. place keys one < place keys other) (λ other. not (bytes_eq id other)) ids ordered))

    in_order-by : (o : Option (List ℕ)) → entry_of state key ≡ o → AllPairs (λ one other. place (key ∷ keys) one < place (key ∷ keys) other) (each_once (cons_option o (ids_at state keys)))
    in_order-by None none = in_order-none none
    in_order-by (Some id) some = in_order-some id some

  pub in_order : (keys : List (Option StateKey)) → AllPairs (λ one other. place keys one < place keys other) (each_once (ids_at state keys))
  in_order [] = λ i j d lt len. absurd (omega arith)
  in_order (key ∷ keys) = in_order-by key keys (in_order keys) (entry_of state key) refl

  pub once_each : (keys : List (Option StateKey)) → AllPairs ◌≢◌ (each_once (ids_at state keys))
  once_each keys i j d lt len same_id = let before = in_order keys i j d lt len in let equal = ap (place keys) same_id in absurd (omega arith)
