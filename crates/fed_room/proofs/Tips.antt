-- Ids in the order of their depth, and ids of stored events.
use Rattle.std.proofs.Common.{◌≡◌, ◌≤◌, ℕ, zero, suc, ◌+◌, length, nat_lt, List, [], ◌∷◌, ◌++◌, append_assoc, map, filter, take, Bool, true, false, ◌&&◌, not, cond, true≢false, if◌then◌else◌, Option, None, Some, refl, sym, ap, ◌∙◌, arith}
use Rattle.std.proofs.lemmas.Bool.{ltb-false}
use Rattle.std.specs.List.{insert, position, list_all, cons_option, position_or_len}
use Rattle.std.specs.Ordering.{is_lt}
use Rattle.std.specs.Str.{bytes_eq}
use Rattle.fed_room_contract.specs.declared.graph.Stored.{Stored}
use Rattle.fed_room_contract.specs.State.{StateKey, StateMap}
use Rattle.fed_room_contract.specs.Graph.{id_of, is_stored}
use Rattle.fed_room_contract.specs.Lawful.{NamesStored}
use Rattle.fed_room_contract.specs.Room.{extremities_of}
use Rattle.fed_auth.specs.Selection.{SelectorFields, entry_of, ids_at, each_once, selection_keys, selection_of}
use Rattle.fed_room.specs.Links.{tip_cmp, with_tip, by_depth, prev_events_for}
use Rattle.fed_room.specs.RoomLawful.{in_middle}

-- ---- one more id

pub tip-inserted : (events : List Stored) (id : List ℕ) (ids : List (List ℕ)) → with_tip events id ids ≡ insert ids (position_or_len (λ other. not (is_lt (tip_cmp events other id))) ids) id
tip-inserted events id [] = refl
tip-inserted events id (x ∷ ids) = by (is_lt (tip_cmp events x id)) (tip-inserted events id ids)
  where
    place : ℕ
    place = position_or_len (λ other. not (is_lt (tip_cmp events other id))) ids

    one : 1 + place ≡ suc place
    one = omega arith

    by : (b : Bool) → with_tip events id ids ≡ insert ids place id → (if b then x ∷ with_tip events id ids else id ∷ x ∷ ids) ≡ insert (x ∷ ids) (cond (not (not b)) (1 + place) 0) id
    by true rest = ap (λ xs. x ∷ xs) rest ∙ ap (λ k. insert (x ∷ ids) k id) (sym one)
    by false rest = refl

take_fewer : {X : Type 0} (m : ℕ) (xs : List X) → take m (take (suc m) xs) ≡ take m xs
take_fewer zero xs = refl
take_fewer (suc m) [] = refl
take_fewer (suc m) (x ∷ xs) = ap (λ ys. x ∷ ys) (take_fewer m xs)

-- the first of some ids with one more are those of the first ones with it
pub first-tips : (events : List Stored) (id : List ℕ) (n : ℕ) (ids : List (List ℕ)) → take n (with_tip events id (take n ids)) ≡ take n (with_tip events id ids)
first-tips events id zero ids = refl
first-tips events id (suc n) [] = refl
first-tips events id (suc n) (x ∷ ids) = by (is_lt (tip_cmp events x id)) (first-tips events id n ids)
  where
    shorter : (n : ℕ) → take n (x ∷ take n ids) ≡ take n (x ∷ ids)
    shorter zero = refl
    shorter (suc m) = ap (λ xs. x ∷ xs) (take_fewer m ids)

    by : (b : Bool) → take n (with_tip events id (take n ids)) ≡ take n (with_tip events id ids)
        → take (suc n) (if b then x ∷ with_tip events id (take n ids) else id ∷ x ∷ take n ids) ≡ take (suc n) (if b then x ∷ with_tip events id ids else id ∷ x ∷ ids)
    by true rest = ap (λ xs. x ∷ xs) rest
    by false rest = ap (λ xs. id ∷ xs) (shorter n)

at_most : {X : Type 0} (p : X → Bool) (xs : List X) → position_or_len p xs ≤ length xs
at_most p [] = omega arith
at_most p (x ∷ xs) =
    let rest = at_most p xs in
    elim (p x) as (λ b. cond (not b) (1 + position_or_len p xs) 0 ≤ length (x ∷ xs)) [ true ↦ omega arith | false ↦ omega arith ]

none_by : (b : Bool) (n : ℕ) → cond b (Some n) None ≡ None → b ≡ false
none_by true n e = absurd (cc)
none_by false n e = refl

-- where none is behind, all come before
pub none-behind : {X : Type 0} (p : X → Bool) (xs : List X) → position p xs ≡ None → length xs ≡ position_or_len p xs
none-behind p xs e =
    let most = at_most p xs in
    let least = ltb-false (position_or_len p xs) (length xs) (none_by (nat_lt (position_or_len p xs) (length xs)) (position_or_len p xs) e) in
    omega (arith, most, least)

-- ---- tests that all ids pass

module _ (p : List ℕ → Bool) where
  all_cons : (x : List ℕ) (xs : List (List ℕ)) → p x ≡ true → list_all p xs ≡ true → list_all p (x ∷ xs) ≡ true
  all_cons x xs one all = ap (λ b. b && list_all p xs) one ∙ all

  head_passes : (x : List ℕ) (xs : List (List ℕ)) → list_all p (x ∷ xs) ≡ true → p x ≡ true
  head_passes x xs h = by (p x) h
    where
      by : (b : Bool) → (b && list_all p xs) ≡ true → b ≡ true
      by true t = refl
      by false t = absurd (true≢false (sym t))

  rest_pass : (x : List ℕ) (xs : List (List ℕ)) → list_all p (x ∷ xs) ≡ true → list_all p xs ≡ true
  rest_pass x xs h = by (p x) h
    where
      by : (b : Bool) → (b && list_all p xs) ≡ true → list_all p xs ≡ true
      by true t = t
      by false t = absurd (true≢false (sym t))

  tip_passes : (events : List Stored) (id : List ℕ) (ids : List (List ℕ)) → p id ≡ true → list_all p ids ≡ true → list_all p (with_tip events id ids) ≡ true
  tip_passes events id [] one all = all_cons id [] one refl
  tip_passes events id (x ∷ ids) one all = by (is_lt (tip_cmp events x id)) (tip_passes events id ids one (rest_pass x ids all))
    where
      by : (b : Bool) → list_all p (with_tip events id ids) ≡ true → list_all p (if b then x ∷ with_tip events id ids else id ∷ x ∷ ids) ≡ true
      by true rest = all_cons x (with_tip events id ids) (head_passes x ids all) rest
      by false rest = all_cons id (x ∷ ids) one all

  sorted_pass : (events : List Stored) (ids : List (List ℕ)) → list_all p ids ≡ true → list_all p (by_depth events ids) ≡ true
  sorted_pass events [] all = refl
  sorted_pass events (x ∷ ids) all = tip_passes events x (by_depth events ids) (head_passes x ids all) (sorted_pass events ids (rest_pass x ids all))

  taken_pass : (n : ℕ) (ids : List (List ℕ)) → list_all p ids ≡ true → list_all p (take n ids) ≡ true
  taken_pass zero ids all = refl
  taken_pass (suc n) [] all = refl
  taken_pass (suc n) (x ∷ ids) all = all_cons x (take n ids) (head_passes x ids all) (taken_pass n ids (rest_pass x ids all))

  filtered_pass : (q : List ℕ → Bool) (ids : List (List ℕ)) → list_all p ids ≡ true → list_all p (filter q ids) ≡ true
  filtered_pass q [] all = refl
  filtered_pass q (x ∷ ids) all = by (q x) (filtered_pass q ids (rest_pass x ids all))
    where
      by : (b : Bool) → list_all p (filter q ids) ≡ true → list_all p (cond b (x ∷ filter q ids) (filter q ids)) ≡ true
      by true rest = all_cons x (filter q ids) (head_passes x ids all) rest
      by false rest = rest

  once_pass : (ids : List (List ℕ)) → list_all p ids ≡ true → list_all p (each_once ids) ≡ true
  once_pass [] all = refl
  once_pass (x ∷ ids) all = all_cons x _ (head_passes x ids all) (filtered_pass (λ other. not (bytes_eq x other)) (each_once ids) (once_pass ids (rest_pass x ids all)))

-- ---- ids of stored events

leading : (events front : List Stored) (xs : List Stored) (p : Stored → Bool) → events ≡ front ++ xs → list_all (is_stored events) (map id_of (filter p xs)) ≡ true
leading events front [] p e = refl
leading events front (x ∷ xs) p e = by (p x) (leading events (front ++ x ∷ []) xs p (e ∙ sym (append_assoc front (x ∷ []) xs)))
  where
    by : (b : Bool) → list_all (is_stored events) (map id_of (filter p xs)) ≡ true → list_all (is_stored events) (map id_of (cond b (x ∷ filter p xs) (filter p xs))) ≡ true
    by true rest = all_cons (is_stored events) (id_of x) (map id_of (filter p xs)) (in_middle events front x xs e) rest
    by false rest = rest

pub extremities-stored : (events : List Stored) → list_all (is_stored events) (extremities_of events) ≡ true
extremities-stored events = leading events [] events _ refl

pub prev_events-stored : (events : List Stored) → list_all (is_stored events) (prev_events_for events) ≡ true
unfolding prev_events_for
prev_events-stored events = taken_pass (is_stored events) 20 (by_depth events (extremities_of events)) (sorted_pass (is_stored events) events (extremities_of events) (extremities-stored events))

-- what is selected of a state of stored events
module _ (events : List Stored) (state : StateMap) (named : NamesStored events state) where
  entry_passes : (o : Option (List ℕ)) (rest : List (List ℕ)) → ((id : List ℕ) → o ≡ Some id → is_stored events id ≡ true) → list_all (is_stored events) rest ≡ true
      → list_all (is_stored events) (cons_option o rest) ≡ true
  entry_passes None rest one all = all
  entry_passes (Some id) rest one all = all_cons (is_stored events) id rest (one id refl) all

  key_passes : (key : Option StateKey) (id : List ℕ) → entry_of state key ≡ Some id → is_stored events id ≡ true
  key_passes None id e = absurd (cc)
  key_passes (Some key) id e = named key.0 key.1 id e

  keys_pass : (keys : List (Option StateKey)) → list_all (is_stored events) (ids_at state keys) ≡ true
  keys_pass [] = refl
  keys_pass (key ∷ keys) = entry_passes (entry_of state key) (ids_at state keys) (key_passes key) (keys_pass keys)

  pub selection-stored : (fields : SelectorFields) → list_all (is_stored events) (selection_of fields state) ≡ true
  selection-stored fields = once_pass (is_stored events) (ids_at state (selection_keys fields)) (keys_pass (selection_keys fields))
