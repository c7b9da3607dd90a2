-- Auth states, by look-ups among the auth events.
use Rattle.std.proofs.Common.{◌≡◌, ℕ, List, [], ◌∷◌, Bool, true, false, true≢false, ◌&&◌, cond, Option, Some, None, option_map, is_some, Result, Ok, Err, bytes_eq, refl, sym, ◌∙◌, ap}
use Rattle.std.proofs.lemmas.Bool.{and_parts, or_parts}
use Rattle.std.proofs.lemmas.Slice.Eq.{bytes_eq-Decides}
use Rattle.std.specs.Bool.{⊤}
use Rattle.std.specs.List.{list_any, find}
use Rattle.std.specs.Option.{option_eq, option_or}
use Rattle.std.specs.FinMap as finite
use Rattle.fed_room_contract.specs.declared.rule.Rule.{Rule}
use Rattle.fed_room_contract.specs.declared.graph.Stored.{Stored}
use Rattle.fed_room_contract.specs.State.{StateMap, key_cmp, entry_at}
use Rattle.fed_room_contract.specs.Graph.{id_of}
use Rattle.fed_room_contract.proofs.Positions.{is_some-find}
use Rattle.fed_room_contract.proofs.States.{entry_at-same, entry_at-other}
use Rattle.fed_event.specs.Event.{Event}
use Rattle.fed_auth.specs.Table.{rule, decide, Row}
use Rattle.fed_auth.specs.AuthState.{kind_in, state_key_in, are_alike, has_double, stands_at, with_id_at, with_stored, with_all, auth_table, answer_of}

pub same_bytes : (xs ys : List ℕ) → bytes_eq xs ys ≡ true → xs ≡ ys
same_bytes xs ys h = (bytes_eq-Decides xs ys).0 h

pub itself : (xs : List ℕ) → bytes_eq xs xs ≡ true
itself xs = (bytes_eq-Decides xs xs).1 refl

-- the two parts of a key are those at which something is laid
abbrev is_at : List ℕ → List ℕ → List ℕ → Option (List ℕ) → Bool
is_at kind key k o = bytes_eq kind k && option_eq bytes_eq (Some key) o

laid-same : (s : StateMap) (k : List ℕ) (o : Option (List ℕ)) (id kind key : List ℕ) → is_at kind key k o ≡ true → entry_at (with_id_at s k o id) kind key ≡ Some id
laid-same s k None id kind key h = absurd (true≢false (sym (and_parts (bytes_eq kind k) false h).1))
laid-same s k (Some x) id kind key h =
    let parts = and_parts (bytes_eq kind k) (bytes_eq key x) h in
    ap (λ q. entry_at (with_id_at s k (Some x) id) q key) (same_bytes kind k parts.0)
    ∙ ap (entry_at (with_id_at s k (Some x) id) k) (same_bytes key x parts.1)
    ∙ entry_at-same s k x id

laid-other : (s : StateMap) (k : List ℕ) (o : Option (List ℕ)) (id kind key : List ℕ) → is_at kind key k o ≡ false → entry_at (with_id_at s k o id) kind key ≡ entry_at s kind key
laid-other s k None id kind key h = refl
laid-other s k (Some x) id kind key h =
    entry_at-other s k x id (kind, key)
    (λ e. absurd (true≢false (sym (sym h ∙ ap (λ q. bytes_eq q.0 k && bytes_eq q.1 x) e ∙ ap (λ b. b && bytes_eq x x) (itself k) ∙ itself x))))

-- what is alike one that stands at a key stands there too
pub same_key : (o : Option (List ℕ)) (key : List ℕ) → option_eq bytes_eq (Some key) o ≡ true → o ≡ Some key
same_key None key h = absurd (true≢false (sym h))
same_key (Some x) key h = ap Some (sym (same_bytes key x h))

alike : (kind key : List ℕ) (one other : Stored) → stands_at kind key one ≡ true → are_alike one other ≡ stands_at kind key other
unfolding stands_at are_alike
alike kind key one other h =
    let parts = and_parts (bytes_eq kind (kind_in one)) (option_eq bytes_eq (Some key) (state_key_in one)) h in
    ap (λ k. is_some (state_key_in one) && bytes_eq k (kind_in other) && option_eq bytes_eq (state_key_in one) (state_key_in other)) (sym (same_bytes kind (kind_in one) parts.0))
    ∙ ap (λ o. is_some o && bytes_eq kind (kind_in other) && option_eq bytes_eq o (state_key_in other)) (same_key (state_key_in one) key parts.1)

is_none : {X : Type 0} (o : Option X) → is_some o ≡ false → o ≡ None
is_none None h = refl
is_none (Some x) h = absurd (true≢false h)

alone : (kind key : List ℕ) (one : Stored) (others : List Stored) → stands_at kind key one ≡ true → list_any (are_alike one) others ≡ false → find (stands_at kind key) others ≡ None
alone kind key one others h none =
    is_none (find (stands_at kind key) others)
    (is_some-find (stands_at kind key) others ∙ sym (λ i. list_any (λ other. alike kind key one other h i) others) ∙ none)

or_none : {X : Type 0} (o : Option X) → option_or o None ≡ o
or_none None = refl
or_none (Some x) = refl

-- the state of an answer
given_state : {s t : StateMap} (other : StateMap) → ◌≡◌ {A = Result StateMap Rule} (Ok s) (Ok t) → s ≡ t
given_state other h = ap (elim [ Ok s ↦ s | Err number ↦ other ]) h

ok_is_no_err : {s : StateMap} {number : Rule} → ◌≡◌ {A = Result StateMap Rule} (Ok s) (Err number) → ⊥
ok_is_no_err h = cc

abbrev after : List Row → List Row
after [] = []
after (row ∷ rows) = rows

doubled : (event : Event) (auth : List Stored) → has_double auth ≡ true → decide (auth_table event auth) ≡ Err (rule 2 1 0)
unfolding auth_table
doubled event auth h = ap (λ b. cond b (Err (rule 2 1 0)) (decide (after (auth_table event auth)))) h

module _ (kind key : List ℕ) where
  abbrev pub found : List Stored → Option (List ℕ)
  found auth = option_map id_of (find (stands_at kind key) auth)

  laid : (b : Bool) (s : StateMap) (one : Stored) (others : List Stored) → stands_at kind key one ≡ b → list_any (are_alike one) others ≡ false
      → option_or (found others) (entry_at (with_stored s one) kind key) ≡ option_or (option_map id_of (cond b (Some one) (find (stands_at kind key) others))) (entry_at s kind key)
  unfolding with_stored stands_at
  laid true s one others h none =
      ap (λ o. option_or (option_map id_of o) (entry_at (with_stored s one) kind key)) (alone kind key one others h none)
      ∙ laid-same s (kind_in one) (state_key_in one) (id_of one) kind key h
  laid false s one others h none = ap (option_or (found others)) (laid-other s (kind_in one) (state_key_in one) (id_of one) kind key h)

  entry-with_all : (s : StateMap) (auth : List Stored) → has_double auth ≡ false → entry_at (with_all s auth) kind key ≡ option_or (found auth) (entry_at s kind key)
  entry-with_all s [] h = refl
  entry-with_all s (one ∷ others) h =
      let parts = or_parts (list_any (are_alike one) others) (has_double others) h in
      entry-with_all (with_stored s one) others parts.1 ∙ laid (stands_at kind key one) s one others refl parts.0

  entry-Ok : (r : Result ⊤ Rule) (auth : List Stored) (state : StateMap) → has_double auth ≡ false → answer_of r (with_all finite.empty auth) ≡ Ok state → entry_at state kind key ≡ found auth
  entry-Ok (Ok done) auth state single h =
      ap (λ s. entry_at s kind key) (sym (given_state finite.empty h))
      ∙ entry-with_all finite.empty auth single
      ∙ ap (option_or (found auth)) (finite.get-empty key_cmp (kind, key))
      ∙ or_none (found auth)
  entry-Ok (Err number) auth state single h = absurd (cc)

  pub entry-answer : (event : Event) (auth : List Stored) (state : StateMap) → answer_of (decide (auth_table event auth)) (with_all finite.empty auth) ≡ Ok state
      → entry_at state kind key ≡ found auth
  entry-answer event auth state h = by (has_double auth) refl
    where
      by : (b : Bool) → has_double auth ≡ b → entry_at state kind key ≡ found auth
      by true double = absurd (ok_is_no_err (sym h ∙ ap (λ r. answer_of r (with_all finite.empty auth)) (doubled event auth double)))
      by false single = entry-Ok (decide (auth_table event auth)) auth state single h
