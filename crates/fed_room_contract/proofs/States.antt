-- States as finite maps.
use Rattle.std.proofs.Common.{◌≡◌, ◌≢◌, ℕ, List, [], ◌∷◌, ◌++◌, Bool, true, false, ◌&&◌, cond, T, Ordering, Less, Equal, Greater, nat_cmp, Option, Some, None, option_and_then, unwrap_or, refl, sym, ap, ◌∙◌, subst}
use Rattle.std.specs.FinMap as finite
use Rattle.std.specs.FinMap.{IsAntisymmetric, find, is_sorted}
use Rattle.std.specs.FinMap.Entries.{below_all, same_entries}
use Rattle.std.specs.Ordering.{is_lt, is_eq, eq_by_cmp, ordering_then}
use Rattle.std.specs.Cmp.{IsTotalOrder, on_total, tied_then, tied_itself}
use Rattle.std.proofs.lemmas.Cmp.{then_total}
use Rattle.std.specs.Cmp.Lexicographic.{slice_cmp, nat_list_cmp_total}
use Rattle.fed_json.specs.TextMap.{TextMap}
use Rattle.fed_room_contract.specs.State.{StateKey, StateMap, key_cmp, entry_at, with_entry}
use Rattle.fed_room_contract.specs.StateParts.{Ids, entries_of, all_entries, flattened}
use Rattle.fed_room_contract.proofs.Filled.{or, or_none, first, second, tied, absent}
use Rattle.fed_room_contract.proofs.TextUpdates.{text_order_same}

abbrev order : List ℕ → List ℕ → Ordering
order = slice_cmp nat_cmp

pub key_cmp_total : IsTotalOrder key_cmp
key_cmp_total = then_total (on_total (λ (k : StateKey). k.0) nat_list_cmp_total) (on_total (λ (k : StateKey). k.1) nat_list_cmp_total)

both_equal : (a b : Ordering) → ordering_then a b ≡ Equal → (a ≡ Equal) × (b ≡ Equal)
both_equal Equal b h = (refl, h)
both_equal Less b h = absurd (cc)
both_equal Greater b h = absurd (cc)

pub key_cmp_same : IsAntisymmetric key_cmp
key_cmp_same a b h = let parts = both_equal (order a.0 b.0) (order a.1 b.1) h in λ i. (text_order_same a.0 b.0 parts.0 i, text_order_same a.1 b.1 parts.1 i)

-- states that have the same entries are one
pub same_state : (s t : StateMap) → ((kind key : List ℕ) → entry_at s kind key ≡ entry_at t kind key) → s ≡ t
same_state s t h = finite.same_map key_cmp_total key_cmp_same s t (λ q. h q.0 q.1)

-- ---- the entries of all types

find-++ : (xs ys : List (StateKey × List ℕ)) (q : StateKey) → find key_cmp q (xs ++ ys) ≡ or (find key_cmp q xs) (find key_cmp q ys)
find-++ [] ys q = refl
find-++ (x ∷ xs) ys q =
    ap (cond (eq_by_cmp key_cmp q x.0) (Some x.1)) (find-++ xs ys q)
    ∙ elim (eq_by_cmp key_cmp q x.0) as (λ b. cond b (Some x.1) (or (find key_cmp q xs) (find key_cmp q ys)) ≡ or (cond b (Some x.1) (find key_cmp q xs)) (find key_cmp q ys)) [ true ↦ refl | false ↦ refl ]

guarded : {X : Type 0} (p b : Bool) (x : X) (o : Option X) → cond (p && b) (Some x) (cond p o None) ≡ cond p (cond b (Some x) o) None
guarded true b x o = refl
guarded false b x o = refl

nowhere : (b : Bool) → ◌≡◌ {A = Option (List ℕ)} None (cond b None None)
nowhere true = refl
nowhere false = refl

find-entries_of : (kind key k : List ℕ) (ids : List (List ℕ × List ℕ)) → find key_cmp (kind, key) (entries_of k ids) ≡ cond (is_eq (order kind k)) (find order key ids) None
find-entries_of kind key k [] = nowhere (is_eq (order kind k))
find-entries_of kind key k (e ∷ ids) =
    let rest = find-entries_of kind key k ids in
    ap (λ t. cond t (Some e.1) (find key_cmp (kind, key) (entries_of k ids))) (sym (tied_then (order kind k) (order key e.0)))
    ∙ ap (cond (is_eq (order kind k) && is_eq (order key e.0)) (Some e.1)) rest
    ∙ guarded (is_eq (order kind k)) (is_eq (order key e.0)) e.1 (find order key ids)

abbrev pub at : List ℕ → Ids → Option (List ℕ)
at key ids = finite.get ids key

found : (kind key : List ℕ) (es : List (List ℕ × Ids)) → T (is_sorted order es) → find key_cmp (kind, key) (all_entries es) ≡ option_and_then (at key) (find order kind es)
found kind key [] h = refl
found kind key (e ∷ es) h =
    let rest = found kind key es (second _ _ h) in
    find-++ (entries_of e.0 (finite.entries e.1)) (all_entries es) (kind, key)
    ∙ ap (λ (o : Option (List ℕ)). or o (find key_cmp (kind, key) (all_entries es))) (find-entries_of kind key e.0 (finite.entries e.1))
    ∙ elim (is_eq (order kind e.0)) as (λ b. is_eq (order kind e.0) ≡ b → or (cond b (find order key (finite.entries e.1)) None) (find key_cmp (kind, key) (all_entries es)) ≡ option_and_then (at key) (cond b (Some e.1) (find order kind es))) [
      | true ↦ λ t.
          ap (or (find order key (finite.entries e.1))) (rest ∙ ap (option_and_then (at key)) (absent nat_list_cmp_total kind e.0 es (tied _ t) (first _ _ h)))
          ∙ or_none (find order key (finite.entries e.1))
          ∙ sym (finite.get-entries e.1 key)
      | false ↦ λ t. rest
    ] refl

pub entry_at-flattened : (m : TextMap Ids) (kind key : List ℕ) → entry_at (flattened m) kind key ≡ option_and_then (at key) (finite.get m kind)
entry_at-flattened m kind key =
    finite.get-from_entries key_cmp_total (all_entries (finite.entries m)) (kind, key)
    ∙ found kind key (finite.entries m) (finite.entries_sorted m)
    ∙ ap (option_and_then (at key)) (sym (finite.get-entries m kind))

pub flattened-empty : flattened finite.empty ≡ finite.empty
flattened-empty =
    same_state _ _ (λ kind key. entry_at-flattened finite.empty kind key ∙ ap (option_and_then (at key)) (finite.get-empty order kind) ∙ sym (finite.get-empty key_cmp (kind, key)))

-- ---- an entry that is laid over

at_or_empty : (o : Option Ids) (key : List ℕ) → finite.get (unwrap_or o finite.empty) key ≡ option_and_then (at key) o
at_or_empty None key = finite.get-empty order key
at_or_empty (Some ids) key = refl

module _ (m : TextMap Ids) (kind key id : List ℕ) where
  abbrev pub laid_over : Ids
  laid_over = finite.insert (unwrap_or (finite.get m kind) finite.empty) key id

  pub flattened-insert : flattened (finite.insert m kind laid_over) ≡ with_entry (flattened m) kind key id
  flattened-insert =
      same_state _ _ (λ k s.
      entry_at-flattened (finite.insert m kind laid_over) k s
      ∙ ap (option_and_then (at s)) (finite.get-insert nat_list_cmp_total m kind laid_over k)
      ∙ by_kind k s (eq_by_cmp order k kind) refl
      ∙ ap (λ t. cond t (Some id) (entry_at (flattened m) k s)) (tied_then (order k kind) (order s key))
      ∙ sym (finite.get-insert key_cmp_total (flattened m) (kind, key) id (k, s)))
    where
      by_kind : (k s : List ℕ) (b : Bool) → is_eq (order k kind) ≡ b
          → option_and_then (at s) (cond b (Some laid_over) (finite.get m k)) ≡ cond (is_eq (order k kind) && is_eq (order s key)) (Some id) (entry_at (flattened m) k s)
      by_kind k s true t =
          finite.get-insert nat_list_cmp_total (unwrap_or (finite.get m kind) finite.empty) key id s
          ∙ ap (cond (eq_by_cmp order s key) (Some id)) (at_or_empty (finite.get m kind) s ∙ ap (option_and_then (at s)) (finite.get_tied nat_list_cmp_total m k kind (tied _ t)) ∙ sym (entry_at-flattened m k s))
          ∙ ap (λ b. cond (b && is_eq (order s key)) (Some id) (entry_at (flattened m) k s)) (sym t)
      by_kind k s false t =
          sym (entry_at-flattened m k s) ∙ ap (λ b. cond (b && is_eq (order s key)) (Some id) (entry_at (flattened m) k s)) (sym t)

-- what is there is laid over in vain
pub insert_same : {X : Type 0} (m : TextMap X) (k : List ℕ) (v : X) → finite.get m k ≡ Some v → finite.insert m k v ≡ m
insert_same m k v h = finite.same_map nat_list_cmp_total text_order_same _ _ (λ q. finite.get-insert nat_list_cmp_total m k v q ∙ by q (eq_by_cmp order q k) refl)
  where
    by : (q : List ℕ) (b : Bool) → eq_by_cmp order q k ≡ b → cond b (Some v) (finite.get m q) ≡ finite.get m q
    by q true t = sym h ∙ finite.get_tied nat_list_cmp_total m q k (tied _ t)
    by q false t = refl

pub flattened-insert_at : (m : TextMap Ids) (kind key id : List ℕ) (ids : Ids) → unwrap_or (finite.get m kind) finite.empty ≡ ids
    → flattened (finite.insert m kind (finite.insert ids key id)) ≡ with_entry (flattened m) kind key id
flattened-insert_at m kind key id ids h = ap (λ (i : Ids). flattened (finite.insert m kind (finite.insert i key id))) (sym h) ∙ flattened-insert m kind key id

-- ---- what is found in a state

pub entry_at-same : (s : StateMap) (kind key id : List ℕ) → entry_at (with_entry s kind key id) kind key ≡ Some id
entry_at-same s kind key id = finite.get-insert key_cmp_total s (kind, key) id (kind, key) ∙ ap (λ (o : Ordering). cond (is_eq o) (Some id) (entry_at s kind key)) (tied_itself key_cmp_total (kind, key))

pub entry_at-other : (s : StateMap) (kind key id : List ℕ) (other : StateKey) → other ≢ (kind, key) → entry_at (with_entry s kind key id) other.0 other.1 ≡ entry_at s other.0 other.1
entry_at-other s kind key id other apart = finite.get-insert key_cmp_total s (kind, key) id other ∙ by (eq_by_cmp key_cmp other (kind, key)) refl
  where
    by : (b : Bool) → eq_by_cmp key_cmp other (kind, key) ≡ b → cond b (Some id) (finite.get s other) ≡ finite.get s other
    by true t = absurd (apart (key_cmp_same other (kind, key) (tied _ t)))
    by false t = refl

-- ---- an entry that is taken away

pub flattened-remove_at : (m : TextMap Ids) (kind key : List ℕ) (ids : Ids) → finite.get m kind ≡ Some ids
    → flattened (finite.insert m kind (finite.remove ids key)) ≡ finite.remove (flattened m) (kind, key)
flattened-remove_at m kind key ids h =
    same_state _ _ (λ k s.
    entry_at-flattened (finite.insert m kind (finite.remove ids key)) k s
    ∙ ap (option_and_then (at s)) (finite.get-insert nat_list_cmp_total m kind (finite.remove ids key) k)
    ∙ by_kind k s (eq_by_cmp order k kind) refl
    ∙ ap (λ t. cond t None (entry_at (flattened m) k s)) (tied_then (order k kind) (order s key))
    ∙ sym (finite.get-remove key_cmp_total (flattened m) (kind, key) (k, s)))
  where
    by_kind : (k s : List ℕ) (b : Bool) → is_eq (order k kind) ≡ b
        → option_and_then (at s) (cond b (Some (finite.remove ids key)) (finite.get m k)) ≡ cond (is_eq (order k kind) && is_eq (order s key)) None (entry_at (flattened m) k s)
    by_kind k s true t =
        finite.get-remove nat_list_cmp_total ids key s
        ∙ ap (cond (eq_by_cmp order s key) None) (ap (option_and_then (at s)) (sym h ∙ finite.get_tied nat_list_cmp_total m k kind (tied _ t)) ∙ sym (entry_at-flattened m k s))
        ∙ ap (λ b. cond (b && is_eq (order s key)) None (entry_at (flattened m) k s)) (sym t)
    by_kind k s false t = sym (entry_at-flattened m k s) ∙ ap (λ b. cond (b && is_eq (order s key)) None (entry_at (flattened m) k s)) (sym t)

pub flattened-remove_none : (m : TextMap Ids) (kind key : List ℕ) → finite.get m kind ≡ None → flattened m ≡ finite.remove (flattened m) (kind, key)
flattened-remove_none m kind key h = same_state _ _ (λ k s. by k s (eq_by_cmp key_cmp (k, s) (kind, key)) refl ∙ sym (finite.get-remove key_cmp_total (flattened m) (kind, key) (k, s)))
  where
    none : entry_at (flattened m) kind key ≡ None
    none = entry_at-flattened m kind key ∙ ap (option_and_then (at key)) h

    by : (k s : List ℕ) (b : Bool) → eq_by_cmp key_cmp (k, s) (kind, key) ≡ b → entry_at (flattened m) k s ≡ cond b None (entry_at (flattened m) k s)
    by k s true t = sym (finite.get_tied key_cmp_total (flattened m) (k, s) (kind, key) (tied _ t)) ∙ none
    by k s false t = refl

pub removed-same : (s : StateMap) (kind key : List ℕ) → entry_at (finite.remove s (kind, key)) kind key ≡ None
removed-same s kind key = finite.get-remove key_cmp_total s (kind, key) (kind, key) ∙ ap (λ (o : Ordering). cond (is_eq o) None (entry_at s kind key)) (tied_itself key_cmp_total (kind, key))

pub removed-other : (s : StateMap) (key other : StateKey) → other ≢ key → finite.get (finite.remove s key) other ≡ finite.get s other
removed-other s key other apart = finite.get-remove key_cmp_total s key other ∙ by (eq_by_cmp key_cmp other key) refl
  where
    by : (b : Bool) → eq_by_cmp key_cmp other key ≡ b → cond b None (finite.get s other) ≡ finite.get s other
    by true t = absurd (apart (key_cmp_same other key (tied _ t)))
    by false t = refl

-- ---- the entries in the order of their keys

both : (a b : Bool) → T a → T b → T (a && b)
both true b p q = q
both false b p q = absurd p

above : (k : StateKey) (xs ys : List (StateKey × List ℕ)) → T (below_all key_cmp k xs) → T (below_all key_cmp k ys) → T (below_all key_cmp k (xs ++ ys))
above k [] ys h g = g
above k (x ∷ xs) ys h g = both _ _ (first _ _ h) (above k xs ys (second _ _ h) g)

-- each key of xs is below each key of ys
abbrev AllBelow : List (StateKey × List ℕ) → List (StateKey × List ℕ) → Type 0
AllBelow [] ys = Unit {0}
AllBelow (x ∷ xs) ys = T (below_all key_cmp x.0 ys) × AllBelow xs ys

sorted-++ : (xs ys : List (StateKey × List ℕ)) → T (is_sorted key_cmp xs) → T (is_sorted key_cmp ys) → AllBelow xs ys → T (is_sorted key_cmp (xs ++ ys))
sorted-++ [] ys h g b = g
sorted-++ (x ∷ xs) ys h g b = both _ _ (above x.0 xs ys (first _ _ h) b.0) (sorted-++ xs ys (second _ _ h) g b.1)

less_first : (a b : Ordering) → T (is_lt a) → T (is_lt (ordering_then a b))
less_first Less b h = tt
less_first Equal b h = absurd h
less_first Greater b h = absurd h

less_second : (k : List ℕ) (b : Ordering) → T (is_lt b) → T (is_lt (ordering_then (order k k) b))
less_second k b h = subst (λ (o : Ordering). T (is_lt (ordering_then o b))) (sym (tied_itself nat_list_cmp_total k)) h

below_same : (kind key : List ℕ) (ids : List (List ℕ × List ℕ)) → T (below_all order key ids) → T (below_all key_cmp (kind, key) (entries_of kind ids))
below_same kind key [] h = tt
below_same kind key (e ∷ ids) h = both _ _ (less_second kind (order key e.0) (first _ _ h)) (below_same kind key ids (second _ _ h))

entries_of_sorted : (kind : List ℕ) (ids : List (List ℕ × List ℕ)) → T (is_sorted order ids) → T (is_sorted key_cmp (entries_of kind ids))
entries_of_sorted kind [] h = tt
entries_of_sorted kind (e ∷ ids) h = both _ _ (below_same kind e.0 ids (first _ _ h)) (entries_of_sorted kind ids (second _ _ h))

below_kind : (kind key k : List ℕ) (ids : List (List ℕ × List ℕ)) → T (is_lt (order kind k)) → T (below_all key_cmp (kind, key) (entries_of k ids))
below_kind kind key k [] h = tt
below_kind kind key k (e ∷ ids) h = both _ _ (less_first (order kind k) (order key e.0) h) (below_kind kind key k ids h)

below_kinds : (kind key : List ℕ) (es : List (List ℕ × Ids)) → T (below_all order kind es) → T (below_all key_cmp (kind, key) (all_entries es))
below_kinds kind key [] h = tt
below_kinds kind key (e ∷ es) h = above (kind, key) (entries_of e.0 (finite.entries e.1)) (all_entries es) (below_kind kind key e.0 (finite.entries e.1) (first _ _ h)) (below_kinds kind key es (second _ _ h))

all_below : (kind : List ℕ) (ids : List (List ℕ × List ℕ)) (es : List (List ℕ × Ids)) → T (below_all order kind es) → AllBelow (entries_of kind ids) (all_entries es)
all_below kind [] es h = tt
all_below kind (e ∷ ids) es h = (below_kinds kind e.0 es h, all_below kind ids es h)

all_entries_sorted : (es : List (List ℕ × Ids)) → T (is_sorted order es) → T (is_sorted key_cmp (all_entries es))
all_entries_sorted [] h = tt
all_entries_sorted (e ∷ es) h =
    sorted-++ (entries_of e.0 (finite.entries e.1)) (all_entries es) (entries_of_sorted e.0 (finite.entries e.1) (finite.entries_sorted e.1)) (all_entries_sorted es (second _ _ h))
    (all_below e.0 (finite.entries e.1) es (first _ _ h))

-- the entries of a state are those of its types, one after another
pub entries-flattened : (m : TextMap Ids) → finite.entries (flattened m) ≡ all_entries (finite.entries m)
entries-flattened m =
    let es = all_entries (finite.entries m) in
    same_entries key_cmp key_cmp_total key_cmp_same (finite.entries (flattened m)) es (finite.entries_sorted (flattened m)) (all_entries_sorted (finite.entries m) (finite.entries_sorted m))
    (λ q. sym (finite.get-entries (flattened m) q) ∙ finite.get-from_entries key_cmp_total es q)
