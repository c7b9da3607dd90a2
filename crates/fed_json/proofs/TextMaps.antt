-- The finite map that the entries of a `BTreeMap` from texts stand for.
use Rattle.std.proofs.Common.{◌≡◌, ℕ, suc, List, [], ◌∷◌, map, length, Bool, true, false, ◌&&◌, cond, T, Ordering, Less, Equal, Greater, nat_cmp, Option, Some, None, option_map, is_some, string_bytes, String, refl, sym, ap, ◌∙◌, subst}
use Rattle.std.specs.declared.alloc.Global.{Global}
use Rattle.std.specs.FinMap as finite
use Rattle.std.specs.FinMap.{find, put, is_sorted}
use Rattle.std.specs.List.{AllByRecursion}
use Rattle.std.specs.List.Sorted.{IsStrictlySortedBy}
use Rattle.std.specs.Ordering.{is_eq, is_lt, match_ordering}
use Rattle.std.specs.Cmp.Lexicographic.{slice_cmp, nat_list_cmp_total}
use Rattle.std.specs.Map.{keys_of, lookup}
use Rattle.std.specs.BTreeMap.{insert_entry, is_at}
use Rattle.std.specs.String.{string_cmp}
use Rattle.fed_json.specs.TextMap.{text_map}

both : (a b : Bool) → T a → T b → T (a && b)
both true b p q = q
both false b p q = absurd p

less : (o : Ordering) → o ≡ Less → T (is_lt o)
less o e = subst (λ r. T (is_lt r)) (sym e) tt

-- a key is looked up by its bytes
abbrev pub at : List ℕ → String Global → Bool
at key = is_at (λ k. slice_cmp nat_cmp key (string_bytes k))

module _ {V X : Type 0} (seen : V → X) where
  abbrev pub entry_seen : String Global × V → List ℕ × X
  entry_seen e = (string_bytes e.0, seen e.1)

  abbrev pub AreSorted : List (String Global × V) → Type 0
  AreSorted es = IsStrictlySortedBy string_cmp (keys_of es)

  below : (e : String Global × V) (es : List (String Global × V)) → AllByRecursion (λ k. string_cmp e.0 k ≡ Less) (keys_of es) → T (finite.Entries.below_all (slice_cmp nat_cmp) (string_bytes e.0) (map entry_seen es))
  below e [] h = tt
  below e (f ∷ es) h = both _ _ (less _ h.0) (below e es h.1)

  entries_sorted : (es : List (String Global × V)) → AreSorted es → T (is_sorted (slice_cmp nat_cmp) (map entry_seen es))
  unfolding IsStrictlySortedBy
  entries_sorted [] h = tt
  entries_sorted (e ∷ es) h = both _ _ (below e es h.0) (entries_sorted es h.1)

  pub entries-text_map : (es : List (String Global × V)) → AreSorted es → finite.entries (text_map seen es) ≡ map entry_seen es
  entries-text_map es h = finite.entries-from_sorted (slice_cmp nat_cmp) (map entry_seen es) (entries_sorted es h)

  count : (es : List (String Global × V)) → length (map entry_seen es) ≡ length es
  count [] = refl
  count (e ∷ es) = ap suc (count es)

  pub len-text_map : (es : List (String Global × V)) → AreSorted es → finite.len (text_map seen es) ≡ length es
  len-text_map es h = finite.len-entries (text_map seen es) ∙ ap length (entries-text_map es h) ∙ count es

  pub text_map-none : (es : List (String Global × V)) → es ≡ [] → text_map seen es ≡ finite.empty
  unfolding IsStrictlySortedBy
  text_map-none es e = ap (text_map seen) e ∙ finite.empty_of_len (text_map seen []) (len-text_map [] tt)

  found : (key : List ℕ) (es : List (String Global × V)) → find (slice_cmp nat_cmp) key (map entry_seen es) ≡ option_map seen (lookup (at key) es)
  found key [] = refl
  found key (e ∷ es) =
      elim (is_eq (slice_cmp nat_cmp key (string_bytes e.0))) as (λ b. cond b (Some (seen e.1)) (find (slice_cmp nat_cmp) key (map entry_seen es)) ≡ option_map seen (cond b (Some e.1) (lookup (at key) es)))
      [ true ↦ refl | false ↦ found key es ]

  pub get-text_map : (es : List (String Global × V)) → AreSorted es → (key : List ℕ) → finite.get (text_map seen es) key ≡ option_map seen (lookup (at key) es)
  get-text_map es h key = finite.get-from_sorted (slice_cmp nat_cmp) (map entry_seen es) key (entries_sorted es h) ∙ found key es

  entered : (es : List (String Global × V)) (k : String Global) (v : V) → map entry_seen (insert_entry string_cmp es k v) ≡ put (slice_cmp nat_cmp) (string_bytes k) (seen v) (map entry_seen es)
  entered [] k v = refl
  entered (e ∷ es) k v =
      let R = slice_cmp nat_cmp in
      let key = string_bytes k in
      let others = map entry_seen es in
      elim (R key (string_bytes e.0)) as (λ o. map entry_seen (match_ordering o ((k, v) ∷ e ∷ es) ((e.0, v) ∷ es) (e ∷ insert_entry string_cmp es k v)) ≡ finite.Entries.by_order o ((key, seen v) ∷ entry_seen e ∷ others) ((string_bytes e.0, seen v) ∷ others) (entry_seen e ∷ put R key (seen v) others))
      [ Less ↦ refl | Equal ↦ refl | Greater ↦ ap (λ fs. entry_seen e ∷ fs) (entered es k v) ]

  pub text_map-insert : (es fs : List (String Global × V)) (k : String Global) (v : V) → AreSorted es → AreSorted fs → fs ≡ insert_entry string_cmp es k v → text_map seen fs ≡ finite.insert (text_map seen es) (string_bytes k) (seen v)
  text_map-insert es fs k v h g e =
      finite.same_entries_map (text_map seen fs) _ (entries-text_map fs g ∙ ap (map entry_seen) e ∙ entered es k v ∙ ap (put (slice_cmp nat_cmp) (string_bytes k) (seen v)) (sym (entries-text_map es h)) ∙ sym (finite.entries-insert nat_list_cmp_total (text_map seen es) (string_bytes k) (seen v)))

  same_some : (o : Option V) → is_some o ≡ is_some (option_map seen o)
  same_some None = refl
  same_some (Some v) = refl

  pub contains_key-text_map : (es : List (String Global × V)) → AreSorted es → (key : List ℕ) → is_some (lookup (at key) es) ≡ finite.contains_key (text_map seen es) key
  contains_key-text_map es h key = same_some (lookup (at key) es) ∙ ap is_some (sym (get-text_map es h key))
