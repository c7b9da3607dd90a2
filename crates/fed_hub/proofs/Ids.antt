-- The ids of rooms that a map keeps.
use Rattle.std.proofs.Common.{◌≡◌, ℕ, List, [], ◌∷◌, map, Bool, true, false, ◌||◌, cond, Ordering, Less, Equal, Greater, nat_cmp, Some, is_some, string_bytes, bytes_eq, String, refl, sym, ap, ◌∙◌}
use Rattle.std.specs.declared.alloc.Global.{Global}
use Rattle.std.specs.BTreeMap.{insert_entry, is_at}
use Rattle.std.specs.List.{list_any}
use Rattle.std.specs.Map.{lookup}
use Rattle.std.specs.Ordering.{is_eq, match_ordering}
use Rattle.std.specs.String.{string_cmp}
use Rattle.std.specs.Cmp.Lexicographic.{slice_cmp}
use Rattle.std.proofs.lemmas.Map.Text.{is_eq-slice_cmp}
use Rattle.std.proofs.lemmas.Slice.Eq.{bytes_eq-Decides}

swapped : (a b r : Bool) → (a || (b || r)) ≡ (b || (a || r))
swapped true true r = refl
swapped true false r = refl
swapped false true r = refl
swapped false false r = refl

once : (a b r : Bool) → a ≡ b → (b || r) ≡ (a || (b || r))
once true true r e = refl
once true false r e = absurd (cc)
once false true r e = absurd (cc)
once false false r e = refl

module _ {V : Type 0} where
  abbrev pub ids : List (String Global × V) → List (List ℕ)
  ids es = map (λ e. string_bytes e.0) es

  -- a key is found where its bytes stand among the ids
  pub found : (id : List ℕ) (es : List (String Global × V)) → is_some (lookup (is_at (λ k. slice_cmp nat_cmp id (string_bytes k))) es) ≡ list_any (bytes_eq id) (ids es)
  found id [] = refl
  found id (e ∷ es) =
      by (is_eq (slice_cmp nat_cmp id (string_bytes e.0)))
      ∙ (λ i. is_eq-slice_cmp id (string_bytes e.0) i || found id es i)
    where
      by : (b : Bool) → is_some (cond b (Some e.1) (lookup (is_at (λ k. slice_cmp nat_cmp id (string_bytes k))) es)) ≡ (b || is_some (lookup (is_at (λ k. slice_cmp nat_cmp id (string_bytes k))) es))
      by true = refl
      by false = refl

  -- one more key
  pub one_more : (id : List ℕ) (es : List (String Global × V)) (k : String Global) (v : V) → list_any (bytes_eq id) (ids (insert_entry string_cmp es k v)) ≡ (bytes_eq id (string_bytes k) || list_any (bytes_eq id) (ids es))
  one_more id [] k v = refl
  one_more id (e ∷ es) k v = by (one_more id es k v) (string_cmp k e.0) refl
    where
      equal : string_cmp k e.0 ≡ Equal → bytes_eq id (string_bytes k) ≡ bytes_eq id (string_bytes e.0)
      equal is = ap (bytes_eq id) ((bytes_eq-Decides (string_bytes k) (string_bytes e.0)).0 (sym (is_eq-slice_cmp (string_bytes k) (string_bytes e.0)) ∙ ap is_eq is))

      by : list_any (bytes_eq id) (ids (insert_entry string_cmp es k v)) ≡ (bytes_eq id (string_bytes k) || list_any (bytes_eq id) (ids es)) → (o : Ordering) → string_cmp k e.0 ≡ o
          → list_any (bytes_eq id) (ids (match_ordering o ((k, v) ∷ e ∷ es) ((e.0, v) ∷ es) (e ∷ insert_entry string_cmp es k v))) ≡ (bytes_eq id (string_bytes k) || (bytes_eq id (string_bytes e.0) || list_any (bytes_eq id) (ids es)))
      by later Less is = refl
      by later Equal is = once (bytes_eq id (string_bytes k)) (bytes_eq id (string_bytes e.0)) (list_any (bytes_eq id) (ids es)) (equal is)
      by later Greater is = ap (λ b. bytes_eq id (string_bytes e.0) || b) later ∙ swapped (bytes_eq id (string_bytes e.0)) (bytes_eq id (string_bytes k)) (list_any (bytes_eq id) (ids es))
