-- Maps from texts as finite maps.
use Rattle.std.proofs.Common.{◌≡◌, ℕ, List, [], ◌∷◌, ◌⊎◌, inl, inr, Bool, true, false, cond, Bor, nat_cmp, Option, Some, None, option_map, is_some, String, string_bytes, refl, sym, ap, ◌∙◌}
use Rattle.std.proofs.lemmas.Bool.{cases_Bool}
use Rattle.std.proofs.lemmas.Slice.Eq.{bytes_eq-Decides}
use Rattle.std.proofs.lemmas.Map.Steps.{set_value_same}
use Rattle.std.proofs.lemmas.Map.Text.{is_eq-slice_cmp}
use Rattle.std.specs.declared.alloc.Global.{Global}
use Rattle.std.specs.Cmp.Lexicographic.{slice_cmp, nat_list_cmp_total}
use Rattle.std.specs.FinMap as finite
use Rattle.std.specs.Map.{lookup, set_value}
use Rattle.std.specs.Ordering.{eq_by_cmp}
use Rattle.fed_json.specs.TextMap.{text_map}
use Rattle.fed_json.proofs.TextMaps as texts
use Rattle.fed_json.proofs.TextMaps.{at}

abbrev pub tied : List ℕ → List ℕ → Bool
tied = eq_by_cmp (slice_cmp nat_cmp)

pub same_key : (k l : List ℕ) → tied k l ≡ true → k ≡ l
same_key k l h = (bytes_eq-Decides k l).0 (sym (is_eq-slice_cmp k l) ∙ h)

pub is_tied : (k l : List ℕ) → k ≡ l → tied k l ≡ true
is_tied k l e = is_eq-slice_cmp k l ∙ (bytes_eq-Decides k l).1 e

module _ {V X : Type 0} (seen : V → X) where
  pub map_of_none : (es : List (String Global × V)) → es ≡ [] → text_map seen es ≡ finite.empty
  map_of_none es e = texts.text_map-none seen es e

  -- what a look-up lends, as it is seen
  pub lent : (o : Option (Bor V)) → option_map (λ v. seen v.now) o ≡ option_map seen (option_map (λ v. v.now) o)
  lent None = refl
  lent (Some v) = refl

  -- a look-up after a value was written over
  looked : (k q : List ℕ) (w : V) (es : List (String Global × V)) → is_some (lookup (at k) es) ≡ true → lookup (at q) (set_value (at k) es w) ≡ cond (tied q k) (Some w) (lookup (at q) es)
  looked k q w [] h = absurd (cc)
  looked k q w (e ∷ es) h = by (cases_Bool (at k e.0)) (looked k q w es)
    where
      here : (b : Bool) → cond b (Some w) (lookup (at q) es) ≡ cond b (Some w) (cond b (Some e.1) (lookup (at q) es))
      here true = refl
      here false = refl

      apart : at k e.0 ≡ false → (at q e.0 ≡ true) ⊎ (at q e.0 ≡ false) → lookup (at q) (set_value (at k) es w) ≡ cond (tied q k) (Some w) (lookup (at q) es)
          → cond (at q e.0) (Some e.1) (lookup (at q) (set_value (at k) es w)) ≡ cond (tied q k) (Some w) (cond (at q e.0) (Some e.1) (lookup (at q) es))
      apart f (inl t) rest = by_tie (cases_Bool (tied q k))
        where
          by_tie : (tied q k ≡ true) ⊎ (tied q k ≡ false) → cond (at q e.0) (Some e.1) (lookup (at q) (set_value (at k) es w)) ≡ cond (tied q k) (Some w) (cond (at q e.0) (Some e.1) (lookup (at q) es))
          by_tie (inl s) =
              let same : k ≡ string_bytes e.0 = sym (same_key q k s) ∙ same_key q (string_bytes e.0) t in
              let other : at k e.0 ≡ true = is_tied k (string_bytes e.0) same in
              absurd (cc)
          by_tie (inr n) = rw (t, n) refl
      apart f (inr n) rest = rw n rest

      by : (at k e.0 ≡ true) ⊎ (at k e.0 ≡ false) → (is_some (lookup (at k) es) ≡ true → lookup (at q) (set_value (at k) es w) ≡ cond (tied q k) (Some w) (lookup (at q) es)) → lookup (at q) (set_value (at k) (e ∷ es) w) ≡ cond (tied q k) (Some w) (lookup (at q) (e ∷ es))
      by (inl t) rest =
          let same = same_key k (string_bytes e.0) t in
          ap (λ b. lookup (at q) (cond b ((e.0, w) ∷ es) (e ∷ set_value (at k) es w))) t ∙ here (at q e.0) ∙ ap (λ l. cond (tied q l) (Some w) (lookup (at q) (e ∷ es))) (sym same)
      by (inr f) rest =
          ap (λ b. lookup (at q) (cond b ((e.0, w) ∷ es) (e ∷ set_value (at k) es w))) f
          ∙ apart f (cases_Bool (at q e.0)) (rest (ap (λ b. is_some (cond b (Some e.1) (lookup (at k) es))) (sym f) ∙ h))

  some_or : (b : Bool) (w : V) (o : Option V) → option_map seen (cond b (Some w) o) ≡ cond b (Some (seen w)) (option_map seen o)
  some_or true w o = refl
  some_or false w o = refl

  -- a value written over the one that a key has
  pub text_map-set : (es fs : List (String Global × V)) (k : List ℕ) (w : V) → texts.AreSorted seen es → texts.AreSorted seen fs → is_some (lookup (at k) es) ≡ true → fs ≡ set_value (at k) es w
      → text_map seen fs ≡ finite.insert (text_map seen es) k (seen w)
  text_map-set es fs k w h g there e = finite.same_map nat_list_cmp_total (finite.slice_cmp-IsAntisymmetric finite.nat_cmp-IsAntisymmetric) _ _ (λ q.
      texts.get-text_map seen fs g q ∙ ap (λ xs. option_map seen (lookup (at q) xs)) e ∙ ap (option_map seen) (looked k q w es there) ∙ some_or (tied q k) w (lookup (at q) es)
      ∙ ap (cond (tied q k) (Some (seen w))) (sym (texts.get-text_map seen es h q)) ∙ sym (finite.get-insert nat_list_cmp_total (text_map seen es) k (seen w) q))

  -- the value that a key has, written again
  pub text_map-same : (es fs : List (String Global × V)) (k : List ℕ) (w : V) → lookup (at k) es ≡ Some w → fs ≡ set_value (at k) es w → text_map seen fs ≡ text_map seen es
  text_map-same es fs k w h e = ap (text_map seen) (e ∙ set_value_same (at k) es w h)

  -- a key that is not there
  pub text_map-missing : (es fs : List (String Global × V)) (k l : List ℕ) → texts.AreSorted seen es → lookup (at k) es ≡ None → fs ≡ es → l ≡ k → finite.get (text_map seen fs) l ≡ None
  text_map-missing es fs k l h none e same =
      ap (λ xs. finite.get (text_map seen xs) l) e ∙ texts.get-text_map seen es h l ∙ ap (λ q. option_map seen (lookup (at q) es)) same ∙ ap (option_map seen) none

pub same_option : {X : Type 0} (o : Option X) → option_map (λ x. x) o ≡ o
same_option None = refl
same_option (Some x) = refl
