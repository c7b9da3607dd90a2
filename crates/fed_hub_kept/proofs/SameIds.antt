-- Two lists that are mapped to the same.
use Rattle.std.proofs.Common.{◌≡◌, ℕ, ◌+◌, ◌<◌, List, [], ◌∷◌, ◌++◌, length, get_or, take, Bool, true, false, not, bytes_eq, map, Option, Some, None, option_map, slice_get, refl, sym, ap, ◌∙◌}
use Rattle.std.proofs.lemmas.List.{map-append, length-map}
use Rattle.std.proofs.lemmas.Bool.{false≢true}
use Rattle.std.proofs.lemmas.Slice.Eq.{bytes_eq-Decides}
use Rattle.std.proofs.lemmas.Option.{slice_get-map, slice_get_read}
use Rattle.fed_hub_kept.proofs.Each.{one_more}

-- texts that are told to be equal, or to differ
pub equal_texts : (one other : List ℕ) → not (bytes_eq one other) ≡ false → one ≡ other
equal_texts one other told = (bytes_eq-Decides one other).0 (by (bytes_eq one other) told)
  where
    by : (b : Bool) → not b ≡ false → b ≡ true
    by true e = refl
    by false e = absurd (false≢true (sym e))

pub other_texts : (one other : List ℕ) → not (bytes_eq one other) ≡ true → ¬ (one ≡ other)
other_texts one other told same = by (bytes_eq one other) told ((bytes_eq-Decides one other).1 same)
  where
    by : (b : Bool) → not b ≡ true → b ≡ true → ⊥
    by true e f = false≢true e
    by false e f = false≢true f

abbrev or_given : {X : Type 0} → X → Option X → X
or_given x None = x
or_given x (Some y) = y

module _ {X Y Z : Type 0} (f : X → Z) (g : Y → Z) (xs : List X) (ys : List Y) where
  pub same_count : map f xs ≡ map g ys → length xs ≡ length ys
  same_count same = sym (length-map xs f) ∙ ap length same ∙ length-map ys g

  module _ (i : ℕ) (x : X) (y : Y) (within : i < length xs) (there : i < length ys) (is : x ≡ get_or xs i x) (other_is : y ≡ get_or ys i y) where
    pub same_more : map f (take i xs) ≡ map g (take i ys) → f x ≡ g y → map f (take (i + 1) xs) ≡ map g (take (i + 1) ys)
    same_more so_far here =
        ap (map f) (one_more xs i x within is) ∙ map-append f (take i xs) (x ∷ []) ∙ ap (λ zs. zs ++ f x ∷ []) so_far
        ∙ ap (λ z. map g (take i ys) ++ z ∷ []) here ∙ sym (map-append g (take i ys) (y ∷ [])) ∙ ap (map g) (sym (one_more ys i y there other_is))

    pub same_here : map f xs ≡ map g ys → f x ≡ g y
    same_here same = ap (or_given (f x)) found
      where
        found : Some (f x) ≡ Some (g y)
        found =
            ap (option_map f) (sym (slice_get_read xs (length xs) i x refl within is)) ∙ sym (slice_get-map f xs i) ∙ ap (λ zs. slice_get zs i) same
            ∙ slice_get-map g ys i ∙ ap (option_map g) (slice_get_read ys (length ys) i y refl there other_is)
