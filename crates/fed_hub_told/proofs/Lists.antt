-- Lists as far as a loop has come.
use Rattle.std.proofs.Common.{◌≡◌, ℕ, suc, ◌+◌, ◌<◌, List, [], ◌∷◌, ◌++◌, length, get_or, take, drop, map, sym, ap, ◌∙◌, drop-cons}
use Rattle.std.specs.List.{filter_map, cons_option}
use Rattle.std.specs.Prelude.{Option, Some, None}
use Rattle.std.proofs.lemmas.List.{append-nil, take_more, take-append-drop, map-append}
use Rattle.std.proofs.lemmas.List.Elements.{filter_map-append}

-- one element more, and what comes behind it
pub one_more : {X : Type 0} (xs : List X) (i : ℕ) (x : X) → i < length xs → x ≡ get_or xs i x → take (i + 1) xs ≡ take i xs ++ x ∷ []
one_more xs i x within is = take_more xs i x within ∙ ap (λ y. take i xs ++ y ∷ []) (sym is)

pub split_at : {X : Type 0} (xs : List X) (i : ℕ) (x : X) → i < length xs → x ≡ get_or xs i x → xs ≡ take i xs ++ x ∷ drop (suc i) xs
split_at xs i x within is = sym (take-append-drop i xs) ∙ ap (λ ys. take i xs ++ ys) (drop-cons xs i x within) ∙ ap (λ y. take i xs ++ y ∷ drop (suc i) xs) (sym is)

-- a list that is mapped
pub mapped_push : {X Y : Type 0} (f : X → Y) (xs ys : List X) (x : X) → ys ≡ xs ++ x ∷ [] → map f ys ≡ map f xs ++ f x ∷ []
mapped_push f xs ys x is = ap (map f) is ∙ map-append f xs (x ∷ [])

module _ {X Y : Type 0} (f : X → Y) (xs : List X) (i : ℕ) (x : X) (within : i < length xs) (is : x ≡ get_or xs i x) where
  pub map-one_more : map f (take (i + 1) xs) ≡ map f (take i xs) ++ f x ∷ []
  map-one_more = ap (map f) (one_more xs i x within is) ∙ map-append f (take i xs) (x ∷ [])

  pub map-split : map f xs ≡ map f (take i xs) ++ f x ∷ map f (drop (suc i) xs)
  map-split = ap (map f) (split_at xs i x within is) ∙ map-append f (take i xs) (x ∷ drop (suc i) xs)

-- what is picked from one element more
module _ {X Y : Type 0} (pick : X → Option Y) (xs : List X) (i : ℕ) (x : X) (within : i < length xs) (is : x ≡ get_or xs i x) where
  pub picked_more : (y : Y) → pick x ≡ Some y → filter_map pick (take (i + 1) xs) ≡ filter_map pick (take i xs) ++ y ∷ []
  picked_more y some =
      ap (filter_map pick) (one_more xs i x within is) ∙ filter_map-append pick (take i xs) (x ∷ [])
      ∙ ap (λ o. filter_map pick (take i xs) ++ cons_option o []) some

  pub picked_none : pick x ≡ None → filter_map pick (take (i + 1) xs) ≡ filter_map pick (take i xs)
  picked_none none =
      ap (filter_map pick) (one_more xs i x within is) ∙ filter_map-append pick (take i xs) (x ∷ [])
      ∙ ap (λ o. filter_map pick (take i xs) ++ cons_option o []) none ∙ append-nil (filter_map pick (take i xs))
