-- What is found by an id among one more, where of several with one id the first counts.
use Rattle.std.proofs.Common.{◌≡◌, ℕ, List, [], ◌∷◌, ◌++◌, Bool, true, false, cond, bytes_eq, is_some, option_map, Option, Some, None, Bor, find, refl, sym, ap, ◌∙◌}
use Rattle.std.specs.Option.{option_or}
use Rattle.std.proofs.lemmas.List.Folds.{find-append}
use Rattle.std.proofs.lemmas.Slice.Eq.{bytes_eq-Decides}

module _ {A : Type 0} where
  new_at : (is_its : Bool) (found : Option (Bor A)) (ref : Bor A) → (is_its ≡ true → is_some found ≡ false)
      → option_map (λ r. r.now) (cond is_its (Some ref) found) ≡ option_or (option_map (λ r. r.now) found) (cond is_its (Some ref.now) None)
  new_at true None ref none = refl
  new_at true (Some other) ref none = let never = none refl in absurd (cc)
  new_at false None ref none = refl
  new_at false (Some other) ref none = refl

  old_at : (is_its : Bool) (found : Option (Bor A)) (x : A) → (is_its ≡ true → is_some found ≡ true)
      → option_map (λ r. r.now) found ≡ option_or (option_map (λ r. r.now) found) (cond is_its (Some x) None)
  old_at true None x some = let never = some refl in absurd (cc)
  old_at true (Some other) x some = refl
  old_at false None x some = refl
  old_at false (Some other) x some = refl

  module _ (id_of : A → List ℕ) (found : List ℕ → Option (Bor A)) (front : List A) (x : A)
      (so_far : (id : List ℕ) → option_map (λ r. r.now) (found id) ≡ find (λ y. bytes_eq (id_of y) id) front) where
    one_more : (id : List ℕ) → option_or (option_map (λ r. r.now) (found id)) (cond (bytes_eq (id_of x) id) (Some x) None) ≡ find (λ y. bytes_eq (id_of y) id) (front ++ x ∷ [])
    one_more id = ap (λ o. option_or o (cond (bytes_eq (id_of x) id) (Some x) None)) (so_far id) ∙ sym (find-append (λ y. bytes_eq (id_of y) id) front (x ∷ []))

    at_its : (b : Bool) (id : List ℕ) → is_some (found (id_of x)) ≡ b → bytes_eq (id_of x) id ≡ true → is_some (found id) ≡ b
    at_its b id here same = ap (λ i. is_some (found i)) (sym ((bytes_eq-Decides (id_of x) id).0 same)) ∙ here

    -- it is the first of its id
    pub first_of_id : (key : List ℕ) (ref : Bor A) (after : Option (Bor A)) (id : List ℕ) → key ≡ id_of x → ref.now ≡ x → is_some (found (id_of x)) ≡ false
        → after ≡ cond (bytes_eq key id) (Some ref) (found id) → option_map (λ r. r.now) after ≡ find (λ y. bytes_eq (id_of y) id) (front ++ x ∷ [])
    first_of_id key ref after id its same none is =
        ap (option_map (λ r. r.now)) (is ∙ ap (λ i. cond (bytes_eq i id) (Some ref) (found id)) its)
        ∙ new_at (bytes_eq (id_of x) id) (found id) ref (at_its false id none)
        ∙ ap (λ y. option_or (option_map (λ r. r.now) (found id)) (cond (bytes_eq (id_of x) id) (Some y) None)) same ∙ one_more id

    -- another one of its id comes before it
    pub later_of_id : is_some (found (id_of x)) ≡ true → (id : List ℕ) → option_map (λ r. r.now) (found id) ≡ find (λ y. bytes_eq (id_of y) id) (front ++ x ∷ [])
    later_of_id some id = old_at (bytes_eq (id_of x) id) (found id) x (at_its true id some) ∙ one_more id
