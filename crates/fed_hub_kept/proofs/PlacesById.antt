-- What a map of places has for an id, where of several with one id the first counts.
use Rattle.std.proofs.Common.{arith, ◌≡◌, ℕ, suc, ◌+◌, ◌<◌, List, [], ◌∷◌, ◌++◌, Bool, true, false, cond, bytes_eq, is_some, Option, Some, None, String, Global, length, map, take, get_or, string_bytes, refl, sym, ap, ◌∙◌}
use Rattle.std.specs.List.{position_from}
use Rattle.std.specs.Option.{option_or}
use Rattle.std.proofs.lemmas.Iterator.Adapters.{position_from-zero}
use Rattle.std.proofs.lemmas.List.{map-append, length-map, take_more, length-take}
use Rattle.std.proofs.lemmas.Slice.Eq.{bytes_eq-Decides}
use Rattle.fed_dest.specs.List.{place_of}

-- one name more
from_more : {X : Type 0} (test : X → Bool) (n : ℕ) (xs : List X) (x : X) → position_from test n (xs ++ x ∷ []) ≡ option_or (position_from test n xs) (cond (test x) (Some (n + length xs)) None)
from_more test n [] x = ap (λ k. cond (test x) (Some k) None) (omega arith)
from_more test n (y ∷ xs) x = by (test y) (from_more test (n + 1) xs x ∙ ap (λ k. option_or (position_from test (n + 1) xs) (cond (test x) (Some k) None)) (omega arith))
  where
    by : (b : Bool) → position_from test (n + 1) (xs ++ x ∷ []) ≡ option_or (position_from test (n + 1) xs) (cond (test x) (Some (n + suc (length xs))) None)
        → cond b (Some n) (position_from test (n + 1) (xs ++ x ∷ [])) ≡ option_or (cond b (Some n) (position_from test (n + 1) xs)) (cond (test x) (Some (n + suc (length xs))) None)
    by true later = refl
    by false later = later

place_more : (names : List (List ℕ)) (name id : List ℕ) → place_of (names ++ name ∷ []) id ≡ option_or (place_of names id) (cond (bytes_eq name id) (Some (length names)) None)
place_more names name id =
    let test : List ℕ → Bool = λ other. bytes_eq other id in
    position_from-zero test (names ++ name ∷ []) ∙ from_more test 0 names name ∙ ap (λ n. option_or (position_from test 0 names) (cond (bytes_eq name id) (Some n) None)) (omega arith)
    ∙ ap (λ o. option_or o (cond (bytes_eq name id) (Some (length names)) None)) (sym (position_from-zero test names))

new_at : (is_its : Bool) (found : Option ℕ) (n : ℕ) → (is_its ≡ true → is_some found ≡ false) → cond is_its (Some n) found ≡ option_or found (cond is_its (Some n) None)
new_at true None n none = refl
new_at true (Some other) n none = let never = none refl in absurd (cc)
new_at false None n none = refl
new_at false (Some other) n none = refl

old_at : (is_its : Bool) (found : Option ℕ) (n : ℕ) → (is_its ≡ true → is_some found ≡ true) → found ≡ option_or found (cond is_its (Some n) None)
old_at true None n some = let never = some refl in absurd (cc)
old_at true (Some other) n some = refl
old_at false None n some = refl
old_at false (Some other) n some = refl

module _ (known : List (String Global)) (i : ℕ) (name : String Global) (within : i < length known) (is : name ≡ get_or known i name) (found : List ℕ → Option ℕ)
    (so_far : (id : List ℕ) → found id ≡ place_of (map string_bytes (take i known)) id) where
  abbrev key : List ℕ
  key = string_bytes name

  one_more : (id : List ℕ) → option_or (found id) (cond (bytes_eq key id) (Some i) None) ≡ place_of (map string_bytes (take (i + 1) known)) id
  one_more id =
      let names = map string_bytes (take i known) in
      let count : i ≡ length names = omega (arith, length-map (take i known) string_bytes, length-take i known) in
      ap (λ o. option_or o (cond (bytes_eq key id) (Some i) None)) (so_far id)
      ∙ ap (λ n. option_or (place_of names id) (cond (bytes_eq key id) (Some n) None)) count
      ∙ sym (place_more names key id)
      ∙ ap (λ xs. place_of xs id) (sym (map-append string_bytes (take i known) (name ∷ [])))
      ∙ ap (λ x. place_of (map string_bytes (take i known ++ x ∷ [])) id) is
      ∙ ap (λ xs. place_of (map string_bytes xs) id) (sym (take_more known i name within))

  at_its : (b : Bool) (id : List ℕ) → is_some (found key) ≡ b → bytes_eq key id ≡ true → is_some (found id) ≡ b
  at_its b id here same = ap (λ k. is_some (found k)) (sym ((bytes_eq-Decides key id).0 same)) ∙ here

  -- it is the first of its id
  pub first_of_id : (text : List ℕ) (after : Option ℕ) (id : List ℕ) → text ≡ key → is_some (found key) ≡ false → after ≡ cond (bytes_eq text id) (Some i) (found id)
      → after ≡ place_of (map string_bytes (take (i + 1) known)) id
  first_of_id text after id its none put =
      put ∙ ap (λ t. cond (bytes_eq t id) (Some i) (found id)) its ∙ new_at (bytes_eq key id) (found id) i (at_its false id none) ∙ one_more id

  -- another one comes before it
  pub later_of_id : is_some (found key) ≡ true → (id : List ℕ) → found id ≡ place_of (map string_bytes (take (i + 1) known)) id
  later_of_id some id = old_at (bytes_eq key id) (found id) i (at_its true id some) ∙ one_more id
