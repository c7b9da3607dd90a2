-- What is found in the first bytes stands at the front of all of them.
use Rattle.std.proofs.Common.{arith, ◌≡◌, ℕ, ◌+◌, ◌-◌, ◌<◌, ◌≤◌, List, [], ◌∷◌, ◌++◌, length, take, drop, refl, sym, ap, ◌∙◌, append_assoc, length-append}
use Rattle.std.proofs.lemmas.List.{take-append-drop, take-append-le, take_all, take_min, length-take, length-drop}
use Rattle.std.proofs.Math.Seq.{drop-append_seam, take-append_seam, take-append-add}
use Rattle.std.specs.Prelude.{min}
use Rattle.std.proofs.Math.Nat.{min-le_left, min_comm}

-- two lists of one length at the front
pub split_same : (a b x y : List ℕ) → length a ≡ length b → a ++ x ≡ b ++ y → (a ≡ b) × (x ≡ y)
split_same [] [] x y len e = (refl, e)
split_same [] (c ∷ b) x y len e = absurd (omega arith)
split_same (c ∷ a) [] x y len e = absurd (omega arith)
split_same (c ∷ a) (d ∷ b) x y len e =
    let same = split_same a b x y (omega arith) (cc) in
    (cc (same.0), same.1)

-- what a list leaves behind its front
pub behind : (xs a r : List ℕ) → xs ≡ a ++ r → drop (length a) xs ≡ r
behind xs a r e = ap (drop (length a)) e ∙ drop-append_seam a r

pub front_of : (xs a r : List ℕ) → xs ≡ a ++ r → take (length a) xs ≡ a
front_of xs a r e = ap (take (length a)) e ∙ take-append_seam a r

pub fits_in : (xs a r : List ℕ) → xs ≡ a ++ r → length a ≤ length xs
fits_in xs a r e = omega (arith, ap length e, length-append a r)

pub rejoined : (n : ℕ) (xs more : List ℕ) → xs ++ more ≡ take n xs ++ (drop n xs ++ more)
rejoined n xs more = ap (λ v. v ++ more) (sym (take-append-drop n xs)) ∙ append_assoc (take n xs) (drop n xs) more

pub length-window : (n : ℕ) (xs : List ℕ) → length (take n xs) ≤ n
length-window n xs = omega (arith, length-take n xs, min-le_left n (length xs))

-- what begins the first n bytes begins them all, and has at most n
pub grown : (n : ℕ) (xs a r : List ℕ) → take n xs ≡ a ++ r → xs ≡ a ++ (r ++ drop n xs)
grown n xs a r e = sym (take-append-drop n xs) ∙ ap (λ v. v ++ drop n xs) e ∙ append_assoc a r (drop n xs)

pub grown_at : (n len : ℕ) (xs a r : List ℕ) → take n xs ≡ a ++ r → len ≡ length a → xs ≡ a ++ drop len xs
grown_at n len xs a r e is = let all = grown n xs a r e in all ∙ ap (λ v. a ++ v) (sym (behind xs a (r ++ drop n xs) all) ∙ ap (λ k. drop k xs) (sym is))

pub short_of : (n : ℕ) (xs a r : List ℕ) → take n xs ≡ a ++ r → length a ≤ n
short_of n xs a r e = omega (arith, length-window n xs, fits_in (take n xs) a r e)

-- and a front of at most n begins the first n
pub shrunk : (n : ℕ) (xs a r : List ℕ) → xs ≡ a ++ r → length a ≤ n → take n xs ≡ a ++ take (n - length a) r
shrunk n xs a r e short =
    let sum : n ≡ length a + (n - length a) = omega arith in
    ap (take n) e ∙ ap (λ k. take k (a ++ r)) sum ∙ take-append-add a r (n - length a)

-- also where more bytes follow
pub shrunk_more : (n : ℕ) (xs more a r : List ℕ) → n ≤ length xs → xs ++ more ≡ a ++ r → length a ≤ n → take n xs ≡ a ++ take (n - length a) r
shrunk_more n xs more a r full e short = sym (take-append-le n xs more full) ∙ shrunk n (xs ++ more) a r e short

pub window_is : (xs : List ℕ) (n : ℕ) → take (min (length xs) n) xs ≡ take n xs
window_is xs n = ap (λ k. take k xs) (min_comm (length xs) n) ∙ take_min n xs

pub all_of_few : (n : ℕ) (xs : List ℕ) → length xs < n → take n xs ≡ xs
all_of_few n xs few = take_all n xs (omega arith)

-- where the length of the front is known
pub at_len : (xs a r : List ℕ) (len : ℕ) → xs ≡ a ++ r → len ≡ length a → xs ≡ a ++ drop len xs
at_len xs a r len e is = e ∙ ap (λ v. a ++ v) (sym (behind xs a r e) ∙ ap (λ k. drop k xs) (sym is))

-- a slice up to the end
pub to_end : (xs : List ℕ) (n : ℕ) → take (length xs - n) (drop n xs) ≡ drop n xs
to_end xs n = take_all (length xs - n) (drop n xs) (omega (arith, length-drop n xs))
