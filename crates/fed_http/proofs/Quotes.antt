-- Values between quotes: where they end, and what they stand for.
use Rattle.std.proofs.Common.{◌≡◌, ◌≢◌, ℕ, suc, ◌+◌, ◌<◌, ◌≤◌, ◌==◌, Bool, true, false, cond, List, [], ◌∷◌, ◌++◌, length, take, drop, get_or, Option, Some, None, option_map, refl, sym, ap, subst, ◌∙◌, inl, inr, arith, add-one, drop-cons, IsUtf8}
use Rattle.std.proofs.lemmas.Bool.{false≢true}
use Rattle.std.proofs.lemmas.Str.{encode_ascii, inside_one, length-encode, len_utf8_bounds}
use Rattle.std.specs.Str.{all_scalars}
use lib.Utf8.{encode, encodes, scalar}
use Rattle.fed_http.proofs.Runs.{front, back}
use Rattle.std.proofs.lemmas.List.{drop_all, append-nil, drop_more, take-append-drop}
use Rattle.std.proofs.lemmas.Bool.Decides.{nat_tests}
use Rattle.fed_http.specs.XMatrix.{IsEscaped}
use Rattle.fed_http.specs.XMatrixParts.{quote_index, unescaped}

-- the quote stands `count` characters further on
abbrev pub index_from : ℕ → Bool → List ℕ → Option ℕ
index_from count escaped text = option_map (λ n. count + n) (quote_index escaped text)

map_map : (count : ℕ) (found : Option ℕ) → option_map (λ n. count + n) (option_map suc found) ≡ option_map (λ n. count + 1 + n) found
map_map count None = refl
map_map count (Some n) = ap Some (omega arith)

from_zero : (found : Option ℕ) → found ≡ option_map (λ n. 0 + n) found
from_zero None = refl
from_zero (Some n) = ap Some (omega arith)

pub index_from-zero : (text : List ℕ) → quote_index false text ≡ index_from 0 false text
index_from-zero text = from_zero (quote_index false text)

-- one step of the search
pub step_escaped : (text : List ℕ) (i : ℕ) → i < length text → index_from i true (drop i text) ≡ index_from (i + 1) false (drop (i + 1) text)
step_escaped text i h = ap (index_from i true) (drop-cons text i 0 h) ∙ map_map i (quote_index false (drop (suc i) text)) ∙ ap (λ k. index_from (i + 1) false (drop k text)) (sym (add-one i))

plain_step : (b : Bool) (i : ℕ) (found : Option ℕ) → b ≡ false → option_map (λ n. i + n) (cond b (Some 0) (option_map suc found)) ≡ option_map (λ n. i + 1 + n) found
plain_step true i found h = absurd (cc)
plain_step false i found h = map_map i found

pub step_plain : (text : List ℕ) (i : ℕ) → i < length text → get_or text i 0 ≢ 34 → index_from i false (drop i text) ≡ index_from (i + 1) (get_or text i 0 == 92) (drop (i + 1) text)
step_plain text i h other =
    ap (index_from i false) (drop-cons text i 0 h)
    ∙ plain_step (get_or text i 0 == 34) i (quote_index (get_or text i 0 == 92) (drop (suc i) text)) (grind (arith, nat_tests))
    ∙ ap (λ k. index_from (i + 1) (get_or text i 0 == 92) (drop k text)) (sym (add-one i))

at_quote : (b : Bool) (i : ℕ) (found : Option ℕ) → b ≡ true → option_map (λ n. i + n) (cond b (Some 0) found) ≡ Some i
at_quote true i found h = ap Some (omega arith)
at_quote false i found h = absurd (cc)

pub step_quote : (text : List ℕ) (i : ℕ) → i < length text → get_or text i 0 ≡ 34 → index_from i false (drop i text) ≡ Some i
step_quote text i h is = ap (index_from i false) (drop-cons text i 0 h) ∙ at_quote (get_or text i 0 == 34) i _ (grind (arith, nat_tests))

pub step_end : (text : List ℕ) (i : ℕ) (escaped : Bool) → length text ≤ i → index_from i escaped (drop i text) ≡ None
step_end text i escaped h = ap (index_from i escaped) (drop_all i text h)

-- ---- what is written between quotes

ends_there : (b : Bool) (n : ℕ) (found : Option ℕ) → b ≡ false → found ≡ Some n → cond b (Some 0) (option_map suc found) ≡ Some (suc n)
ends_there true n found h e = absurd (cc)
ends_there false n found h e = ap (option_map suc) e

not_equal : (c k : ℕ) → c ≢ k → (c == k) ≡ false
not_equal c k h = grind (arith, nat_tests)

-- the search ends at the quote behind it
pub index-escaped : (value inner rest : List ℕ) → IsEscaped value inner → quote_index false (inner ++ 34 ∷ rest) ≡ Some (length inner)
index-escaped [] inner rest e = ap (λ t. quote_index false (t ++ 34 ∷ rest)) e ∙ ap (λ t. Some (length t)) (sym e)
index-escaped (c ∷ value) inner rest (others, is, inl e) =
    ap (λ t. quote_index false (t ++ 34 ∷ rest)) e ∙ ap (λ found. option_map suc (option_map suc found)) (index-escaped value others rest is) ∙ ap (λ t. Some (length t)) (sym e)
index-escaped (c ∷ value) inner rest (others, is, inr (quote, backslash, e)) =
    ap (λ t. quote_index false (t ++ 34 ∷ rest)) e
    ∙ ends_there (c == 34) (length others) (quote_index (c == 92) (others ++ 34 ∷ rest)) (not_equal c 34 quote) (ap (λ b. quote_index b (others ++ 34 ∷ rest)) (not_equal c 92 backslash) ∙ index-escaped value others rest is)
    ∙ ap (λ t. Some (length t)) (sym e)

stands : (b : Bool) (c : ℕ) (xs ys : List ℕ) → b ≡ false → cond b xs (c ∷ ys) ≡ c ∷ ys
stands true c xs ys h = absurd (cc)
stands false c xs ys h = refl

-- and it stands for the value
pub unescaped-escaped : (value inner : List ℕ) → IsEscaped value inner → unescaped false inner ≡ value
unescaped-escaped [] inner e = ap (unescaped false) e
unescaped-escaped (c ∷ value) inner (others, is, inl e) = ap (unescaped false) e ∙ ap (λ t. c ∷ t) (unescaped-escaped value others is)
unescaped-escaped (c ∷ value) inner (others, is, inr (quote, backslash, e)) =
    ap (unescaped false) e ∙ stands (c == 92) c (unescaped true others) (unescaped false others) (not_equal c 92 backslash) ∙ ap (λ t. c ∷ t) (unescaped-escaped value others is)

one_less : (found : Option ℕ) (n : ℕ) → option_map suc found ≡ Some (suc n) → found ≡ Some n
one_less None n h = absurd (cc)
one_less (Some m) n h = cc

at_least_one : (found : Option ℕ) → option_map suc found ≡ Some 0 → ⊥
at_least_one None h = absurd (cc)
at_least_one (Some m) h = absurd (cc)

-- what the search passes is written between quotes, behind a backslash its first character is any
abbrev Fits : Bool → List ℕ → Type 0
Fits false inner = IsEscaped (unescaped false inner) inner
Fits true [] = ⊥
Fits true (c ∷ inner) = IsEscaped (unescaped false inner) inner

behind_slash : (x : ℕ) (inner : List ℕ) → x ≡ 92 → Fits true inner → IsEscaped (unescaped true inner) (x ∷ inner)
behind_slash x [] is h = absurd h
behind_slash x (c ∷ inner) is h = (inner, h, inl (ap (λ b. b ∷ c ∷ inner) is))

fits : (escaped : Bool) (inner rest : List ℕ) → quote_index escaped (inner ++ 34 ∷ rest) ≡ Some (length inner) → Fits escaped inner
fits true [] rest h = at_least_one (quote_index false rest) h
fits true (c ∷ inner) rest h = fits false inner rest (one_less _ _ h)
fits false [] rest h = refl
fits false (x ∷ inner) rest h = by (λ e. fits true inner rest e) (λ e. fits false inner rest e) (x == 34) refl (x == 92) refl h
  where
    by : (quote_index true (inner ++ 34 ∷ rest) ≡ Some (length inner) → Fits true inner) → (quote_index false (inner ++ 34 ∷ rest) ≡ Some (length inner) → Fits false inner) → (q : Bool) → (x == 34) ≡ q → (s : Bool) → (x == 92) ≡ s → cond q (Some 0) (option_map suc (quote_index s (inner ++ 34 ∷ rest))) ≡ Some (suc (length inner)) → IsEscaped (cond s (unescaped true inner) (x ∷ unescaped false inner)) (x ∷ inner)
    by behind others true is s slash e = absurd (cc)
    by behind others false is true slash e = behind_slash x inner (grind (arith, nat_tests)) (behind (one_less _ _ e))
    by behind others false is false slash e = (inner, others (one_less _ _ e), inr (grind (arith, nat_tests), grind (arith, nat_tests), refl))

pub escaped-index : (inner rest : List ℕ) → quote_index false (inner ++ 34 ∷ rest) ≡ Some (length inner) → IsEscaped (unescaped false inner) inner
escaped-index = fits false

-- ---- what is written stays a text

abbrev Clear : List ℕ → Type 0
Clear xs = (k : ℕ) → k < length xs → get_or xs k 0 ≢ 92

unescaped-clear : (xs ys : List ℕ) → Clear xs → unescaped false (xs ++ ys) ≡ xs ++ unescaped false ys
unescaped-clear [] ys clear = refl
unescaped-clear (x ∷ xs) ys clear =
    stands (x == 92) x (unescaped true (xs ++ ys)) (unescaped false (xs ++ ys)) (not_equal x 92 (clear 0 (omega arith)))
    ∙ ap (λ t. x ∷ t) (unescaped-clear xs ys (λ k h. clear (suc k) (omega arith)))

-- a first character that is taken as it is
taken-clear : (xs ys : List ℕ) → 0 < length xs → ((k : ℕ) → suc k < length xs → get_or xs (suc k) 0 ≢ 92) → unescaped true (xs ++ ys) ≡ xs ++ unescaped false ys
taken-clear [] ys some clear = absurd (omega arith)
taken-clear (x ∷ xs) ys some clear = ap (λ t. x ∷ t) (unescaped-clear xs ys (λ k h. clear k (omega arith)))

one_character : (c k : ℕ) → k < length (encode c) → get_or (encode c) k 0 ≡ 92 → c ≡ 92
one_character c k h is = inside_one c [] (encode c) k (sym (append-nil (encode c))) h (omega (arith, is)) ∙ is

-- no part of a character but its first byte is a backslash
behind_first : (c k : ℕ) → suc k < length (encode c) → get_or (encode c) (suc k) 0 ≢ 92
behind_first c k h is =
    let same = one_character c (suc k) h is in
    let one : length (encode c) ≡ 1 = ap length (encode_ascii c (omega (arith, same))) in
    absurd (omega (arith, one, h))

some_bytes : (c : ℕ) → 0 < length (encode c)
some_bytes c = let size = length-encode c in let bounds = len_utf8_bounds c in omega (arith, size, bounds.0)

pub unescaped-encodes : (escaped : Bool) (cs : List ℕ) → unescaped escaped (encodes cs) ≡ encodes (unescaped escaped cs)
unescaped-encodes true [] = refl
unescaped-encodes false [] = refl
unescaped-encodes true (c ∷ cs) = taken-clear (encode c) (encodes cs) (some_bytes c) (behind_first c) ∙ ap (λ t. encode c ++ t) (unescaped-encodes false cs)
unescaped-encodes false (c ∷ cs) = by (unescaped-encodes true cs) (unescaped-encodes false cs) (c == 92) refl
  where
    by : unescaped true (encodes cs) ≡ encodes (unescaped true cs) → unescaped false (encodes cs) ≡ encodes (unescaped false cs) → (b : Bool) → (c == 92) ≡ b → unescaped false (encode c ++ encodes cs) ≡ encodes (cond b (unescaped true cs) (c ∷ unescaped false cs))
    by behind others true is =
        let same : c ≡ 92 = grind (arith, nat_tests) in
        ap (λ t. unescaped false (t ++ encodes cs)) (encode_ascii c (omega arith) ∙ ap (λ x. x ∷ []) same) ∙ behind
    by behind others false is = unescaped-clear (encode c) (encodes cs) (λ k h at. false≢true (sym is ∙ ap (λ x. x == 92) (one_character c k h at))) ∙ ap (λ t. encode c ++ t) others

scalars-unescaped : (escaped : Bool) (cs : List ℕ) → all_scalars cs ≡ true → all_scalars (unescaped escaped cs) ≡ true
scalars-unescaped true [] h = refl
scalars-unescaped false [] h = refl
scalars-unescaped true (c ∷ cs) h = rw (front (scalar c) (all_scalars cs) h) (scalars-unescaped false cs (back (scalar c) (all_scalars cs) h))
scalars-unescaped false (c ∷ cs) h = by (scalars-unescaped true cs (back (scalar c) (all_scalars cs) h)) (scalars-unescaped false cs (back (scalar c) (all_scalars cs) h)) (c == 92)
  where
    by : all_scalars (unescaped true cs) ≡ true → all_scalars (unescaped false cs) ≡ true → (b : Bool) → all_scalars (cond b (unescaped true cs) (c ∷ unescaped false cs)) ≡ true
    by behind others true = behind
    by behind others false = rw (front (scalar c) (all_scalars cs) h) others

pub utf8-unescaped : (text : List ℕ) → IsUtf8 text → IsUtf8 (unescaped false text)
utf8-unescaped text (cs, (scalars, is)) = (unescaped false cs, (scalars-unescaped false cs scalars, sym (unescaped-encodes false cs) ∙ ap (unescaped false) is))

-- ---- where the quote stands

pub record IsAt (text : List ℕ) (n : ℕ) : Type 0 where
  pub within : n < length text
  pub quote : get_or text n 0 ≡ 34

further : (c : ℕ) (text : List ℕ) (found : Option ℕ) (n : ℕ) → ((m : ℕ) → found ≡ Some m → IsAt text m) → option_map suc found ≡ Some n → IsAt (c ∷ text) n
further c text None n at h = absurd (cc)
further c text (Some m) n at h =
    let next : suc m ≡ n = cc in
    let is = at m refl in
    let there : IsAt (c ∷ text) (suc m) = record { within = omega (arith, is.within); quote = is.quote } in
    subst (IsAt (c ∷ text)) next there

pub quote_at : (escaped : Bool) (text : List ℕ) (n : ℕ) → quote_index escaped text ≡ Some n → IsAt text n
quote_at true [] n h = absurd (cc)
quote_at false [] n h = absurd (cc)
quote_at true (c ∷ text) n h = further c text (quote_index false text) n (quote_at false text) h
quote_at false (c ∷ text) n h = by (quote_at true text) (quote_at false text) (c == 34) refl (c == 92) h
  where
    by : ((m : ℕ) → quote_index true text ≡ Some m → IsAt text m) → ((m : ℕ) → quote_index false text ≡ Some m → IsAt text m)
        → (q : Bool) → (c == 34) ≡ q → (s : Bool) → cond q (Some 0) (option_map suc (quote_index s text)) ≡ Some n → IsAt (c ∷ text) n
    by behind others true is s e =
        let first : 0 ≡ n = cc in
        let there : IsAt (c ∷ text) 0 = record { within = omega arith; quote = grind (arith, nat_tests) } in
        subst (IsAt (c ∷ text)) first there
    by behind others false is true e = further c text (quote_index true text) n behind e
    by behind others false is false e = further c text (quote_index false text) n others e

-- a text is cut there
pub cut_at : (text : List ℕ) (n : ℕ) → IsAt text n → text ≡ take n text ++ 34 ∷ drop (n + 1) text
cut_at text n is = sym (take-append-drop n text) ∙ ap (λ t. take n text ++ t) (drop_more text n 0 is.within ∙ ap (λ c. c ∷ drop (n + 1) text) is.quote)
