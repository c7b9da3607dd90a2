-- The values of the fields of one name, and the number that digits write.
use Rattle.std.proofs.Common.{arith, ◌≡◌, ℕ, ◌+◌, ◌-◌, ◌*◌, ◌^◌, ◌<◌, ◌≤◌, Bool, true, false, ◌&&◌, List, [], ◌∷◌, ◌++◌, length, take, drop, map, slice_index_or, refl, sym, ap, subst, ◌∙◌, Option, Some, None, Bor, zero, suc, length-take-le}
use Rattle.std.specs.Prelude.{filter, cond, is_some}
use Rattle.std.specs.Str.{str_eq_ignore_ascii_case, str_to_ascii_lowercase}
use Rattle.std.specs.Char.{is_ascii_digit, digit_value, to_ascii_lowercase}
use Rattle.std.specs.List.{list_all}
use Rattle.std.specs.Str.Parse.{digits_value, AllDigits}
use Rattle.std.proofs.lemmas.Bool.{false≢true}
use Rattle.std.proofs.lemmas.Bool.Decides.{nat_tests}
use Rattle.std.proofs.lemmas.List.{drop_more}
use Rattle.std.proofs.lemmas.Slice.Eq.{bytes_eq-Decides}
use Rattle.httparse.specs.Spans.{span_bytes, header_bytes}
use Rattle.httparse.specs.declared.spans.HeaderSpan.{HeaderSpan}
use Rattle.fed_http.specs.Framing.{values_of}
use Rattle.std.proofs.lemmas.Int.Digits.{digits_value-lt, digits_value_more}
use Rattle.std.proofs.Math.Nat.{pow-le-pow_right}

-- ---- values

-- what is read past the end
abbrev pub nowhere : HeaderSpan
nowhere = record { name = record { start = 0; end = 0 }; value = record { start = 0; end = 0 } }

abbrev pub found_list : Option (Bor (List ℕ)) → List (List ℕ)
found_list None = []
found_list (Some v) = v.now ∷ []

first_field : (bytes : List ℕ) (fields : List HeaderSpan) (i : ℕ) → i < length fields
    → map (header_bytes bytes) (drop i fields) ≡ header_bytes bytes (slice_index_or fields i nowhere) ∷ map (header_bytes bytes) (drop (i + 1) fields)
first_field bytes fields i within = ap (map (header_bytes bytes)) (drop_more fields i nowhere within)

pub hit : (name : List ℕ) (x : List ℕ × List ℕ) (xs : List (List ℕ × List ℕ)) → str_eq_ignore_ascii_case x.0 name ≡ true → values_of name (x ∷ xs) ≡ x.1 ∷ values_of name xs
hit name x xs h = let rest = filter (λ (f : List ℕ × List ℕ). str_eq_ignore_ascii_case f.0 name) xs in ap (λ b. map (λ (f : List ℕ × List ℕ). f.1) (cond b (x ∷ rest) rest)) h

pub miss : (name : List ℕ) (x : List ℕ × List ℕ) (xs : List (List ℕ × List ℕ)) → str_eq_ignore_ascii_case x.0 name ≡ false → values_of name (x ∷ xs) ≡ values_of name xs
miss name x xs h = let rest = filter (λ (f : List ℕ × List ℕ). str_eq_ignore_ascii_case f.0 name) xs in ap (λ b. map (λ (f : List ℕ × List ℕ). f.1) (cond b (x ∷ rest) rest)) h

pub same_text : (a b : List ℕ) → map to_ascii_lowercase a ≡ map to_ascii_lowercase b → str_eq_ignore_ascii_case a b ≡ true
same_text a b h = (bytes_eq-Decides (str_to_ascii_lowercase a) (str_to_ascii_lowercase b)).1 h

pub other_text : (a b : List ℕ) → ¬ (map to_ascii_lowercase a ≡ map to_ascii_lowercase b) → str_eq_ignore_ascii_case a b ≡ false
other_text a b h = not_true (str_eq_ignore_ascii_case a b) (λ t. h ((bytes_eq-Decides (str_to_ascii_lowercase a) (str_to_ascii_lowercase b)).0 t))
  where
    not_true : (b : Bool) → ¬ (b ≡ true) → b ≡ false
    not_true true h = absurd (h refl)
    not_true false h = refl

-- the field at i has the name, or has not
pub named : (bytes name n : List ℕ) (fields : List HeaderSpan) (i : ℕ) → i < length fields → n ≡ span_bytes bytes (slice_index_or fields i nowhere).name → map to_ascii_lowercase n ≡ map to_ascii_lowercase name
    → values_of name (map (header_bytes bytes) (drop i fields)) ≡ span_bytes bytes (slice_index_or fields i nowhere).value ∷ values_of name (map (header_bytes bytes) (drop (i + 1) fields))
named bytes name n fields i within is same =
    let f = header_bytes bytes (slice_index_or fields i nowhere) in
    ap (values_of name) (first_field bytes fields i within)
    ∙ hit name f (map (header_bytes bytes) (drop (i + 1) fields)) (same_text f.0 name (ap (map to_ascii_lowercase) (sym is) ∙ same))

pub unnamed : (bytes name n : List ℕ) (fields : List HeaderSpan) (i : ℕ) → i < length fields → n ≡ span_bytes bytes (slice_index_or fields i nowhere).name → ¬ (map to_ascii_lowercase n ≡ map to_ascii_lowercase name)
    → values_of name (map (header_bytes bytes) (drop i fields)) ≡ values_of name (map (header_bytes bytes) (drop (i + 1) fields))
unnamed bytes name n fields i within is other =
    let f = header_bytes bytes (slice_index_or fields i nowhere) in
    ap (values_of name) (first_field bytes fields i within)
    ∙ miss name f (map (header_bytes bytes) (drop (i + 1) fields)) (other_text f.0 name (λ same. other (ap (map to_ascii_lowercase) is ∙ same)))

-- the list of what was found, with one more value, or as it is
pub one_more : (found after : Option (Bor (List ℕ))) (v : Bor (List ℕ)) (value : List ℕ) (rest more all : List (List ℕ)) → is_some found ≡ false → after ≡ Some v → v.now ≡ value → rest ≡ value ∷ more
    → found_list found ++ rest ≡ all → found_list after ++ more ≡ all
one_more None after v value rest more all none is now hits e = ap (λ o. found_list o ++ more) is ∙ ap (λ x. x ∷ more) now ∙ sym hits ∙ e
one_more (Some u) after v value rest more all none is now hits e = absurd (false≢true (sym none))

pub as_before : (found after : Option (Bor (List ℕ))) (rest more all : List (List ℕ)) → after ≡ found → rest ≡ more → found_list found ++ rest ≡ all → found_list after ++ more ≡ all
as_before found after rest more all is same e = ap (λ o. found_list o ++ more) is ∙ ap (λ v. found_list found ++ v) (sym same) ∙ e

pub two_found : (found : Option (Bor (List ℕ))) (value : List ℕ) (rest more all : List (List ℕ)) → is_some found ≡ true → rest ≡ value ∷ more → found_list found ++ rest ≡ all
    → (a : List ℕ) × (b : List ℕ) × (others : List (List ℕ)) × (all ≡ a ∷ b ∷ others)
two_found None value rest more all some hits e = absurd (false≢true some)
two_found (Some v) value rest more all some hits e = (v.now, value, more, sym e ∙ ap (λ r. v.now ∷ r) hits)

-- ---- numbers

and_left : (a b : Bool) → (a && b) ≡ true → a ≡ true
and_left true b h = refl
and_left false b h = h

and_right : (a b : Bool) → (a && b) ≡ true → b ≡ true
and_right true b h = h
and_right false b h = absurd (false≢true h)

digit_below : (c : ℕ) → is_ascii_digit c ≡ true → (digit_value c < 10) × (digit_value c ≡ c - 48) × (48 ≤ c) × (c ≤ 57)
digit_below c h = (grind (arith, nat_tests), grind (arith, nat_tests), grind (arith, nat_tests), grind (arith, nat_tests))

all_digits : (n : ℕ) (ds : List ℕ) → list_all is_ascii_digit ds ≡ true → AllDigits 10 (take n ds)
all_digits zero ds h = tt
all_digits (suc n) [] h = tt
all_digits (suc n) (d ∷ ds) h = ((digit_below d (and_left (is_ascii_digit d) (list_all is_ascii_digit ds) h)).0, all_digits n ds (and_right (is_ascii_digit d) (list_all is_ascii_digit ds) h))

digit_at : (ds : List ℕ) (i : ℕ) → i < length ds → list_all is_ascii_digit ds ≡ true → is_ascii_digit (slice_index_or ds i 0) ≡ true
digit_at [] i within h = absurd (omega arith)
digit_at (d ∷ ds) zero within h = and_left (is_ascii_digit d) (list_all is_ascii_digit ds) h
digit_at (d ∷ ds) (suc i) within h = digit_at ds i (omega arith) (and_right (is_ascii_digit d) (list_all is_ascii_digit ds) h)

pub record NextDigit (number digit : ℕ) (next : ℕ) : Type 0 where
  pub is : number * 10 + (digit - 48) ≡ next
  pub fits : next < 10 ^ 19
  pub low : 48 ≤ digit
  pub high : digit ≤ 57

pub next_digit : (ds : List ℕ) (i number : ℕ) → i < length ds → length ds ≤ 19 → list_all is_ascii_digit ds ≡ true → number ≡ digits_value 10 (take i ds)
    → NextDigit number (slice_index_or ds i 0) (digits_value 10 (take (i + 1) ds))
next_digit ds i number within few all is =
    let d = slice_index_or ds i 0 in
    let known = digit_below d (digit_at ds i within all) in
    let step = digits_value_more 10 ds i within in
    let below = digits_value-lt 10 (take (i + 1) ds) (all_digits (i + 1) ds all) in
    let len : length (take (i + 1) ds) ≡ i + 1 = length-take-le (i + 1) ds (omega arith) in
    let ten : 0 < 10 = omega arith in
    let small : i + 1 ≤ 19 = omega arith in
    let power : 10 ^ (i + 1) ≤ 10 ^ 19 = pow-le-pow_right ten small in
    let bound : digits_value 10 (take (i + 1) ds) < 10 ^ (i + 1) = subst (λ n. digits_value 10 (take (i + 1) ds) < 10 ^ n) len below in
    record {
      is = ap (λ n. n * 10 + (d - 48)) is ∙ ap (λ n. digits_value 10 (take i ds) * 10 + n) (sym known.1) ∙ sym step;
      fits = omega (arith, bound, power);
      low = known.2;
      high = known.3;
    }
