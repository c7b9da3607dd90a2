-- Where the first space of a text stands.
use Rattle.std.proofs.Common.{rules, ◌≡◌, ℕ, ◌==◌, ◌<◌, ◌≤◌, ◌^◌, List, [], ◌∷◌, Some, None, Result, Ok, Err, ap, sym, ◌∙◌, true, false, refl, nat_le, length, arith}
use Rattle.std.specs.List.{list_any, list_all, position_or_len, before_first, after_first}
use Rattle.std.specs.Str.{bytes_eq}
use Rattle.std.specs.Char.{is_ascii_digit}
use Rattle.std.specs.Str.Parse.{digits_value, ParsesUnsigned}
use Rattle.std.proofs.lemmas.Str.Parse.{IsNumeralModel, numerals_by_value, parse_digits, digits_value_short}
use Rattle.std.proofs.lemmas.List.Sums.{passes_at_first, fails_before_first}
use Rattle.std.proofs.lemmas.List.Folds.{list_any_none, list_any_at}
use Rattle.std.proofs.lemmas.Bool.{le-leb, eqb-true}
use Rattle.std.proofs.lemmas.Bool.Decides.{nat_tests}
use Rattle.fed_sim.specs.ScriptWords.{is_space, is_empty, is_led_by_word, first_word, only_word, number_of, state_key_of}

pub spaced : (text : List ℕ) → position_or_len is_space text < length text → list_any is_space text ≡ true
spaced text before = list_any_at is_space text (position_or_len is_space text) 0 before (passes_at_first is_space text 0 before)

pub unspaced : (text : List ℕ) → position_or_len is_space text ≡ length text → list_any is_space text ≡ false
unspaced text none = list_any_none is_space text (λ k d within. fails_before_first is_space text k d (omega (arith, none, within)))

-- a word and a space stand in front
pub word_led : (text front behind : List ℕ) → position_or_len is_space text < length text → front ≡ before_first is_space text → behind ≡ after_first is_space text → is_empty front ≡ false → first_word text ≡ Some (front, behind)
unfolding first_word
word_led text front behind within front_is behind_is some =
    let led : is_led_by_word text ≡ true = rw (spaced text within, ← front_is, some) refl in
    rw (led, front_is, behind_is) refl

pub none_led : (text : List ℕ) → list_any is_space text ≡ false → first_word text ≡ None
unfolding first_word
none_led text none = rw none refl

pub empty_led : (text front : List ℕ) → front ≡ before_first is_space text → is_empty front ≡ true → first_word text ≡ None
unfolding first_word
empty_led text front front_is none = grind (arith, front_is, none)

pub one_word : (text : List ℕ) → is_empty text ≡ false → list_any is_space text ≡ false → only_word text ≡ Some text
unfolding only_word
one_word text some none = rw (some, none) refl

pub not_one : (text : List ℕ) → is_empty text ≡ true → only_word text ≡ None
unfolding only_word
not_one text none = rw none refl

pub not_alone : (text : List ℕ) → list_any is_space text ≡ true → only_word text ≡ None
unfolding only_word
not_alone text spaced = grind (arith, spaced)

pub number_at : (text : List ℕ) → 0 < length text → length text ≤ 16 → list_all is_ascii_digit text ≡ true → number_of text ≡ Some (digits_value 10 text)
unfolding number_of
number_at text some few digits =
    let least : nat_le 1 (length text) ≡ true = le-leb 1 (length text) (omega (arith, some)) in
    let most : nat_le (length text) 16 ≡ true = le-leb (length text) 16 few in
    rw (least, most, digits) refl

pub no_digits : (text : List ℕ) → list_all is_ascii_digit text ≡ false → number_of text ≡ None
unfolding number_of
no_digits text other = grind (arith, other)

pub too_long : (text : List ℕ) → 16 < length text → number_of text ≡ None
unfolding number_of
too_long text long = grind (arith, nat_tests, long)

pub too_short : (text : List ℕ) → length text ≡ 0 → number_of text ≡ None
unfolding number_of
too_short text none = grind (arith, nat_tests, none)

numerals : IsNumeralModel (λ ds. list_all is_ascii_digit ds ≡ true) (digits_value 10)
numerals = numerals_by_value (λ ds. list_all is_ascii_digit ds ≡ true) (search rules)

pub number_read : {E : Type 0} → (text : List ℕ) (parsed : Result ℕ E) (number : ℕ) → ParsesUnsigned 64 10 text parsed → parsed ≡ Ok number → list_all is_ascii_digit text ≡ true → length text ≤ 16
    → number_of text ≡ Some number
number_read text parsed number parses is digits few =
    let told = rw is at (parse_digits numerals 64 text parsed parses digits) in
    number_at text told.0.0 few digits ∙ ap Some (sym told.1)

pub no_number : {E : Type 0} → (text : List ℕ) (parsed : Result ℕ E) (fault : E) → ParsesUnsigned 64 10 text parsed → parsed ≡ Err fault → list_all is_ascii_digit text ≡ true → length text ≤ 16
    → number_of text ≡ None
no_number text parsed fault parses is digits few =
    let told = rw is at (parse_digits numerals 64 text parsed parses digits) in
    let small : digits_value 10 text < 10 ^ 16 = digits_value_short numerals text 16 digits few in
    let fits : digits_value 10 text < 2 ^ 64 = omega (arith, small) in
    let none : length text ≡ 0 = omega (arith, λ (some : 0 < length text). told (some, fits)) in
    too_short text none

pub key_led : (word key : List ℕ) → word ≡ 61 ∷ key → state_key_of word ≡ Some (Some key)
unfolding state_key_of
key_led word key is = rw is refl

pub no_key : (word : List ℕ) → bytes_eq word (45 ∷ []) ≡ false → ((rest : List ℕ) → word ≡ 61 ∷ rest → ⊥) → state_key_of word ≡ None
unfolding state_key_of
no_key [] other none = refl
no_key (sign ∷ key) other none =
    let apart : (sign == 61) ≡ false = elim (sign == 61) as (λ b. (sign == 61) ≡ b → (sign == 61) ≡ false) [ true ↦ λ e. absurd (none key (ap (λ s. s ∷ key) (eqb-true sign 61 e))) | false ↦ λ e. e ] refl in
    rw (other, apart) refl
