-- The id of a transaction stands in the target of its request.
use Rattle.std.proofs.Common.{◌≡◌, ◌≢◌, ℕ, ◌+◌, ◌<◌, ◌%◌, ◌^◌, ◌==◌, ◌&&◌, Bool, true, false, nat_lt, not, List, [], ◌∷◌, ◌++◌, length, take, codes, decimal, Some, None, refl, ap, ◌∙◌, arith, length-append}
use Rattle.std.specs.Prelude.{option_and_then, if◌then◌else◌}
use Rattle.std.specs.List.{list_all, list_any, prefix_len}
use Rattle.std.specs.Str.{is_utf8}
use Rattle.std.proofs.lemmas.Bool.{lt-ltb}
use Rattle.std.proofs.lemmas.List.{take_at, drop_at, take_all}
use Rattle.std.proofs.lemmas.Bool.Decides.{nat_tests}
use Rattle.std.proofs.lemmas.Fmt.{decimal_by_steps}
use Rattle.std.proofs.lemmas.Str.{is_utf8-from_IsUtf8}
use Rattle.std.proofs.lemmas.Slice.Eq.{bytes_eq-Decides}
use Rattle.percent_encoding.specs.Percent.{percent_decode}
use Rattle.percent_encoding.proofs.PercentLemmas.{percent_decode_not_percent}
use Rattle.fed_inbox.specs.SendPath.{send_path, is_question_mark, path_of, if_passes, behind, is_slash, is_segment, segment_of, decoded, txn_of}
use Rattle.fed_exchange.proofs.Printed.{is_shown, passing, joined, text, and_left, and_right}

-- the id of transaction n: the epoch and n, with a hyphen between them
abbrev pub txn_id : ℕ → ℕ → List ℕ
txn_id epoch n = decimal epoch ++ (codes "-" ++ decimal n)

-- digits and hyphens
abbrev is_of_id : ℕ → Bool
is_of_id c = nat_lt 44 c && (nat_lt c 58 && not (c == 47))

digits_pass : (n : ℕ) → n < 2 ^ 64 → list_all is_of_id (decimal n) ≡ true
digits_pass n fits =
    decimal_by_steps (λ m ds. list_all is_of_id ds ≡ true) (λ m small. rw (digit m small) refl)
    (λ m ds big h. joined is_of_id ds ((48 + m % 10) ∷ []) h (rw (digit (m % 10) (omega arith)) refl)) n fits
  where
    digit : (k : ℕ) → k < 10 → is_of_id (48 + k) ≡ true
    digit k small = grind (arith, nat_tests)

id_passes : (epoch n : ℕ) → epoch < 2 ^ 64 → n < 2 ^ 64 → list_all is_of_id (txn_id epoch n) ≡ true
id_passes epoch n h k = joined is_of_id (decimal epoch) (codes "-" ++ decimal n) (digits_pass epoch h) (joined is_of_id (codes "-") (decimal n) refl (digits_pass n k))

-- ---- nothing is cut off

prefix_all : (q : ℕ → Bool) (s : List ℕ) → list_all q s ≡ true → prefix_len q s ≡ length s
prefix_all q [] h = refl
prefix_all q (c ∷ s) h = rw (and_left (q c) (list_all q s) h) (omega (arith, prefix_all q s (and_right (q c) (list_all q s) h)))

unmarked : (s : List ℕ) → list_all (λ c. not (is_question_mark c)) s ≡ true → path_of s ≡ s
unmarked s h = ap (λ n. take n s) (prefix_all (λ c. not (is_question_mark c)) s h) ∙ take_all (length s) s (omega arith)

no_slash : (s : List ℕ) → list_all is_of_id s ≡ true → list_any is_slash s ≡ false
no_slash [] h = refl
no_slash (c ∷ s) h =
    let first = and_left (is_of_id c) (list_all is_of_id s) h in
    let other : is_slash c ≡ false = grind (arith, nat_tests) in
    rw (other, no_slash s (and_right (is_of_id c) (list_all is_of_id s) h)) refl

undecoded : (s : List ℕ) → list_all is_of_id s ≡ true → percent_decode s ≡ s
unfolding percent_decode
undecoded [] h = refl
undecoded (c ∷ s) h =
    let first = and_left (is_of_id c) (list_all is_of_id s) h in
    let other : c ≢ 37 = λ e. grind (arith, nat_tests) in
    percent_decode_not_percent c s other ∙ ap (λ t. c ∷ t) (undecoded s (and_right (is_of_id c) (list_all is_of_id s) h))

-- ---- the segment

some_digit : (n : ℕ) → n < 2 ^ 64 → 0 < length (decimal n)
some_digit n fits = decimal_by_steps (λ m ds. 0 < length ds) (λ m small. omega arith) (λ m ds big h. omega (arith, length-append ds ((48 + m % 10) ∷ []))) n fits

behind_front : (front s : List ℕ) → behind front (front ++ s) ≡ Some s
behind_front front s =
    rw (take_at front s (length front) refl, (bytes_eq-Decides front front).1 refl, drop_at front s (length front) refl) refl

is_one_segment : (s : List ℕ) → 0 < length s → list_all is_of_id s ≡ true → is_segment s ≡ true
is_one_segment s some h = rw (lt-ltb 0 (length s) some, no_slash s h) refl

id_segment : (s : List ℕ) → 0 < length s → list_all is_of_id s ≡ true → segment_of (send_path ++ s) ≡ Some s
id_segment s some h = ap (option_and_then (if_passes is_segment)) (behind_front send_path s) ∙ ap (λ b. if b then Some s else None) (is_one_segment s some h)

id_decoded : (s : List ℕ) → list_all is_of_id s ≡ true → decoded s ≡ Some s
id_decoded s h =
    let utf8 = is_utf8-from_IsUtf8 s (text s (passing is_of_id is_shown (λ c is. grind (arith, nat_tests)) s h)) in
    ap (if_passes is_utf8) (undecoded s h) ∙ ap (λ b. if b then Some s else None) utf8

pub id_in_target : (epoch n : ℕ) → epoch < 2 ^ 64 → n < 2 ^ 64 → txn_of (send_path ++ txn_id epoch n) ≡ Some (txn_id epoch n)
id_in_target epoch n h k =
    let s = txn_id epoch n in
    let is = id_passes epoch n h k in
    let some : 0 < length s = omega (arith, some_digit epoch h, length-append (decimal epoch) (codes "-" ++ decimal n)) in
    let whole : path_of (send_path ++ s) ≡ send_path ++ s = unmarked (send_path ++ s) (joined (λ c. not (is_question_mark c)) send_path s refl (passing is_of_id (λ c. not (is_question_mark c)) (λ c p. grind (arith, nat_tests)) s is)) in
    ap (λ p. option_and_then decoded (segment_of p)) whole ∙ ap (option_and_then decoded) (id_segment s some is) ∙ id_decoded s is
