-- Symbols that are looked up two by two are those of base64.
use Rattle.std.proofs.Common.{◌≡◌, ℕ, ◌+◌, ◌*◌, ◌/◌, ◌%◌, ◌<◌, ◌≤◌, List, [], ◌∷◌, ◌++◌, length, take, drop, get_or, slice_index, ◌⊎◌, inl, inr, refl, sym, ap, ◌∙◌, arith}
use Rattle.std.proofs.lemmas.Bool.{cases_lt}
use Rattle.std.proofs.lemmas.List.{drop-drop, drop_all, get_or_append_left, get_or_push, length_push}
use borrow.Rule.Slice.PartMut.{put_mid, post_of}
use Rattle.base64.specs.Rfc4648.{encode_group, encode_symbols}
use Rattle.base64.proofs.Encoding.{encode_symbols-drop_two, written_pair, written_last}
use Rattle.fed_replies.specs.Symbols.{ArePairs, alphabet, pair_of}

-- one more
pub pairs-push : (pairs : List (List ℕ)) (pair : List ℕ) → ArePairs pairs → pair ≡ pair_of (length pairs) → ArePairs (pairs ++ pair ∷ [])
pairs-push pairs pair h is number below = by (cases_lt number (length pairs))
  where
    by : (number < length pairs) ⊎ (length pairs ≤ number) → get_or (pairs ++ pair ∷ []) number [] ≡ pair_of number
    by (inl lt) = get_or_append_left pairs (pair ∷ []) [] number lt ∙ h number lt
    by (inr ge) =
        let size = length_push pairs pair in
        let last : length pairs ≡ number = omega arith in
        get_or_push pairs pair [] number last ∙ is ∙ ap pair_of last

-- the two pairs of three bytes
pub group-of_pairs : (a b c : ℕ) (high low : List ℕ) → a < 256 → b < 256 → c < 256 → high ≡ pair_of (a * 16 + b / 16) → low ≡ pair_of (b % 16 * 256 + c)
    → slice_index high 0 ∷ slice_index high 1 ∷ slice_index low 0 ∷ slice_index low 1 ∷ [] ≡ encode_group alphabet a b c
group-of_pairs a b c high low fa fb fc h l =
    let one : (a * 16 + b / 16) / 64 ≡ a / 4 = omega arith in
    let two : (a * 16 + b / 16) % 64 ≡ a % 4 * 16 + b / 16 = omega arith in
    let three : (b % 16 * 256 + c) / 64 ≡ b % 16 * 4 + c / 64 = omega arith in
    let four : (b % 16 * 256 + c) % 64 ≡ c % 64 = omega arith in
    rw (h, l, one, two, three, four) refl

-- the four numbers of 12 bits of the first six bytes of a word
pub high_pairs : (x b0 b1 b2 l : ℕ) → x ≡ b0 * 72057594037927936 + b1 * 281474976710656 + b2 * 1099511627776 + l → b0 < 256 → b1 < 256 → b2 < 256 → l < 1099511627776
    → (x / 4503599627370496 ≡ b0 * 16 + b1 / 16) × (x / 1099511627776 % 4096 ≡ b1 % 16 * 256 + b2)
high_pairs x b0 b1 b2 l e f0 f1 f2 low = (omega arith, omega arith)

pub low_pairs : (x h b3 b4 b5 l : ℕ) → x ≡ h * 1099511627776 + b3 * 4294967296 + b4 * 16777216 + b5 * 65536 + l → b3 < 256 → b4 < 256 → b5 < 256 → l < 65536
    → (x / 268435456 % 4096 ≡ b3 * 16 + b4 / 16) × (x / 65536 % 4096 ≡ b4 % 16 * 256 + b5)
low_pairs x h b3 b4 b5 l e f3 f4 f5 low = (omega arith, omega arith)

-- eight symbols written: what is left decides
pub groups-written : (t xs out bs ys : List ℕ) (p k : ℕ) → take (8 * p) out ++ encode_symbols t (drop (6 * p) xs) ≡ encode_symbols t xs → 6 * p + 8 ≤ length xs → 8 * p + 8 ≤ length out → k ≡ 8
    → bs ≡ take 8 (drop (6 * p) xs)
    → ys ≡ encode_group t (slice_index bs 0) (slice_index bs 1) (slice_index bs 2) ++ encode_group t (slice_index bs 3) (slice_index bs 4) (slice_index bs 5)
    → take (8 * (p + 1)) (put_mid (8 * p) k out ys) ++ encode_symbols t (drop (6 * (p + 1)) xs) ≡ encode_symbols t xs
groups-written t xs out bs ys p k whole in_xs in_out ek eb ey =
    let ly : length ys ≡ 8 = rw ey refl in
    let post : post_of (8 * p) k out ≡ drop (8 * p + length ys) out = rw (ek, ly) (drop-drop 8 (8 * p) out) in
    (written_pair t xs out out bs ys (put_mid (8 * p) k out ys) p whole refl in_xs in_out eb ey (ap (λ r. take (8 * p) out ++ (ys ++ r)) post)).0

-- the last two bytes
pub last-written : (t xs out ys : List ℕ) → length xs ≡ 32 → length out ≡ 43 → take 40 out ++ encode_symbols t (drop 30 xs) ≡ encode_symbols t xs
    → ys ≡ take 3 (encode_group t (slice_index xs 30) (slice_index xs 31) 0) → put_mid 40 3 out ys ≡ encode_symbols t xs ++ []
last-written t xs out ys size room whole is =
    let a : ℕ = slice_index xs 30 in
    let b : ℕ = slice_index xs 31 in
    let zero_bits : b % 16 * 4 + 0 ≡ b % 16 * 4 = omega arith in
    let left : encode_symbols t (drop 30 xs) ≡ slice_index t (a / 4) ∷ slice_index t (a % 4 * 16 + b / 16) ∷ slice_index t (b % 16 * 4) ∷ [] = encode_symbols-drop_two t xs 30 (omega arith) in
    let last : ys ≡ encode_symbols t (drop 30 xs) = is ∙ ap (λ n. slice_index t (a / 4) ∷ slice_index t (a % 4 * 16 + b / 16) ∷ slice_index t n ∷ []) zero_bits ∙ sym left in
    let end : drop 43 out ≡ [] = drop_all 43 out (omega arith) in
    written_last (encode_symbols t xs) out out ys (encode_symbols t (drop 30 xs)) 40 3 whole refl last ∙ ap (λ r. encode_symbols t xs ++ r) end
