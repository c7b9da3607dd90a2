-- The form of an id: a SHA-256 has 32 bytes, and these are 43 characters of the alphabet.
use Rattle.std.proofs.Common.{◌≡◌, ℕ, suc, ◌+◌, ◌*◌, ◌/◌, ◌%◌, ◌^◌, ◌<◌, zero, List, [], ◌∷◌, ◌++◌, Bool, true, false, true≢false, length, slice_index, refl, sym, ap, ◌∙◌, arith, append-nil}
use Rattle.std.specs.Prelude.{nat_lt}
use Rattle.std.specs.List.{list_all}
use Rattle.std.specs.Int.{w32, to_be_bytes, byte_at}
use Rattle.std.proofs.lemmas.Bool.{and_parts, lt-ltb, ltb-true}
use Rattle.std.proofs.lemmas.Nat.{mod_below}
use Rattle.std.proofs.lemmas.List.Folds.{list_all-append, list_all_at}
use Rattle.sha2.specs.Sha256.{sha256, digest_bytes}
use Rattle.sha2.proofs.Facts256.{length-sha256}
use Rattle.base64.specs.Rfc4648.{encode_symbols}
use Rattle.base64.specs.Engines.{url_safe_no_pad}
use Rattle.base64.proofs.RoundTrip.{length-encode_symbols}
use Rattle.fed_redaction.specs.EventId.{is_url_safe, id_of_signed, IsIdText}

-- ---- the bytes of a digest

abbrev is_byte : ℕ → Bool
is_byte x = nat_lt x 256

a_byte : (k n : ℕ) → is_byte (byte_at k n) ≡ true
a_byte zero n = lt-ltb (n % 256) 256 (mod_below n 256 (omega arith))
a_byte (suc k) n = lt-ltb (n / 256 ^ suc k % 256) 256 (mod_below (n / 256 ^ suc k) 256 (omega arith))

are_bytes-word : (n : ℕ) → list_all is_byte (to_be_bytes w32 n) ≡ true
are_bytes-word n = rw (a_byte 3 n, a_byte 2 n, a_byte 1 n, a_byte 0 n)

are_bytes-digest : (h : List ℕ) (n : ℕ) → list_all is_byte (digest_bytes h n) ≡ true
unfolding digest_bytes
are_bytes-digest h zero = refl
are_bytes-digest h (suc n) =
    let rest = are_bytes-digest h n in
    let word = are_bytes-word (slice_index h n) in
    list_all-append is_byte (digest_bytes h n) _ ∙ rw (rest, word)

are_bytes-sha256 : (m : List ℕ) → list_all is_byte (sha256 m) ≡ true
unfolding sha256
are_bytes-sha256 m = are_bytes-digest _ 8

-- ---- its symbols

abbrev symbols : List ℕ
symbols = url_safe_no_pad.encode_table

true_from : (b : Bool) (all : Bool) → (b ≡ false → all ≡ false) → all ≡ true → b ≡ true
true_from true all h is = refl
true_from false all h is = absurd (true≢false (sym is ∙ h refl))

-- each of the 64 symbols is one of the alphabet
all_symbols : list_all is_url_safe symbols ≡ true
all_symbols = refl

a_symbol : (i : ℕ) → i < 64 → is_url_safe (slice_index symbols i) ≡ true
a_symbol i h = true_from _ _ (λ out. list_all_at is_url_safe symbols i 0 h out) all_symbols

are_symbols : (m : List ℕ) → list_all is_byte m ≡ true → list_all is_url_safe (encode_symbols symbols m) ≡ true
unfolding encode_symbols
are_symbols [] h = refl
are_symbols (a ∷ []) h =
    let p = and_parts (is_byte a) _ h in
    let la = ltb-true a 256 p.0 in
    let first = a_symbol (a / 4) (omega arith) in
    let second = a_symbol (a % 4 * 16) (omega arith) in
    rw (first, second)
are_symbols (a ∷ b ∷ []) h =
    let p = and_parts (is_byte a) _ h in
    let q = and_parts (is_byte b) _ p.1 in
    let la = ltb-true a 256 p.0 in
    let lb = ltb-true b 256 q.0 in
    let first = a_symbol (a / 4) (omega arith) in
    let second = a_symbol (a % 4 * 16 + b / 16) (omega arith) in
    let third = a_symbol (b % 16 * 4) (omega arith) in
    rw (first, second, third)
are_symbols (a ∷ b ∷ c ∷ rest) h =
    let p = and_parts (is_byte a) _ h in
    let q = and_parts (is_byte b) _ p.1 in
    let r = and_parts (is_byte c) _ q.1 in
    let la = ltb-true a 256 p.0 in
    let lb = ltb-true b 256 q.0 in
    let lc = ltb-true c 256 r.0 in
    let first = a_symbol (a / 4) (omega arith) in
    let second = a_symbol (a % 4 * 16 + b / 16) (omega arith) in
    let third = a_symbol (b % 16 * 4 + c / 64) (omega arith) in
    let fourth = a_symbol (c % 64) (omega arith) in
    let more = are_symbols rest r.1 in
    rw (first, second, third, fourth, more)

-- ---- the id

pub id_text : (text : List ℕ) → IsIdText (id_of_signed text)
id_text text =
    let encoded = encode_symbols symbols (sha256 text) in
    let whole : encoded ++ [] ≡ encoded = append-nil encoded in
    record {
      sigil = refl;
      size = ap (λ s. length (36 ∷ s)) whole ∙ ap suc (length-encode_symbols symbols (sha256 text)) ∙ ap (λ n. suc ((4 * n + 2) / 3)) (length-sha256 text);
      url_safe = ap (list_all is_url_safe) whole ∙ are_symbols (sha256 text) (are_bytes-sha256 text);
    }
