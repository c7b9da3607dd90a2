-- A digest is a list of bytes.
use Rattle.std.proofs.Common.{ℕ, zero, suc, ◌<◌, List, [], ◌∷◌, ◌++◌, slice_index, arith}
use Rattle.std.specs.Int.{w64, to_be_bytes, byte_at}
use Rattle.base64.specs.GeneralPurpose.{IsBytes}
use Rattle.sha2.specs.Sha512.{sha512, digest_bytes}

bytes_append : (s t : List ℕ) → IsBytes s → IsBytes t → IsBytes (s ++ t)
bytes_append [] t h k i = k i
bytes_append (c ∷ s) t h k zero = h 0
bytes_append (c ∷ s) t h k (suc i) = bytes_append s t (λ j. h (suc j)) k i

byte_low : (i n : ℕ) → byte_at i n < 256
byte_low zero n = omega arith
byte_low (suc i) n = omega arith

word_bytes : (n : ℕ) → IsBytes (to_be_bytes w64 n)
word_bytes n zero = byte_low 7 n
word_bytes n (suc zero) = byte_low 6 n
word_bytes n (suc (suc zero)) = byte_low 5 n
word_bytes n (suc (suc (suc zero))) = byte_low 4 n
word_bytes n (suc (suc (suc (suc zero)))) = byte_low 3 n
word_bytes n (suc (suc (suc (suc (suc zero))))) = byte_low 2 n
word_bytes n (suc (suc (suc (suc (suc (suc zero)))))) = byte_low 1 n
word_bytes n (suc (suc (suc (suc (suc (suc (suc zero))))))) = byte_low 0 n
word_bytes n (suc (suc (suc (suc (suc (suc (suc (suc i)))))))) = omega arith

all_words : (h : List ℕ) (n : ℕ) → IsBytes (digest_bytes h n)
unfolding digest_bytes
all_words h zero = λ i. omega arith
all_words h (suc n) = bytes_append (digest_bytes h n) (to_be_bytes w64 (slice_index h n)) (all_words h n) (word_bytes (slice_index h n))

pub digest_bytes_are : (m : List ℕ) → IsBytes (sha512 m)
unfolding sha512
digest_bytes_are m = all_words _ 8
