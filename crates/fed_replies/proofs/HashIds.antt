-- Which ids are hashes.
use Rattle.std.proofs.Common.{◌≡◌, ℕ, suc, ◌+◌, ◌*◌, ◌/◌, ◌%◌, ◌<◌, nat_lt, nat_le, List, [], ◌∷◌, Bool, true, ◌==◌, not, ◌&&◌, length, drop, slice_index, Ok, Err, refl, sym, ap, subst, ◌∙◌, arith}
use Rattle.std.proofs.lemmas.Bool.{and_parts, leb-true, ltb-true, eqb-false, not-true}
use Rattle.std.proofs.lemmas.List.{length-append}
use Rattle.std.proofs.lemmas.List.Elements.{All-nil, All-cons, All-append}
use Rattle.base64.specs.declared.decode.DecodeError.{DecodeError}
use Rattle.base64.specs.Engines.{url_safe_no_pad}
use Rattle.base64.specs.GeneralPurpose.{IsBytes, decode_of, encode_of}
use Rattle.base64.specs.Rfc4648.{encode_symbols}
use Rattle.base64.specs.Tables.{all_below}
use Rattle.base64.proofs.EngineFacts.{decode_of_strict}
use Rattle.base64.proofs.RoundTrip.{length-encode_symbols}
use Rattle.base64.proofs.Tables.{all_below_at}
use Rattle.fed_replies.specs.HashId.{id_text, IsIdOf, IsHashId}
use Rattle.fed_replies.specs.Plain.{IsPlainByte, IsPlain}

abbrev alphabet : List ℕ
alphabet = url_safe_no_pad.encode_table

pub id_text-is : (hash : List ℕ) → id_text hash ≡ 36 ∷ encode_of url_safe_no_pad hash
unfolding id_text
id_text-is hash = refl

pub length-symbols : (hash : List ℕ) → length hash ≡ 32 → length (encode_of url_safe_no_pad hash) ≡ 43
length-symbols hash size =
    let whole = length-append (encode_symbols alphabet hash) [] in
    let symbols = length-encode_symbols alphabet hash in
    omega arith

pub no_hash_of_nothing : (id : List ℕ) → length id ≡ 0 → IsHashId id → ⊥
no_hash_of_nothing id none h =
    let more : length id ≡ suc (length (encode_of url_safe_no_pad h.0)) = ap length (h.1.encoded ∙ id_text-is h.0) in
    omega arith

pub no_hash_of_another : (id : List ℕ) (sigil : ℕ) (symbols : List ℕ) → id ≡ sigil ∷ symbols → (sigil ≡ 36 → ⊥) → IsHashId id → ⊥
no_hash_of_another id sigil symbols is other h =
    let both : sigil ∷ symbols ≡ 36 ∷ encode_of url_safe_no_pad h.0 = sym is ∙ h.1.encoded ∙ id_text-is h.0 in
    let same : sigil ≡ 36 = cc in
    other same

module _ (id : List ℕ) (sigil : ℕ) (symbols : List ℕ) (is : id ≡ sigil ∷ symbols) where
  pub no_hash_of_size : (length symbols ≡ 43 → ⊥) → IsHashId id → ⊥
  no_hash_of_size other h =
      let both : sigil ∷ symbols ≡ 36 ∷ encode_of url_safe_no_pad h.0 = sym is ∙ h.1.encoded ∙ id_text-is h.0 in
      let same : symbols ≡ encode_of url_safe_no_pad h.0 = cc in
      other (ap length same ∙ length-symbols h.0 h.1.size)

  decoded_in : (hash : List ℕ) → IsIdOf hash id → decode_of url_safe_no_pad symbols ≡ Ok hash
  decoded_in hash h = ap (λ (i : List ℕ). decode_of url_safe_no_pad (drop 1 i)) (sym is) ∙ h.decoded

  pub not_decoded : (fault : DecodeError) → decode_of url_safe_no_pad symbols ≡ Err fault → IsHashId id → ⊥
  not_decoded fault e h = let both : Err fault ≡ Ok h.0 = sym e ∙ decoded_in h.0 h.1 in absurd (cc)

  pub decoded_otherwise : (bytes : List ℕ) → decode_of url_safe_no_pad symbols ≡ Ok bytes → (length bytes ≡ 32 → ⊥) → IsHashId id → ⊥
  decoded_otherwise bytes d other h =
      let both : Ok bytes ≡ Ok h.0 = sym d ∙ decoded_in h.0 h.1 in
      let same : bytes ≡ h.0 = cc in
      other (ap length same ∙ h.1.size)

  pub behind_bytes : ((k : ℕ) → slice_index id k < 256) → IsBytes symbols
  behind_bytes h k = subst (λ (l : List ℕ). slice_index l (suc k) < 256) is (h (suc k))

  pub decoded_as : (hash : List ℕ) → sigil ≡ 36 → IsBytes symbols → decode_of url_safe_no_pad symbols ≡ Ok hash → length hash ≡ 32 → IsIdOf hash id
  decoded_as hash s bytes d size = record {
    size = size;
    decoded = ap (λ (i : List ℕ). decode_of url_safe_no_pad (drop 1 i)) is ∙ d;
    encoded = is ∙ ap (λ x. x ∷ symbols) s ∙ ap (λ xs. 36 ∷ xs) (decode_of_strict url_safe_no_pad symbols hash (refl, refl) bytes d) ∙ sym (id_text-is hash);
  }

-- ---- nothing of an id is escaped

abbrev is_plain : ℕ → Bool
is_plain x = nat_le 32 x && (nat_lt x 127 && (not (x == 34) && not (x == 92)))

abbrev is_plain_symbol : ℕ → Bool
is_plain_symbol k = is_plain (slice_index alphabet k)

plain_table : all_below is_plain_symbol 64 ≡ true
plain_table = refl

plain_from : (x : ℕ) → is_plain x ≡ true → IsPlainByte x
plain_from x h =
    let one = and_parts (nat_le 32 x) _ h in
    let two = and_parts (nat_lt x 127) _ one.1 in
    let three = and_parts (not (x == 34)) _ two.1 in
    (leb-true 32 x one.0, ltb-true x 127 two.0, eqb-false x 34 (not-true (x == 34) three.0), eqb-false x 92 (not-true (x == 92) three.1))

symbol : (k : ℕ) → k < 64 → IsPlainByte (slice_index alphabet k)
symbol k below = plain_from (slice_index alphabet k) (all_below_at is_plain_symbol 64 k plain_table below)

plain_more : (k : ℕ) (rest : List ℕ) → k < 64 → IsPlain rest → IsPlain (slice_index alphabet k ∷ rest)
plain_more k rest below h = All-cons IsPlainByte (slice_index alphabet k) rest (symbol k below) h

plain_none : IsPlain []
plain_none = All-nil IsPlainByte

plain_symbols : (m : List ℕ) → ((i : ℕ) → slice_index m i < 256) → IsPlain (encode_symbols alphabet m)
unfolding encode_symbols
plain_symbols [] h = plain_none
plain_symbols (a ∷ []) h =
    let first : a < 256 = h 0 in
    plain_more (a / 4) (slice_index alphabet (a % 4 * 16) ∷ []) (omega arith) (plain_more (a % 4 * 16) [] (omega arith) plain_none)
plain_symbols (a ∷ b ∷ []) h =
    let first : a < 256 = h 0 in
    let second : b < 256 = h 1 in
    plain_more (a / 4) (slice_index alphabet (a % 4 * 16 + b / 16) ∷ slice_index alphabet (b % 16 * 4) ∷ []) (omega arith)
    (plain_more (a % 4 * 16 + b / 16) (slice_index alphabet (b % 16 * 4) ∷ []) (omega arith) (plain_more (b % 16 * 4) [] (omega arith) plain_none))
plain_symbols (a ∷ b ∷ c ∷ rest) h =
    let first : a < 256 = h 0 in
    let second : b < 256 = h 1 in
    let third : c < 256 = h 2 in
    let others : List ℕ = encode_symbols alphabet rest in
    plain_more (a / 4) (slice_index alphabet (a % 4 * 16 + b / 16) ∷ slice_index alphabet (b % 16 * 4 + c / 64) ∷ slice_index alphabet (c % 64) ∷ others) (omega arith)
    (plain_more (a % 4 * 16 + b / 16) (slice_index alphabet (b % 16 * 4 + c / 64) ∷ slice_index alphabet (c % 64) ∷ others) (omega arith)
    (plain_more (b % 16 * 4 + c / 64) (slice_index alphabet (c % 64) ∷ others) (omega arith) (plain_more (c % 64) others (omega arith)
    (plain_symbols rest (λ i. h (suc (suc (suc i))))))))

pub plain_hash : (hash : List ℕ) → ((i : ℕ) → slice_index hash i < 256) → IsPlain (encode_of url_safe_no_pad hash)
plain_hash hash h = All-append IsPlainByte (encode_symbols alphabet hash) [] (plain_symbols hash h) (All-nil IsPlainByte)

pub plain_sigil : IsPlainByte 36
plain_sigil = plain_from 36 refl

pub plain_id : (hash id : List ℕ) → ((i : ℕ) → slice_index hash i < 256) → IsIdOf hash id → IsPlain id
plain_id hash id bytes h =
    subst IsPlain (sym (h.encoded ∙ id_text-is hash)) (All-cons IsPlainByte 36 (encode_of url_safe_no_pad hash) plain_sigil (plain_hash hash bytes))
