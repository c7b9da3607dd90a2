-- The text that is signed for a request is its parts, one behind another.
use Rattle.std.proofs.Common.{arith, ◌≡◌, ◌<◌, ℕ, true, false, ltb-true, List, [], ◌∷◌, ◌++◌, length, codes, Less, Some, refl, ap, ◌∙◌, append_assoc}
use Rattle.std.proofs.lemmas.Str.{is_utf8-from_IsUtf8}
use Rattle.std.specs.Ordering.{nat_cmp, is_lt}
use Rattle.std.specs.Str.{is_utf8}
use Rattle.std.specs.Cmp.Lexicographic.{slice_cmp}
use Rattle.json.specs.Print.{escape_byte}
use Rattle.json.proofs.Printed.Utf8.{are_ascii, IsUtf8-are_ascii}
use Rattle.fed_json.specs.Profile.{IsProfile, all_whole, comes_before}
use Rattle.fed_json.specs.CanonicalText.{canonical_text, IsCanonicalText}
use Rattle.fed_json.proofs.KeyOrder.{chars_order}
use Rattle.fed_json.proofs.CanonicalTexts.{text_has}
use Rattle.fed_http.specs.XMatrixSigning.{SignableJson, Signable, content_member, text_member, signed_bytes, signed_value, signed_text, header_for, header_of, sent_fields, request_for, request_of}
use Rattle.fed_http.specs.XMatrixWriting.{header_text}
use Rattle.fed_http.specs.Message.{RequestValue}
use Rattle.std.proofs.lemmas.Fmt.{decimal_nonempty}
use Rattle.std.specs.Prelude.{pos, negsuc, ◌^◌}
use Rattle.serde_json.specs.Data.{Data, null, boolean, number, string, array, object, unsigned, negative, float}

joined_six : {x₀ x₁ x₂ x₃ x₄ x₅ x₆ x₇ : List ℕ} (a b c d e f g : List ℕ) → x₀ ≡ [] → x₁ ≡ x₀ ++ a → x₂ ≡ x₁ ++ b → x₃ ≡ x₂ ++ c → x₄ ≡ x₃ ++ d → x₅ ≡ x₄ ++ e → x₆ ≡ x₅ ++ f → x₇ ≡ x₆ ++ g
    → x₇ ≡ a ++ (b ++ (c ++ (d ++ (e ++ (f ++ g)))))
joined_six a b c d e f g p₀ p₁ p₂ p₃ p₄ p₅ p₆ p₇ = rw (p₇, p₆, p₅, p₄, p₃, p₂, p₁, p₀, append_assoc, append_assoc, append_assoc, append_assoc, append_assoc) refl

pub signed_parts : (s : Signable) (x₀ x₁ x₂ x₃ x₄ x₅ x₆ x₇ : List ℕ) → x₀ ≡ [] → x₁ ≡ x₀ ++ codes "{" → x₂ ≡ x₁ ++ content_member s.content
    → x₃ ≡ x₂ ++ text_member (codes "\"destination\":") s.destination → x₄ ≡ x₃ ++ text_member (codes ",\"method\":") s.method
    → x₅ ≡ x₄ ++ text_member (codes ",\"origin\":") s.origin → x₆ ≡ x₅ ++ text_member (codes ",\"uri\":") s.target → x₇ ≡ x₆ ++ codes "}"
    → x₇ ≡ signed_bytes s
signed_parts s x₀ x₁ x₂ x₃ x₄ x₅ x₆ x₇ p₀ p₁ p₂ p₃ p₄ p₅ p₆ p₇ =
    joined_six (codes "{") (content_member s.content) (text_member (codes "\"destination\":") s.destination) (text_member (codes ",\"method\":") s.method)
    (text_member (codes ",\"origin\":") s.origin) (text_member (codes ",\"uri\":") s.target) (codes "}") p₀ p₁ p₂ p₃ p₄ p₅ p₆ p₇

-- a request whose body is a canonical text
abbrev pub signable : SignableJson → List ℕ → Signable
signable asked content = record { method = asked.method; target = asked.target; origin = asked.origin; destination = asked.destination; content = content }

parts : (asked : SignableJson)
    → codes "{" ++ ((codes "\"content\":" ++ (canonical_text asked.content ++ codes ",")) ++ (text_member (codes "\"destination\":") asked.destination ++ (text_member (codes ",\"method\":") asked.method
    ++ (text_member (codes ",\"origin\":") asked.origin ++ (text_member (codes ",\"uri\":") asked.target ++ codes "}")))))
    ≡ signed_text asked
unfolding escape_byte
parts asked = simp append_assoc refl

member_there : (content : List ℕ) → 0 < length content → content_member content ≡ codes "\"content\":" ++ (content ++ codes ",")
member_there [] some = absurd (omega arith)
member_there (b ∷ content) some = refl

-- what is signed of it is the canonical text of the object
pub signed_is : (asked : SignableJson) (content : List ℕ) → 0 < length content → content ≡ canonical_text asked.content → signed_bytes (signable asked content) ≡ signed_text asked
signed_is asked content some is =
    let rest = text_member (codes "\"destination\":") asked.destination ++ (text_member (codes ",\"method\":") asked.method ++ (text_member (codes ",\"origin\":") asked.origin ++ (text_member (codes ",\"uri\":") asked.target ++ codes "}"))) in
    ap (λ m. codes "{" ++ (m ++ rest)) (member_there content some ∙ ap (λ c. codes "\"content\":" ++ (c ++ codes ",")) is) ∙ parts asked

pub header_is : (asked : SignableJson) (content key : List ℕ) (sign : List ℕ → List ℕ) → 0 < length content → content ≡ canonical_text asked.content → header_for (signable asked content) key sign ≡ header_of asked key sign
header_is asked content key sign some is = ap (λ t. record { origin = asked.origin; destination = Some asked.destination; key = key; signature = sign t }) (signed_is asked content some is)

pub request_is : (asked : SignableJson) (content key : List ℕ) (sign : List ℕ → List ℕ) → 0 < length content → content ≡ canonical_text asked.content → request_for (signable asked content) key sign ≡ request_of asked key sign
request_is asked content key sign some is =
    ap (λ h. record { method = asked.method; target = asked.target; fields = sent_fields asked.destination (header_text h) (length content); body = content }) (header_is asked content key sign some is)
    ∙ ap (λ c. record { method = asked.method; target = asked.target; fields = sent_fields asked.destination (header_text (header_of asked key sign)) (length c); body = c }) is

-- a canonical text of the profile is not empty
pub canonical_some : (v : Data) → all_whole v ≡ true → 0 < length (canonical_text v)
canonical_some null whole = omega arith
canonical_some (boolean true) whole = omega arith
canonical_some (boolean false) whole = omega arith
canonical_some (number (unsigned n)) whole = let small : n < 2 ^ 53 = ltb-true n (2 ^ 53) whole in decimal_nonempty n (omega (arith, small))
canonical_some (number (negative (pos n))) whole = cc
canonical_some (number (negative (negsuc n))) whole = omega arith
canonical_some (number (float x)) whole = cc
canonical_some (string s) whole = omega arith
canonical_some (array ds) whole = omega arith
canonical_some (object ms) whole = omega arith

ascii_key : (k : List ℕ) → are_ascii k ≡ true → is_utf8 k ≡ true
ascii_key k a = is_utf8-from_IsUtf8 k (IsUtf8-are_ascii k a)

before : (k l : List ℕ) → are_ascii k ≡ true → are_ascii l ≡ true → slice_cmp nat_cmp k l ≡ Less → comes_before k l ≡ true
before k l a b order = ap is_lt (chars_order k l (IsUtf8-are_ascii k a) (IsUtf8-are_ascii l b) ∙ order)

signed_profile : (asked : SignableJson) → IsProfile asked.content → IsProfile (signed_value asked)
signed_profile asked is = record {
  whole = rw is.whole refl;
  rising = rw (
    ascii_key (codes "content") refl,
    before (codes "content") (codes "destination") refl refl refl,
    is.rising,
    ascii_key (codes "destination") refl,
    before (codes "destination") (codes "method") refl refl refl,
    ascii_key (codes "method") refl,
    before (codes "method") (codes "origin") refl refl refl,
    ascii_key (codes "origin") refl,
    before (codes "origin") (codes "uri") refl refl refl,
    ascii_key (codes "uri") refl,
  ) refl;
}

pub signed_canonical : (asked : SignableJson) → IsProfile asked.content → IsCanonicalText (signed_value asked) (signed_text asked)
signed_canonical asked is = let whole = signed_profile asked is in text_has (signed_value asked) whole.whole whole.rising

pub request_made : (s : Signable) (key : List ℕ) (sign : List ℕ → List ℕ) (method target body : List ℕ) (fields : List (List ℕ × List ℕ)) → method ≡ s.method → target ≡ s.target
    → fields ≡ (request_for s key sign).fields → body ≡ s.content
    → (let made : RequestValue = record { method = method; target = target; fields = fields; body = body } in made ≡ request_for s key sign)
request_made s key sign method target body fields m t f b =
    ap (λ v. record { method = v; target = target; fields = fields; body = body }) m
    ∙ ap (λ v. record { method = s.method; target = v; fields = fields; body = body }) t
    ∙ ap (λ v. record { method = s.method; target = s.target; fields = v; body = body }) f
    ∙ ap (λ v. record { method = s.method; target = s.target; fields = (request_for s key sign).fields; body = v }) b
