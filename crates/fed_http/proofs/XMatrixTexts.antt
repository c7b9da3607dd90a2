-- The text of an Authorization field is read as what it was written from.
use Rattle.std.proofs.Common.{◌≡◌, ℕ, ◌+◌, ◌<◌, ◌==◌, ◌||◌, Bool, true, false, cond, List, [], ◌∷◌, ◌++◌, length, drop, get_or, codes, Option, Some, None, refl, sym, ap, ◌∙◌, inl, inr, arith, append_assoc}
use Rattle.std.proofs.lemmas.Bool.Decides.{nat_tests}
use Rattle.std.proofs.lemmas.List.{append-nil, drop_more}
use Rattle.base64.specs.Engines.{standard_no_pad}
use Rattle.base64.specs.GeneralPurpose.{IsBytes, encode_of}
use Rattle.fed_http.specs.XMatrix.{XMatrixValue, IsEscaped, IsWritten, Parameter, AreFurther, Says, IsXMatrix}
use Rattle.fed_http.specs.XMatrixWriting.{escaped, in_quotes, destination_text, header_text}

-- ---- one character more

escape_step : (b : Bool) (c : ℕ) (done rest : List ℕ) → done ++ cond b (92 ∷ c ∷ rest) (c ∷ rest) ≡ cond b (done ++ 92 ∷ c ∷ []) (done ++ c ∷ []) ++ rest
escape_step true c done rest = sym (append_assoc done (92 ∷ c ∷ []) rest)
escape_step false c done rest = sym (append_assoc done (c ∷ []) rest)

pub escaped_more : (done value : List ℕ) (i : ℕ) → i < length value
    → done ++ escaped (drop i value) ≡ cond (get_or value i 0 == 34 || get_or value i 0 == 92) (done ++ 92 ∷ get_or value i 0 ∷ []) (done ++ get_or value i 0 ∷ []) ++ escaped (drop (i + 1) value)
escaped_more done value i h =
    ap (λ t. done ++ escaped t) (drop_more value i 0 h) ∙ escape_step (get_or value i 0 == 34 || get_or value i 0 == 92) (get_or value i 0) done (escaped (drop (i + 1) value))

-- ---- what is written between quotes

is_escaped : (value : List ℕ) → IsEscaped value (escaped value)
is_escaped [] = refl
is_escaped (c ∷ value) = by (is_escaped value) (c == 34 || c == 92) refl
  where
    by : IsEscaped value (escaped value) → (b : Bool) → (c == 34 || c == 92) ≡ b → IsEscaped (c ∷ value) (cond b (92 ∷ c ∷ escaped value) (c ∷ escaped value))
    by rest true is = (escaped value, rest, inl refl)
    by rest false is = (escaped value, rest, inr (grind (arith, nat_tests), grind (arith, nat_tests), refl))

written_quoted : (value : List ℕ) → IsWritten value (in_quotes value)
written_quoted value = inl (escaped value, is_escaped value, refl)

-- ---- the parameters

abbrev key_and_signature : List ℕ → List ℕ → List Parameter
key_and_signature key signature = (codes "key", key) ∷ (codes "sig", signature) ∷ []

abbrev end_text : List ℕ → List ℕ → List ℕ
end_text key signature = codes ",key=" ++ (in_quotes key ++ (codes ",sig=" ++ in_quotes signature))

are_last : (key signature : List ℕ) → AreFurther (key_and_signature key signature) (end_text key signature)
are_last key signature = (
  [],
  [],
  codes "key" ++ 61 ∷ in_quotes key,
  codes ",sig=" ++ in_quotes signature,
  refl,
  refl,
  (in_quotes key, refl, written_quoted key, refl),
  ([], [], codes "sig" ++ 61 ∷ in_quotes signature, [], refl, refl, (in_quotes signature, refl, written_quoted signature, refl), refl, ap (λ t. codes ",sig=" ++ t) (sym (append-nil (in_quotes signature)))),
  refl,
)

abbrev behind_origin : Option (List ℕ) → List ℕ → List ℕ → List Parameter
behind_origin None key signature = key_and_signature key signature
behind_origin (Some name) key signature = (codes "destination", name) ∷ key_and_signature key signature

are_further : (destination : Option (List ℕ)) (key signature : List ℕ) → AreFurther (behind_origin destination key signature) (destination_text destination ++ end_text key signature)
are_further None key signature = are_last key signature
are_further (Some name) key signature =
    ([], [], codes "destination" ++ 61 ∷ in_quotes name, end_text key signature, refl, refl, (in_quotes name, refl, written_quoted name, refl), are_last key signature, refl)

they_say : (origin : List ℕ) (destination : Option (List ℕ)) (key signature : List ℕ) → length signature ≡ 64 → IsBytes signature
    → Says ((codes "origin", origin) ∷ behind_origin destination key (encode_of standard_no_pad signature)) (record { origin = origin; destination = destination; key = key; signature = signature })
they_say origin None key signature count bytes = record {
  origin = refl;
  destination = refl;
  key = refl;
  signature = (encode_of standard_no_pad signature, refl, record { bytes = bytes; count = count; text_is = refl });
}
they_say origin (Some name) key signature count bytes = record {
  origin = refl;
  destination = refl;
  key = refl;
  signature = (encode_of standard_no_pad signature, refl, record { bytes = bytes; count = count; text_is = refl });
}

pub written_is : (h : XMatrixValue) → length h.signature ≡ 64 → IsBytes h.signature → IsXMatrix (header_text h) h
written_is h count bytes =
    let signature = encode_of standard_no_pad h.signature in
    let rest = destination_text h.destination ++ end_text h.key signature in (
      codes "X-Matrix",
      [],
      codes "origin=" ++ (in_quotes h.origin ++ rest),
      (codes "origin", h.origin) ∷ behind_origin h.destination h.key signature,
      refl,
      refl,
      (codes "origin" ++ 61 ∷ in_quotes h.origin, rest, (in_quotes h.origin, refl, written_quoted h.origin, refl), are_further h.destination h.key signature, refl),
      they_say h.origin h.destination h.key h.signature count bytes,
      refl,
    )

-- ---- the text, piece by piece

pub joined_seven : {x₀ x₁ x₂ x₃ x₄ x₅ x₆ : List ℕ} (a b c d e f : List ℕ) → x₀ ≡ [] → x₁ ≡ x₀ ++ a → x₂ ≡ x₁ ++ b → x₃ ≡ x₂ ++ c → x₄ ≡ x₃ ++ d → x₅ ≡ x₄ ++ e → x₆ ≡ x₅ ++ f
    → (x₇ g : List ℕ) → x₇ ≡ x₆ ++ g → x₇ ≡ a ++ (b ++ (c ++ (d ++ (e ++ (f ++ g)))))
joined_seven a b c d e f p₀ p₁ p₂ p₃ p₄ p₅ p₆ x₇ g p₇ = rw (p₇, p₆, p₅, p₄, p₃, p₂, p₁, p₀, append_assoc, append_assoc, append_assoc, append_assoc, append_assoc) refl
