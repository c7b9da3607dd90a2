-- What is written of a message is a text of it.
use Rattle.std.proofs.Common.{◌≡◌, ℕ, ◌≤◌, ◌&&◌, Bool, true, false, cond, nat_lt, List, [], ◌∷◌, ◌++◌, length, map, All, Option, Some, None, option_map, unwrap_or, Bor, codes, refl, sym, ap, subst, ◌∙◌, arith, append_assoc}
use Rattle.std.specs.Prelude.{nat_le, IsTrue}
use Rattle.std.proofs.lemmas.Bool.Decides.{nat_tests}
use Rattle.std.proofs.lemmas.List.{append-nil, length-map}
use Rattle.std.proofs.lemmas.List.Elements.{All-head, All-tail, All-cons, All-map, All-weaker}
use Rattle.std.specs.List.{flat_map}
use Rattle.http.specs.StatusCode.{IsStatusCode, reason_phrase}
use Rattle.httparse.specs.Grammar.{Field, IsField, is_value_byte, print_field, print_request, RequestHead, IsRequestHead}
use Rattle.httparse.specs.Grammar.LineEnd.{crlf}
use Rattle.httparse.specs.Spans.{name_and_value}
use Rattle.fed_http.specs.Message.{RequestValue}
use Rattle.fed_http.specs.Framing.{framing_of}
use Rattle.fed_http.specs.Limits.{max_head}
use Rattle.fed_http.specs.Head.{request, IsWithinLimits}
use Rattle.fed_http.specs.Text.{IsRequestText}
use Rattle.fed_http.specs.declared.framing.Framing.TheVariants.{Fixed}
use Rattle.fed_http.specs.declared.message.Message.TheVariants.{Request}
use Rattle.fed_http.specs.Writing.{field_line, line_end, request_bytes, IsWritable, IsWritableField, phrase_of}

abbrev pub Pair : Type 0
Pair = List ℕ × List ℕ

-- the line of a field: a space stands behind the colon
abbrev pub line : Pair → Field
line f = record { name = f.0; raw = 32 ∷ f.1; end = crlf }

abbrev head_of : RequestValue → RequestHead
head_of m = record { blank = []; method = m.method; target = m.target; minor = 1; line_end = crlf; fields = map line m.fields; last = crlf }

pub names : (fs : List Pair) → All IsWritableField fs → map name_and_value (map line fs) ≡ fs
names [] h = refl
names (f ∷ fs) h =
    ap (λ v. (f.0, v) ∷ map name_and_value (map line fs)) (All-head IsWritableField f fs h).trimmed
    ∙ ap (λ t. f ∷ t) (names fs (All-tail IsWritableField f fs h))

one_line : (f : Pair) → print_field (line f) ≡ field_line f
one_line f = append_assoc f.0 (58 ∷ 32 ∷ f.1) line_end

pub lines : (fs : List Pair) → flat_map print_field (map line fs) ≡ flat_map field_line fs
lines [] = refl
lines (f ∷ fs) = ap (λ t. t ++ flat_map print_field (map line fs)) (one_line f) ∙ ap (λ t. field_line f ++ t) (lines fs)

regrouped : (a b v e l s body : List ℕ) → ((((a ++ 32 ∷ b) ++ 32 ∷ v) ++ e) ++ (l ++ s)) ++ body ≡ (a ++ 32 ∷ (b ++ (32 ∷ v ++ e))) ++ (l ++ (s ++ body))
regrouped a b v e l s body =
    append_assoc (((a ++ 32 ∷ b) ++ 32 ∷ v) ++ e) (l ++ s) body ∙ ap (λ t. (((a ++ 32 ∷ b) ++ 32 ∷ v) ++ e) ++ t) (append_assoc l s body)
    ∙ ap (λ t. t ++ (l ++ (s ++ body))) (append_assoc (a ++ 32 ∷ b) (32 ∷ v) e ∙ append_assoc a (32 ∷ b) (32 ∷ v ++ e))

print_with : (m : RequestValue) (body : List ℕ) → print_request (head_of m) ++ body ≡ request_bytes (record m { body = body })
unfolding print_request
print_with m body = rw (lines m.fields) (regrouped m.method m.target (codes "HTTP/1.1") line_end (flat_map field_line m.fields) line_end body)

pub valid_field : (f : Pair) → IsWritableField f → IsField (line f)
valid_field f h = record { name = h.name; raw = All-cons (λ x. IsTrue (is_value_byte x)) 32 f.1 refl h.value }

valid_head : (m : RequestValue) → IsWritable m → IsRequestHead (head_of m)
valid_head m h = record {
  method = h.method;
  target = h.target;
  target_text = h.target_text;
  minor = omega arith;
  fields = All-map IsField line m.fields (All-weaker IsWritableField (λ f. IsField (line f)) valid_field m.fields h.fields);
}

within : (m : RequestValue) → IsWritable m → IsWithinLimits (request (head_of m))
within m h = record {
  few = subst (λ n. n ≤ 64) (sym (length-map m.fields line)) h.few;
  short = subst (λ t. length t ≤ max_head) (sym (sym (append-nil (print_request (head_of m))) ∙ print_with m [])) h.head_fits;
}

pub request_text_is : (m : RequestValue) → IsWritable m → IsRequestText m (request_bytes m)
request_text_is m h = record {
  head = request (head_of m);
  framing = Fixed (length m.body);
  body = m.body;
  body_text = m.body;
  valid = valid_head m h;
  within = within m h;
  final = tt;
  framed = ap framing_of (names m.fields h.fields) ∙ h.framed;
  is_body = (refl, refl);
  body_fits = h.body_fits;
  message_is = ap (λ fs. let same : RequestValue = record m { fields = fs } in Request same) (sym (names m.fields h.fields));
  text_is = sym (print_with m m.body);
}

-- ---- replies

in_range : (n : ℕ) (xs : List ℕ) → IsStatusCode n → cond (nat_le 100 n && nat_lt n 1000) xs [] ≡ xs
in_range n xs is = by (nat_le 100 n && nat_lt n 1000) (grind (arith, nat_tests, is.0, is.1))
  where
    by : (b : Bool) → b ≡ true → cond b xs [] ≡ xs
    by true h = refl
    by false h = absurd (cc)

out_of_range : (n : ℕ) (xs : List ℕ) → (IsStatusCode n → ⊥) → cond (nat_le 100 n && nat_lt n 1000) xs [] ≡ []
out_of_range n xs none = by (nat_le 100 n && nat_lt n 1000) refl
  where
    by : (b : Bool) → (nat_le 100 n && nat_lt n 1000) ≡ b → cond b xs [] ≡ []
    by true h = absurd (none (grind (arith, nat_tests), grind (arith, nat_tests)))
    by false h = refl

pub phrase_in : (n : ℕ) → IsStatusCode n → phrase_of n ≡ unwrap_or (reason_phrase n) []
unfolding phrase_of
phrase_in n is = in_range n (unwrap_or (reason_phrase n) []) is

pub phrase_out : (n : ℕ) → (IsStatusCode n → ⊥) → phrase_of n ≡ []
unfolding phrase_of
phrase_out n none = out_of_range n (unwrap_or (reason_phrase n) []) none

pub unwrap_now : (r : Option (Bor (List ℕ))) (d : Bor (List ℕ)) → d.now ≡ [] → (unwrap_or r d).now ≡ unwrap_or (option_map (λ s. s.now) r) []
unwrap_now None d h = h
unwrap_now (Some s) d h = refl

pub reply_parts : {x₁ x₂ x₃ x₄ x₅ : List ℕ} (s a b c e : List ℕ) → x₁ ≡ s → x₂ ≡ x₁ ++ a → x₃ ≡ x₂ ++ b → x₄ ≡ x₃ ++ c → x₅ ≡ x₄ ++ e → x₅ ≡ s ++ ((a ++ (b ++ (c ++ []))) ++ e)
reply_parts s a b c e p₁ p₂ p₃ p₄ p₅ = rw (p₅, p₄, p₃, p₂, p₁) (simp (append_assoc, append-nil) refl)
