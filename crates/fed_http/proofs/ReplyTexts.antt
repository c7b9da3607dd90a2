-- What is written of a reply is a text of it.
use Rattle.std.proofs.Common.{◌≡◌, ℕ, ◌+◌, ◌≤◌, ◌<◌, ◌^◌, ◌/◌, ◌%◌, ◌&&◌, not, cond, Bool, true, false, List, [], ◌∷◌, ◌++◌, length, map, reverse, All, Some, None, codes, decimal, refl, sym, ap, subst, ◌∙◌, arith, append_assoc, length-append}
use Rattle.std.specs.Prelude.{nat_le, IsTrue}
use Rattle.std.proofs.lemmas.Bool.Decides.{nat_tests}
use Rattle.std.proofs.lemmas.Bool.{false≢true, lt-ltb, le-leb}
use Rattle.std.proofs.lemmas.List.{append-nil, reverse-append, reverse-reverse}
use Rattle.std.proofs.lemmas.List.Folds.{list_all-append}
use Rattle.std.proofs.lemmas.List.Elements.{All-nil, All-cons, All-map, All-weaker}
use Rattle.std.proofs.lemmas.Fmt.{decimal_is_IsNumeral, length-decimal-le, decimal_step, decimal_digit, decimal_by_steps}
use Rattle.std.specs.List.{flat_map, list_all}
use Rattle.std.specs.Char.{is_ascii_digit}
use Rattle.std.specs.Str.Parse.{digits_value}
use Rattle.httparse.specs.Grammar.{IsField, AllPass, is_token_byte, is_ows, skip_ows, is_value_byte, print_response, ResponseHead, IsResponseHead, trim_ows}
use Rattle.httparse.specs.Grammar.LineEnd.{crlf}
use Rattle.fed_http.specs.Message.{Answer}
use Rattle.fed_http.specs.Framing.{framing_of, length_of, is_length}
use Rattle.fed_http.specs.Head.{reply, reply_framing}
use Rattle.fed_http.specs.Text.{IsReplyText}
use Rattle.fed_http.specs.declared.framing.Framing.TheVariants.{Fixed}
use Rattle.fed_http.specs.declared.message.Message.TheVariants.{Reply}
use Rattle.fed_http.specs.Writing.{field_line, line_end, status_line, reply_fields, reply_bytes, IsWritableReply, IsWritableField, phrase_of}
use Rattle.fed_http.proofs.WrittenTexts.{line, names, lines, valid_field, phrase_in}
use Rattle.http.specs.StatusCode.{reason_phrase}
use Rattle.fed_http.proofs.Runs.{front, back}
use Rattle.fed_http.proofs.Phrases.{phrases_pass, none_or_some}

abbrev head_of : Answer → ResponseHead
head_of m = record { blank = []; minor = 1; digits = decimal m.status; reason = Some (phrase_of m.status); line_end = crlf; fields = map line (reply_fields m.body); last = crlf }

regrouped : (v d p e l s body : List ℕ) → ((((v ++ 32 ∷ d) ++ 32 ∷ p) ++ e) ++ (l ++ s)) ++ body ≡ (v ++ 32 ∷ (d ++ (32 ∷ (p ++ e)))) ++ (l ++ (s ++ body))
regrouped v d p e l s body =
    append_assoc (((v ++ 32 ∷ d) ++ 32 ∷ p) ++ e) (l ++ s) body ∙ ap (λ t. (((v ++ 32 ∷ d) ++ 32 ∷ p) ++ e) ++ t) (append_assoc l s body)
    ∙ ap (λ t. t ++ (l ++ (s ++ body))) (append_assoc (v ++ 32 ∷ d) (32 ∷ p) e ∙ append_assoc v (32 ∷ d) (32 ∷ (p ++ e)))

print_with : (m : Answer) (body : List ℕ) → print_response (head_of m) ++ body ≡ status_line m.status (phrase_of m.status) ++ (flat_map field_line (reply_fields m.body) ++ (line_end ++ body))
unfolding print_response
print_with m body =
    ap (λ l. ((((codes "HTTP/1.1" ++ 32 ∷ decimal m.status) ++ 32 ∷ phrase_of m.status) ++ line_end) ++ (l ++ line_end)) ++ body) (lines (reply_fields m.body))
    ∙ regrouped (codes "HTTP/1.1") (decimal m.status) (phrase_of m.status) line_end (flat_map field_line (reply_fields m.body)) line_end body

-- ---- numbers

three : (n : ℕ) → 100 ≤ n → n < 1000 → decimal n ≡ (48 + n / 10 / 10) ∷ (48 + n / 10 % 10) ∷ (48 + n % 10) ∷ []
three n low high =
    decimal_step n (omega arith) (omega arith)
    ∙ ap (λ t. t ++ (48 + n % 10) ∷ []) (decimal_step (n / 10) (omega arith) (omega arith) ∙ ap (λ t. t ++ (48 + n / 10 % 10) ∷ []) (decimal_digit (n / 10 / 10) (omega arith)))

digit : (d : ℕ) → d < 10 → is_ascii_digit (48 + d) ≡ true
digit d h = grind (arith, nat_tests)

three_digits : (n : ℕ) → 100 ≤ n → n < 1000 → list_all is_ascii_digit (decimal n) ≡ true
three_digits n low high = rw (three n low high, digit (n / 10 / 10) (omega arith), digit (n / 10 % 10) (omega arith), digit (n % 10) (omega arith)) refl

-- digits, and at least one
abbrev AreDigits : ℕ → List ℕ → Type 0
AreDigits n ds = (list_all is_ascii_digit ds ≡ true) × (0 < length ds)

are_digits : (n : ℕ) → n < 2 ^ 64 → AreDigits n (decimal n)
are_digits = decimal_by_steps AreDigits
    (λ n h. (rw (digit n h) refl, omega arith))
    (λ n ds h so_far. (list_all-append is_ascii_digit ds ((48 + n % 10) ∷ []) ∙ rw (so_far.0, digit (n % 10) (omega arith)) refl, rw length-append (omega arith)))

-- ---- values without white space around them

skip_black : (ds : List ℕ) → list_all (λ c. not (is_ows c)) ds ≡ true → skip_ows ds ≡ ds
skip_black [] h = refl
skip_black (d ∷ ds) h = by (is_ows d) refl
  where
    by : (b : Bool) → is_ows d ≡ b → cond b (skip_ows ds) (d ∷ ds) ≡ d ∷ ds
    by true is = absurd (false≢true (sym (ap not is) ∙ front (not (is_ows d)) (list_all (λ c. not (is_ows c)) ds) h))
    by false is = refl

reverse_all : (test : ℕ → Bool) (ds : List ℕ) → list_all test ds ≡ true → list_all test (reverse ds) ≡ true
reverse_all test [] h = refl
reverse_all test (d ∷ ds) h =
    ap (list_all test) (reverse-append (d ∷ []) ds) ∙ list_all-append test (reverse ds) (d ∷ [])
    ∙ rw (reverse_all test ds (back (test d) (list_all test ds) h), front (test d) (list_all test ds) h) refl

trim_black : (ds : List ℕ) → list_all (λ c. not (is_ows c)) ds ≡ true → trim_ows (32 ∷ ds) ≡ ds
unfolding trim_ows
trim_black ds h =
    ap (λ t. reverse (skip_ows (reverse t))) (skip_black ds h) ∙ ap reverse (skip_black (reverse ds) (reverse_all (λ c. not (is_ows c)) ds h)) ∙ reverse-reverse ds

list_all_weaker : (p q : ℕ → Bool) → ((c : ℕ) → p c ≡ true → q c ≡ true) → (ds : List ℕ) → list_all p ds ≡ true → list_all q ds ≡ true
list_all_weaker p q weaker [] h = refl
list_all_weaker p q weaker (d ∷ ds) h = rw (weaker d (front (p d) (list_all p ds) h)) (list_all_weaker p q weaker ds (back (p d) (list_all p ds) h))

digits_black : (ds : List ℕ) → list_all is_ascii_digit ds ≡ true → list_all (λ c. not (is_ows c)) ds ≡ true
digits_black ds h = list_all_weaker is_ascii_digit (λ c. not (is_ows c)) (λ c d. grind (arith, nat_tests)) ds h

digits_value_bytes : (ds : List ℕ) → list_all is_ascii_digit ds ≡ true → list_all is_value_byte ds ≡ true
digits_value_bytes ds h = list_all_weaker is_ascii_digit is_value_byte (λ c d. grind (arith, nat_tests)) ds h

all_pass : (test : ℕ → Bool) (ds : List ℕ) → list_all test ds ≡ true → AllPass test ds
all_pass test [] h = All-nil (λ b. IsTrue (test b))
all_pass test (d ∷ ds) h = All-cons (λ b. IsTrue (test b)) d ds (front (test d) (list_all test ds) h) (all_pass test ds (back (test d) (list_all test ds) h))

-- ---- the fields

pub content_type : IsWritableField (codes "Content-Type", codes "application/json")
unfolding is_token_byte
content_type = record { name = (omega arith, all_pass is_token_byte (codes "Content-Type") refl); value = all_pass is_value_byte (codes "application/json") refl; trimmed = trim_black (codes "application/json") refl }

pub content_length : (n : ℕ) → n < 2 ^ 64 → IsWritableField (codes "Content-Length", decimal n)
unfolding is_token_byte
content_length n h =
    let digits = are_digits n h in
    record { name = (omega arith, all_pass is_token_byte (codes "Content-Length") refl); value = all_pass is_value_byte (decimal n) (digits_value_bytes (decimal n) digits.0); trimmed = trim_black (decimal n) (digits_black (decimal n) digits.0) }

pub connection : IsWritableField (codes "Connection", codes "close")
unfolding is_token_byte
connection = record { name = (omega arith, all_pass is_token_byte (codes "Connection") refl); value = all_pass is_value_byte (codes "close") refl; trimmed = trim_black (codes "close") refl }

writable_fields : (body : List ℕ) → length body < 2 ^ 64 → All IsWritableField (reply_fields body)
writable_fields body h =
    All-cons IsWritableField (codes "Content-Type", codes "application/json") ((codes "Content-Length", decimal (length body)) ∷ (codes "Connection", codes "close") ∷ []) content_type
    (All-cons IsWritableField (codes "Content-Length", decimal (length body)) ((codes "Connection", codes "close") ∷ []) (content_length (length body) h)
    (All-cons IsWritableField (codes "Connection", codes "close") [] connection (All-nil IsWritableField)))

pub length_given : (n : ℕ) → n ≤ 16777216 → length_of (decimal n) ≡ Some (Fixed n)
length_given n h =
    let digits = are_digits n (omega arith) in
    let short : length (decimal n) ≤ 19 = length-decimal-le 19 n (omega arith) (omega arith) (omega arith) in
    let fits : is_length (decimal n) ≡ true = rw (lt-ltb 0 (length (decimal n)) digits.1, le-leb (length (decimal n)) 19 short, digits.0) refl in
    ap (λ b. cond b (Some (Fixed (digits_value 10 (decimal n)))) None) fits ∙ ap (λ v. Some (Fixed v)) (decimal_is_IsNumeral n (omega arith)).1

framed : (body : List ℕ) → length body ≤ 16777216 → framing_of (reply_fields body) ≡ Some (Fixed (length body))
framed body h = length_given (length body) h

phrase_passes : (n : ℕ) → 100 ≤ n → n < 1000 → (list_all is_value_byte (phrase_of n) && nat_le (length (phrase_of n)) 64) ≡ true
phrase_passes n low high = ap (λ t. list_all is_value_byte t && nat_le (length t) 64) (phrase_in n (low, high)) ∙ none_or_some (reason_phrase n) (phrases_pass n)

pub phrase_short : (n : ℕ) → 100 ≤ n → n < 1000 → length (phrase_of n) ≤ 64
phrase_short n low high = let short = back (list_all is_value_byte (phrase_of n)) _ (phrase_passes n low high) in grind (arith, nat_tests, short)

valid_head : (m : Answer) → IsWritableReply m → IsResponseHead (head_of m)
valid_head m h = record {
  minor = omega arith;
  digits = (ap length (three m.status (omega (arith, h.final)) h.status), all_pass is_ascii_digit (decimal m.status) (three_digits m.status (omega (arith, h.final)) h.status));
  reason = all_pass is_value_byte (phrase_of m.status) (front (list_all is_value_byte (phrase_of m.status)) _ (phrase_passes m.status (omega (arith, h.final)) h.status));
  fields = All-map IsField line (reply_fields m.body) (All-weaker IsWritableField (λ f. IsField (line f)) valid_field (reply_fields m.body) (writable_fields m.body (omega (arith, h.body_fits))));
}

short_head : (m : Answer) → IsWritableReply m → length (print_response (head_of m)) ≤ 16384
short_head m h =
    let few = phrase_short m.status (omega (arith, h.final)) h.status in
    let digits : length (decimal (length m.body)) ≤ 19 = length-decimal-le 19 (length m.body) (omega arith) (omega (arith, h.body_fits)) (omega (arith, h.body_fits)) in
    let status : length (decimal m.status) ≡ 3 = ap length (three m.status (omega (arith, h.final)) h.status) in
    subst (λ t. length t ≤ 16384) (sym (sym (append-nil (print_response (head_of m))) ∙ print_with m [])) (simp length-append (omega (arith, few, digits, status)))

status_is : (m : Answer) → IsWritableReply m → digits_value 10 (decimal m.status) ≡ m.status
status_is m h = (decimal_is_IsNumeral m.status (omega (arith, h.status))).1

pub reply_text_is : (m : Answer) → IsWritableReply m → IsReplyText m (reply_bytes m)
reply_text_is m h = record {
  head = reply (head_of m);
  framing = Fixed (length m.body);
  body = m.body;
  body_text = m.body;
  valid = valid_head m h;
  within = record { few = omega arith; short = short_head m h };
  final = subst (λ n. 200 ≤ n) (sym (status_is m h)) h.final;
  framed = ap reply_framing (ap framing_of (names (reply_fields m.body) (writable_fields m.body (omega (arith, h.body_fits)))) ∙ framed m.body h.body_fits);
  is_body = (refl, refl);
  body_fits = h.body_fits;
  message_is = ap (λ s. let same : Answer = record { status = s; body = m.body } in Reply same) (sym (status_is m h));
  text_is = sym (print_with m m.body);
}
