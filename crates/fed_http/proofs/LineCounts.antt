-- How many lines end in bytes, in a section and in a head.
use Rattle.std.proofs.Common.{arith, ◌≡◌, ℕ, suc, ◌+◌, ◌<◌, ◌≤◌, Bool, true, false, cond, IsTrue, ◌==◌, List, [], ◌∷◌, ◌++◌, length, drop, All, refl, sym, ap, ◌∙◌, append_assoc, append-nil, length-append, ne_eqb, Option, Some, None, flat_map}
use Rattle.std.proofs.lemmas.Bool.{false≢true}
use Rattle.std.proofs.lemmas.List.Recursion.{is_count_by}
use Rattle.std.specs.List.{prefix_len, count_by}
use Rattle.std.proofs.lemmas.List.Elements.{All-head, All-tail}
use Rattle.httparse.specs.Grammar.{LineEnd, crlf, lf, print_end, print_blank, print_version, print_reason, reason_phrase, Field, IsField, print_field, print_section, IsToken, AllPass, is_token_byte, is_uri_byte, is_value_byte, RequestHead, print_request, ResponseHead, print_response}
use Rattle.std.specs.Char.{is_ascii_digit}
use Rattle.httparse.proofs.GrammarLemmas.{cons-append, print_request-append, print_response-append}
use Rattle.httparse.proofs.PieceLemmas.{token_is_no_newline}
use Rattle.fed_http.specs.Lines.{line_feeds, is_line_byte, behind_ends, head_lines}
use Rattle.fed_http.specs.Head.{Head, request, reply, print_head, IsHeadOf, field_lines}
use Rattle.fed_http.specs.declared.message.Kind.{Kind}
use Rattle.fed_http.specs.declared.message.Kind.TheVariants.{Requests, Replies}

-- ---- line feeds

pub feeds-append : (xs ys : List ℕ) → line_feeds (xs ++ ys) ≡ line_feeds xs + line_feeds ys
feeds-append [] ys = omega arith
feeds-append (x ∷ xs) ys = elim (x == 10) as (λ b. cond b (suc (line_feeds (xs ++ ys))) (line_feeds (xs ++ ys)) ≡ cond b (suc (line_feeds xs)) (line_feeds xs) + line_feeds ys) [
  | true ↦ omega (arith, feeds-append xs ys)
  | false ↦ omega (arith, feeds-append xs ys)
]

pub feeds_counted : (xs : List ℕ) → count_by (λ b. b == 10) xs ≡ line_feeds xs
feeds_counted xs = sym (is_count_by line_feeds (λ b. b == 10) refl counted xs)
  where
    counted : (x : ℕ) (xs : List ℕ) → line_feeds (x ∷ xs) ≡ cond (x == 10) (1 + line_feeds xs) (line_feeds xs)
    counted x xs = elim (x == 10) as (λ b. cond b (suc (line_feeds xs)) (line_feeds xs) ≡ cond b (1 + line_feeds xs) (line_feeds xs)) [ true ↦ omega arith | false ↦ refl ]

not_ten : (test : ℕ → Bool) → test 10 ≡ false → (x : ℕ) → IsTrue (test x) → (x == 10) ≡ false
not_ten test never x passes = ne_eqb x 10 (λ e. false≢true (sym never ∙ ap test (sym e) ∙ passes))

-- a run of bytes of which none is a line feed
pub no_feeds : (test : ℕ → Bool) → test 10 ≡ false → (xs : List ℕ) → AllPass test xs → line_feeds xs ≡ 0
no_feeds test never [] all = refl
no_feeds test never (x ∷ xs) all =
    ap (λ b. cond b (suc (line_feeds xs)) (line_feeds xs)) (not_ten test never x (All-head (λ b. IsTrue (test b)) x xs all)) ∙ no_feeds test never xs (All-tail (λ b. IsTrue (test b)) x xs all)

-- ---- sections

-- a line end without its line feed
abbrev pub end_front : LineEnd → List ℕ
end_front crlf = 13 ∷ []
end_front lf = []

pub end_is : (e : LineEnd) → print_end e ≡ end_front e ++ 10 ∷ []
end_is crlf = refl
end_is lf = refl

pub end_feeds : (e : LineEnd) → line_feeds (print_end e) ≡ 1
end_feeds crlf = refl
end_feeds lf = refl

front_feeds : (e : LineEnd) → line_feeds (end_front e) ≡ 0
front_feeds crlf = refl
front_feeds lf = refl

token_feed : is_token_byte 10 ≡ false
unfolding is_token_byte
token_feed = refl

field_feeds : (f : Field) → IsField f → line_feeds (print_field f) ≡ 1
field_feeds f is =
    omega (arith, feeds-append (f.name ++ 58 ∷ f.raw) (print_end f.end), feeds-append f.name (58 ∷ f.raw), no_feeds is_token_byte token_feed f.name is.name.1, no_feeds is_value_byte refl f.raw is.raw, end_feeds f.end)

fields_feeds : (fs : List Field) → All IsField fs → line_feeds (flat_map print_field fs) ≡ length fs
fields_feeds [] all = refl
fields_feeds (f ∷ fs) all =
    omega (arith, feeds-append (print_field f) (flat_map print_field fs), field_feeds f (All-head IsField f fs all), fields_feeds fs (All-tail IsField f fs all))

-- a section without its last line feed
abbrev pub section_front : List Field → LineEnd → List ℕ
section_front fs e = flat_map print_field fs ++ end_front e

pub section_is : (fs : List Field) (e : LineEnd) → print_section fs e ≡ section_front fs e ++ 10 ∷ []
section_is fs e = ap (λ v. flat_map print_field fs ++ v) (end_is e) ∙ sym (append_assoc (flat_map print_field fs) (end_front e) (10 ∷ []))

pub section_feeds : (fs : List Field) (e : LineEnd) → All IsField fs → line_feeds (section_front fs e) ≡ length fs
section_feeds fs e all = omega (arith, feeds-append (flat_map print_field fs) (end_front e), fields_feeds fs all, front_feeds e)

-- ---- heads

pub lines-append : (xs ys : List ℕ) → head_lines xs ≤ head_lines (xs ++ ys)
lines-append [] ys = omega arith
lines-append (x ∷ xs) ys = elim (is_line_byte x) as (λ b. line_feeds (cond b (behind_ends xs) (x ∷ xs)) ≤ line_feeds (cond b (behind_ends (xs ++ ys)) ((x ∷ xs) ++ ys))) [
  | true ↦ lines-append xs ys
  | false ↦ omega (arith, feeds-append (x ∷ xs) ys)
]

-- the bytes behind the run of line bytes in front
pub behind_run : (xs : List ℕ) → drop (prefix_len is_line_byte xs) xs ≡ behind_ends xs
behind_run [] = refl
behind_run (x ∷ xs) =
    let one : 1 + prefix_len is_line_byte xs ≡ suc (prefix_len is_line_byte xs) = omega arith in
    elim (is_line_byte x) as (λ b. drop (cond b (1 + prefix_len is_line_byte xs) 0) (x ∷ xs) ≡ cond b (behind_ends xs) (x ∷ xs)) [
      | true ↦ ap (λ n. drop n (x ∷ xs)) one ∙ behind_run xs
      | false ↦ refl
    ]

behind_blank : (es : List LineEnd) (c : ℕ) (xs : List ℕ) → is_line_byte c ≡ false → behind_ends (print_blank es ++ c ∷ xs) ≡ c ∷ xs
behind_blank [] c xs other = ap (λ b. cond b (behind_ends xs) (c ∷ xs)) other
behind_blank (crlf ∷ es) c xs other = behind_blank es c xs other
behind_blank (lf ∷ es) c xs other = behind_blank es c xs other

-- the lines behind the empty ones
lines_behind : (es : List LineEnd) (c : ℕ) (xs : List ℕ) → is_line_byte c ≡ false → head_lines (print_blank es ++ c ∷ xs) ≡ line_feeds (c ∷ xs)
lines_behind es c xs other = ap line_feeds (behind_blank es c xs other)

version_feeds : (minor : ℕ) → minor ≤ 1 → line_feeds (print_version minor) ≡ 0
version_feeds minor small = ap (λ b. cond b 1 0) (ne_eqb (48 + minor) 10 (λ e. omega arith))

reason_feeds : (reason : Option (List ℕ)) → AllPass is_value_byte (reason_phrase reason) → line_feeds (print_reason reason) ≡ 0
reason_feeds None all = refl
reason_feeds (Some phrase) all = no_feeds is_value_byte refl phrase all

-- what comes behind the first part of a first line, without its last line feed
abbrev pub rest_front : List ℕ → LineEnd → List Field → LineEnd → List ℕ
rest_front line e fs last = line ++ (print_end e ++ section_front fs last)

rest_feeds : (line : List ℕ) (e : LineEnd) (fs : List Field) (last : LineEnd) → line_feeds line ≡ 0 → All IsField fs → line_feeds (rest_front line e fs last) ≡ suc (length fs)
rest_feeds line e fs last none all =
    omega (arith, feeds-append line (print_end e ++ section_front fs last), feeds-append (print_end e) (section_front fs last), end_feeds e, section_feeds fs last all, none)

-- the first line of a head, behind the empty ones and without its end
abbrev pub request_line : RequestHead → List ℕ
request_line h = h.method ++ 32 ∷ (h.target ++ 32 ∷ print_version h.minor)

abbrev pub reply_line : ResponseHead → List ℕ
reply_line h = print_version h.minor ++ 32 ∷ (h.digits ++ print_reason h.reason)

request_line_feeds : (h : RequestHead) → IsHeadOf Requests (request h) → line_feeds (request_line h) ≡ 0
request_line_feeds h is =
    omega (
      arith,
      feeds-append h.method (32 ∷ (h.target ++ 32 ∷ print_version h.minor)),
      feeds-append h.target (32 ∷ print_version h.minor),
      no_feeds is_token_byte token_feed h.method is.method.1,
      no_feeds is_uri_byte refl h.target is.target.1,
      version_feeds h.minor is.minor,
    )

reply_line_feeds : (h : ResponseHead) → IsHeadOf Replies (reply h) → line_feeds (reply_line h) ≡ 0
reply_line_feeds h is =
    omega (
      arith,
      feeds-append (print_version h.minor) (32 ∷ (h.digits ++ print_reason h.reason)),
      feeds-append h.digits (print_reason h.reason),
      no_feeds is_ascii_digit refl h.digits is.digits.1,
      reason_feeds h.reason is.reason,
      version_feeds h.minor is.minor,
    )

-- a head without its last line feed
abbrev pub head_front : Head → List ℕ
head_front (request h) = print_blank h.blank ++ rest_front (request_line h) h.line_end h.fields h.last
head_front (reply h) = print_blank h.blank ++ rest_front (reply_line h) h.line_end h.fields h.last

pub head_is : (h : Head) → print_head h ≡ head_front h ++ 10 ∷ []
head_is (request h) =
    sym (append-nil (print_request h)) ∙ print_request-append h [] ∙ ap (λ v. print_blank h.blank ++ (h.method ++ 32 ∷ (h.target ++ 32 ∷ (print_version h.minor ++ (print_end h.line_end ++ (v ++ [])))))) (section_is h.fields h.last)
    ∙ regroup (print_blank h.blank) h.method h.target (print_version h.minor) (print_end h.line_end) (section_front h.fields h.last)
  where
    regroup : (a b c d e f : List ℕ) → a ++ (b ++ 32 ∷ (c ++ 32 ∷ (d ++ (e ++ ((f ++ 10 ∷ []) ++ []))))) ≡ (a ++ ((b ++ 32 ∷ (c ++ 32 ∷ d)) ++ (e ++ f))) ++ 10 ∷ []
    regroup a b c d e f = simp (append_assoc, cons-append, append-nil)
head_is (reply h) =
    sym (append-nil (print_response h)) ∙ print_response-append h [] ∙ ap (λ v. print_blank h.blank ++ (print_version h.minor ++ 32 ∷ (h.digits ++ (print_reason h.reason ++ (print_end h.line_end ++ (v ++ [])))))) (section_is h.fields h.last)
    ∙ regroup (print_blank h.blank) (print_version h.minor) h.digits (print_reason h.reason) (print_end h.line_end) (section_front h.fields h.last)
  where
    regroup : (a b c d e f : List ℕ) → a ++ (b ++ 32 ∷ (c ++ (d ++ (e ++ ((f ++ 10 ∷ []) ++ []))))) ≡ (a ++ ((b ++ 32 ∷ (c ++ d)) ++ (e ++ f))) ++ 10 ∷ []
    regroup a b c d e f = simp (append_assoc, cons-append, append-nil)

token_lines_of : (es : List LineEnd) (method more : List ℕ) → IsToken method → head_lines (print_blank es ++ (method ++ more)) ≡ line_feeds (method ++ more)
token_lines_of es [] more is = absurd (omega (arith, is.0))
token_lines_of es (c ∷ method) more is = lines_behind es c (method ++ more) (token_is_no_newline c (All-head (λ b. IsTrue (is_token_byte b)) c method is.1))

pub token_lines : (es : List LineEnd) (method more : List ℕ) → IsToken method → line_feeds (method ++ more) ≡ 0 → head_lines (print_blank es ++ method ++ more) ≡ 0
token_lines es method more is none = ap head_lines (append_assoc (print_blank es) method more) ∙ token_lines_of es method more is ∙ none

pub no_feeds_behind : (method target : List ℕ) → IsToken method → AllPass is_uri_byte target → line_feeds (method ++ 32 ∷ target) ≡ 0
no_feeds_behind method target is_method is_target =
    omega (arith, feeds-append method (32 ∷ target), no_feeds is_token_byte token_feed method is_method.1, no_feeds is_uri_byte refl target is_target)

pub front_lines : (kind : Kind) (h : Head) → IsHeadOf kind h → head_lines (head_front h) ≡ suc (length (field_lines h))
front_lines Requests (request h) is =
    let rest = 32 ∷ (h.target ++ 32 ∷ print_version h.minor) in
    let tail = print_end h.line_end ++ section_front h.fields h.last in
    ap (λ v. head_lines (print_blank h.blank ++ v)) (append_assoc h.method rest tail) ∙ token_lines_of h.blank h.method (rest ++ tail) is.method ∙ ap line_feeds (sym (append_assoc h.method rest tail))
    ∙ rest_feeds (request_line h) h.line_end h.fields h.last (request_line_feeds h is) is.fields
front_lines Requests (reply h) is = absurd is
front_lines Replies (request h) is = absurd is
front_lines Replies (reply h) is =
    lines_behind h.blank 72 _ refl ∙ rest_feeds (reply_line h) h.line_end h.fields h.last (reply_line_feeds h is) is.fields

-- ---- fronts

-- all but the last byte
pub front_within : (xs more front : List ℕ) (b : ℕ) → xs ++ more ≡ front ++ b ∷ [] → 0 < length more → (left : List ℕ) × (front ≡ xs ++ left)
front_within [] more front b e some = (front, refl)
front_within (x ∷ xs) more [] b e some =
    let none : xs ++ more ≡ [] = cc in
    absurd (omega (arith, ap length none, length-append xs more))
front_within (x ∷ xs) more (y ∷ front) b e some =
    let rest : xs ++ more ≡ front ++ b ∷ [] = cc in
    let same : y ≡ x = cc in
    let within = front_within xs more front b rest some in
    (within.0, λ i. same i ∷ within.1 i)

pub same_front : (xs ys : List ℕ) (a b : ℕ) → xs ++ a ∷ [] ≡ ys ++ b ∷ [] → xs ≡ ys
same_front [] [] a b e = refl
same_front [] (y ∷ ys) a b e = let none : [] ≡ ys ++ b ∷ [] = cc in absurd (omega (arith, ap length none, length-append ys (b ∷ [])))
same_front (x ∷ xs) [] a b e = let none : xs ++ a ∷ [] ≡ [] = cc in absurd (omega (arith, ap length none, length-append xs (a ∷ [])))
same_front (x ∷ xs) (y ∷ ys) a b e =
    let rest : xs ++ a ∷ [] ≡ ys ++ b ∷ [] = cc in
    let same : x ≡ y = cc in
    let others = same_front xs ys a b rest in λ i. same i ∷ others i

-- of two fronts of the same bytes the shorter one is a front of the longer
pub front_in : (xs more a r : List ℕ) → xs ++ more ≡ a ++ r → length a ≤ length xs → (left : List ℕ) × (xs ≡ a ++ left)
front_in xs more [] r e short = (xs, refl)
front_in [] more (b ∷ a) r e short = absurd (omega arith)
front_in (x ∷ xs) more (b ∷ a) r e short =
    let rest : xs ++ more ≡ a ++ r = cc in
    let same : x ≡ b = cc in
    let within = front_in xs more a r rest (omega arith) in
    (within.0, λ i. same i ∷ within.1 i)
