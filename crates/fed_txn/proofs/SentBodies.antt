-- A body that was written within the limits is read back.
use Rattle.std.proofs.Common.{◌≡◌, ℕ, ◌+◌, ◌*◌, ◌≤◌, ◌<◌, ◌^◌, pos, Bool, true, false, cond, List, [], ◌∷◌, ◌++◌, length, map, All, Ok, Less, refl, ap, subst, ◌∙◌, arith, codes, decimal, length-append, IsUtf8}
use Rattle.std.proofs.lemmas.List.{length-map}
use Rattle.std.proofs.lemmas.List.Elements.{All-head, All-tail, All-map, All-weaker}
use Rattle.std.specs.Prelude.{nat_lt, ◌/◌, ◌%◌}
use Rattle.std.specs.Char.{digit_char}
use Rattle.std.specs.Ordering.{nat_cmp, is_lt}
use Rattle.std.specs.Str.{is_utf8}
use Rattle.std.specs.Cmp.Lexicographic.{slice_cmp}
use Rattle.std.proofs.lemmas.Str.{IsUtf8-append, IsUtf8-nil, IsUtf8-from_ascii, is_utf8-from_IsUtf8}
use Rattle.std.proofs.lemmas.Bool.{le-leb, lt-ltb}
use Rattle.std.proofs.lemmas.Fmt.{IsAscii-decimal, length-decimal-le}
use Rattle.json.specs.Print.{quoted, escape, escape_byte, escape_letter}
use Rattle.json.proofs.Printed.Utf8.{are_ascii, IsUtf8-are_ascii, IsUtf8-quoted}
use Rattle.serde_json.specs.Data.{Data, string, number, unsigned, object, no_members, member, depth, items_depth}
use Rattle.serde_json.specs.View.{items_of}
use Rattle.serde_json.specs.Written.{comma_if, items_text, compact_text}
use Rattle.fed_json.specs.Profile.{all_whole, items_whole, keys_rise, items_rise, comes_before}
use Rattle.fed_json.specs.CanonicalText.{canonical_text}
use Rattle.fed_json.proofs.KeyOrder.{chars_order}
use Rattle.fed_json.proofs.ReadBack.{read-compact_text}
use Rattle.fed_json.proofs.Parts.{list_of-items_of}
use Rattle.fed_event.specs.Checked.{CheckedEvent}
use Rattle.fed_event.proofs.Events.{is_event}
use Rattle.fed_outbox.specs.Transaction.{TransactionValue}
use Rattle.fed_txn.specs.Reading.{body_of, transaction_or_fault, read_of}
use Rattle.fed_txn.specs.Transaction.{transaction_of}
use Rattle.fed_txn.specs.Writing.{event_of, list_value, with_edus, body_value, received, IsWithinLimits, edus_text, header_text, pdus_text}
use Rattle.fed_txn.specs.WritingParts.{IsWritten, IsWrittenEvent}
use Rattle.fed_txn.proofs.Bodies.{body_of_value}
use Rattle.fed_txn.proofs.BodyText.{body_text}

-- a value that was written, within the limits of an event
pub record IsPart (d : Data) : Type 0 where
  pub whole : all_whole d ≡ true
  pub rising : keys_rise d ≡ true
  pub levels : depth d ≤ 100
  pub text : IsUtf8 (canonical_text d)
  pub size : length (canonical_text d) ≤ 65536

-- ---- a list of them

pub record AreParts (ds : List Data) : Type 0 where
  pub whole : items_whole (items_of ds) ≡ true
  pub rising : items_rise (items_of ds) ≡ true
  pub levels : items_depth (items_of ds) ≤ 100
  pub text : (later : Bool) → IsUtf8 (items_text later (items_of ds))
  pub size : (later : Bool) → length (items_text later (items_of ds)) ≤ 65537 * length ds + 1

comma-utf8 : (later : Bool) → IsUtf8 (comma_if later)
comma-utf8 true = IsUtf8-are_ascii (44 ∷ []) refl
comma-utf8 false = IsUtf8-nil

length-comma : (later : Bool) → length (comma_if later) ≤ 1
length-comma true = omega arith
length-comma false = omega arith

pub are_parts : (ds : List Data) → All IsPart ds → AreParts ds
are_parts [] h = record {
  whole = refl;
  rising = refl;
  levels = omega arith;
  text = λ later. IsUtf8-are_ascii (93 ∷ []) refl;
  size = λ later. omega arith;
}
are_parts (d ∷ ds) h =
    let first = All-head IsPart d ds h in
    let rest = are_parts ds (All-tail IsPart d ds h) in
    record {
      whole = rw (first.whole, rest.whole) refl;
      rising = rw (first.rising, rest.rising) refl;
      levels = omega (arith, first.levels, rest.levels);
      text = λ later. IsUtf8-append (comma_if later) _ (comma-utf8 later) (IsUtf8-append (compact_text d) _ first.text (rest.text true));
      size = λ later. rw (length-append, length-append) (omega (arith, length-comma later, first.size, rest.size true));
    }

-- ---- the parts of a transaction

event_part : (c : CheckedEvent) → IsWrittenEvent c → IsPart (event_of c)
event_part c h =
    let event = is_event c.event.value h.passes in
    record { whole = h.written.profile.whole; rising = h.written.profile.rising; levels = event.levels; text = h.written.text; size = event.size }

event_parts : (pdus : List CheckedEvent) → All IsWrittenEvent pdus → All IsPart (map event_of pdus)
event_parts pdus h = All-map IsPart event_of pdus (All-weaker IsWrittenEvent (λ c. IsPart (event_of c)) event_part pdus h)

edu_parts : (t : TransactionValue) → IsWithinLimits t → All IsWritten t.edus → All IsPart t.edus
edu_parts t limits h = λ k d lt. record {
  whole = (h k d lt).profile.whole;
  rising = (h k d lt).profile.rising;
  levels = limits.levels k d lt;
  text = (h k d lt).text;
  size = limits.sizes k d lt;
}

-- ---- the body

-- the value is whole, its keys rise, and it nests two levels deeper than its parts
pub record IsBody (d : Data) : Type 0 where
  pub whole : all_whole d ≡ true
  pub rising : keys_rise d ≡ true
  pub levels : depth d ≤ 102

ascii_key : (k : List ℕ) → are_ascii k ≡ true → is_utf8 k ≡ true
ascii_key k a = is_utf8-from_IsUtf8 k (IsUtf8-are_ascii k a)

before : (k l : List ℕ) → are_ascii k ≡ true → are_ascii l ≡ true → slice_cmp nat_cmp k l ≡ Less → comes_before k l ≡ true
before k l a b order = ap is_lt (chars_order k l (IsUtf8-are_ascii k a) (IsUtf8-are_ascii l b) ∙ order)

abbrev body_of_parts : List ℕ → ℕ → List Data → List Data → Data
body_of_parts origin at_ms pdus edus =
    object (with_edus edus (member (codes "origin") (string origin) (member (codes "origin_server_ts") (number (unsigned at_ms)) (member (codes "pdus") (list_value pdus) no_members))))

body_is : (origin : List ℕ) (at_ms : ℕ) (pdus edus : List Data) → at_ms < 2 ^ 53 → AreParts pdus → AreParts edus → IsBody (body_of_parts origin at_ms pdus edus)
body_is origin at_ms pdus [] time p e = record {
  whole = rw (lt-ltb at_ms (2 ^ 53) time, p.whole) refl;
  rising = rw (
    ascii_key (codes "origin") refl,
    before (codes "origin") (codes "origin_server_ts") refl refl refl,
    ascii_key (codes "origin_server_ts") refl,
    before (codes "origin_server_ts") (codes "pdus") refl refl refl,
    ascii_key (codes "pdus") refl,
    p.rising,
  ) refl;
  levels = omega (arith, p.levels);
}
body_is origin at_ms pdus (edu ∷ edus) time p e = record {
  whole = rw (lt-ltb at_ms (2 ^ 53) time, p.whole, e.whole) refl;
  rising = rw (
    ascii_key (codes "edus") refl,
    before (codes "edus") (codes "origin") refl refl refl,
    ascii_key (codes "origin") refl,
    before (codes "origin") (codes "origin_server_ts") refl refl refl,
    ascii_key (codes "origin_server_ts") refl,
    before (codes "origin_server_ts") (codes "pdus") refl refl refl,
    ascii_key (codes "pdus") refl,
    p.rising,
    e.rising,
  ) refl;
  levels = omega (arith, p.levels, e.levels);
}

-- ---- its text

array_text : (ds : List Data) → AreParts ds → IsUtf8 (canonical_text (list_value ds))
array_text ds h = IsUtf8-append (91 ∷ []) _ (IsUtf8-are_ascii (91 ∷ []) refl) (h.text false)

edus_utf8 : (edus : List Data) → AreParts edus → IsUtf8 (edus_text edus)
edus_utf8 [] h = IsUtf8-nil
edus_utf8 (edu ∷ edus) h =
    IsUtf8-append (codes "\"edus\":") _ (IsUtf8-are_ascii (codes "\"edus\":") refl) (IsUtf8-append (canonical_text (list_value (edu ∷ edus))) (codes ",") (array_text (edu ∷ edus) h) (IsUtf8-are_ascii (codes ",") refl))

pdus_utf8 : (pdus : List Data) → AreParts pdus → IsUtf8 (pdus_text pdus)
pdus_utf8 pdus h = IsUtf8-append (codes "\"pdus\":") _ (IsUtf8-are_ascii (codes "\"pdus\":") refl) (array_text pdus h)

header_utf8 : (origin : List ℕ) (at_ms : ℕ) → IsUtf8 origin → at_ms < 2 ^ 53 → IsUtf8 (header_text origin at_ms)
header_utf8 origin at_ms text time =
    IsUtf8-append (codes "\"origin\":") _ (IsUtf8-are_ascii (codes "\"origin\":") refl)
    (IsUtf8-append (quoted origin) _ (IsUtf8-quoted origin text)
    (IsUtf8-append (codes ",\"origin_server_ts\":") _ (IsUtf8-are_ascii (codes ",\"origin_server_ts\":") refl)
    (IsUtf8-append (decimal at_ms) (codes ",") (IsUtf8-from_ascii (decimal at_ms) (IsAscii-decimal at_ms (omega arith))) (IsUtf8-are_ascii (codes ",") refl))))

length-cond : (b : Bool) (xs ys : List ℕ) (n : ℕ) → length xs ≤ n → length ys ≤ n → length (cond b xs ys) ≤ n
length-cond true xs ys n h k = h
length-cond false xs ys n h k = k

length-escape_byte : (x : ℕ) → length (escape_byte x) ≤ 6
unfolding escape_byte
length-escape_byte x =
    let digits : List ℕ = 92 ∷ 117 ∷ 48 ∷ 48 ∷ digit_char (x / 16) ∷ digit_char (x % 16) ∷ [] in
    length-cond (nat_lt 0 (escape_letter x)) (92 ∷ escape_letter x ∷ []) (cond (nat_lt x 32) digits (x ∷ [])) 6 (omega arith)
    (length-cond (nat_lt x 32) digits (x ∷ []) 6 (omega arith) (omega arith))

length-escape : (s : List ℕ) → length (escape s) ≤ 6 * length s
length-escape [] = omega arith
length-escape (x ∷ s) = rw length-append (omega (arith, length-escape_byte x, length-escape s))

length-edus_text : (edus : List Data) → AreParts edus → length (edus_text edus) ≤ 65537 * length edus + 16
length-edus_text [] h = omega arith
length-edus_text (edu ∷ edus) h =
    let items = items_text false (items_of (edu ∷ edus)) in
    let size = h.size false in
    let one : length (items ++ codes ",") ≡ length items + 1 = rw length-append refl in
    omega (arith, size, one)

length-pdus_text : (pdus : List Data) → AreParts pdus → length (pdus_text pdus) ≤ 65537 * length pdus + 16
length-pdus_text pdus h = let size = h.size false in omega (arith, size)

length-header_text : (origin : List ℕ) (at_ms : ℕ) → at_ms < 2 ^ 53 → length (header_text origin at_ms) ≤ 6 * length origin + 64
length-header_text origin at_ms time = simp length-append (omega (arith, length-escape origin, length-decimal-le 16 at_ms (omega arith) (omega arith) (omega arith)))

length-whole : (xs ys zs : List ℕ) → length (codes "{" ++ (xs ++ (ys ++ (zs ++ codes "}")))) ≡ length xs + (length ys + (length zs + 1)) + 1
length-whole xs ys zs = rw (length-append, length-append, length-append, length-append) (omega arith)

-- ---- reading it

body_reads : (origin : List ℕ) (at_ms : ℕ) (pdus edus : List Data) → IsUtf8 origin → length origin ≤ 65536 → at_ms < 2 ^ 53 → length pdus ≤ 50 → length edus ≤ 100
    → AreParts pdus → AreParts edus → body_of (canonical_text (body_of_parts origin at_ms pdus edus)) ≡ Ok (body_of_parts origin at_ms pdus edus)
body_reads origin at_ms pdus edus text short time few_pdus few_edus p e =
    let body = body_of_parts origin at_ms pdus edus in
    let is = body_is origin at_ms pdus edus time p e in
    let utf8 : IsUtf8 (canonical_text body) = subst IsUtf8 (body_text edus pdus origin at_ms)
    (IsUtf8-append (codes "{") _ (IsUtf8-are_ascii (codes "{") refl)
    (IsUtf8-append (edus_text edus) _ (edus_utf8 edus e)
    (IsUtf8-append (header_text origin at_ms) _ (header_utf8 origin at_ms text time)
    (IsUtf8-append (pdus_text pdus) (codes "}") (pdus_utf8 pdus p) (IsUtf8-are_ascii (codes "}") refl))))) in
    let size : length (canonical_text body) ≤ 16777216 = subst (λ whole. length whole ≤ 16777216) (body_text edus pdus origin at_ms)
    (omega (arith, length-whole (edus_text edus) (header_text origin at_ms) (pdus_text pdus), length-edus_text edus e, length-header_text origin at_ms time, length-pdus_text pdus p)) in
    body_of_value (canonical_text body) body size (record {
      reads = (utf8, read-compact_text body is.whole is.rising (omega (arith, is.levels)));
      whole = is.whole;
      shallow = omega (arith, is.levels);
    })

form_of : (origin : List ℕ) (at_ms : ℕ) (pdus edus : List Data) → at_ms < 2 ^ 53 → length pdus ≤ 50 → length edus ≤ 100
    → transaction_of (body_of_parts origin at_ms pdus edus) ≡ Ok (record { origin = origin; at_ms = pos at_ms; pdus = pdus; edus = edus })
form_of origin at_ms pdus [] time few_pdus few_edus = rw (list_of-items_of pdus, lt-ltb at_ms (2 ^ 63) (omega arith), le-leb (length pdus) 50 few_pdus) refl
form_of origin at_ms pdus (edu ∷ edus) time few_pdus few_edus =
    rw (list_of-items_of pdus, list_of-items_of edus, lt-ltb at_ms (2 ^ 63) (omega arith), le-leb (length pdus) 50 few_pdus, le-leb (length (edu ∷ edus)) 100 few_edus) refl

-- the body of a transaction within the limits has its form
pub form_back : (origin : List ℕ) (t : TransactionValue) → IsWithinLimits t → transaction_of (body_value origin t) ≡ Ok (received origin t)
form_back origin t limits =
    let few : length (map event_of t.pdus) ≤ 50 = rw length-map limits.pdus in
    form_of origin t.at_ms (map event_of t.pdus) t.edus limits.time few limits.edus

pub body_back : (origin : List ℕ) (t : TransactionValue) → IsUtf8 origin → All IsWrittenEvent t.pdus → All IsWritten t.edus → IsWithinLimits t → length origin ≤ 65536
    → body_of (canonical_text (body_value origin t)) ≡ Ok (body_value origin t)
body_back origin t text pdus edus limits short =
    let p = are_parts (map event_of t.pdus) (event_parts t.pdus pdus) in
    let e = are_parts t.edus (edu_parts t limits edus) in
    let few : length (map event_of t.pdus) ≤ 50 = rw length-map limits.pdus in
    body_reads origin t.at_ms (map event_of t.pdus) t.edus text short limits.time few limits.edus p e

pub reads_back : (origin : List ℕ) (t : TransactionValue) → IsUtf8 origin → All IsWrittenEvent t.pdus → All IsWritten t.edus → IsWithinLimits t → length origin ≤ 65536
    → read_of (canonical_text (body_value origin t)) ≡ Ok (received origin t)
reads_back origin t text pdus edus limits short =
    ap transaction_or_fault (body_back origin t text pdus edus limits short) ∙ form_back origin t limits
