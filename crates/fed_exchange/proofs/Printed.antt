-- Texts of visible ASCII characters, which stand in a request line and in a field as they are.
use Rattle.std.proofs.Common.{◌≡◌, ℕ, suc, ◌+◌, ◌*◌, ◌/◌, ◌%◌, ◌^◌, ◌≤◌, ◌<◌, ◌==◌, ◌||◌, ◌&&◌, Bool, true, false, cond, nat_lt, List, [], ◌∷◌, ◌++◌, length, reverse, decimal, IsUtf8, refl, sym, ap, subst, ◌∙◌, ◌⊎◌, inl, inr, arith, append_assoc, length-append, slice_index}
use Rattle.std.specs.Prelude.{nat_le, IsTrue}
use Rattle.std.specs.List.{list_all}
use Rattle.std.specs.Char.{is_ascii_digit}
use Rattle.std.proofs.Math.Logic.{∥∥₁_elim}
use Rattle.std.proofs.Math.Bool.{Bool-set}
use Rattle.std.proofs.lemmas.Bool.{le-leb, false≢true}
use Rattle.std.proofs.lemmas.Bool.Decides.{nat_tests}
use Rattle.std.proofs.lemmas.Fmt.{decimal_by_steps}
use Rattle.std.proofs.lemmas.List.{reverse-append}
use Rattle.std.proofs.lemmas.List.Folds.{list_all-append, list_all_at}
use Rattle.std.proofs.lemmas.List.Sums.{AllPass-from_list_all}
use Rattle.json.proofs.Printed.Utf8.{IsUtf8-are_ascii}
use Rattle.base64.specs.Engines.{standard_no_pad}
use Rattle.base64.specs.GeneralPurpose.{IsBytes, encode_of}
use Rattle.base64.specs.Rfc4648.{encode_symbols}
use Rattle.httparse.specs.Grammar.{AllPass, is_uri_byte, is_value_byte, is_ows, trim_ows}
use Rattle.httparse.proofs.TrimLemmas.{trim_ows_space, skip_ows_no}
use Rattle.fed_dest.specs.ServerName.{is_text_of, is_dns_char, is_ipv6_char, IsHost, IsHostAndPort, IsServerName}
use Rattle.fed_http.specs.XMatrixWriting.{escaped, in_quotes}

-- from `!` to `~`, and with the space
abbrev pub is_printed : ℕ → Bool
is_printed c = nat_lt 32 c && nat_lt c 127

abbrev pub is_shown : ℕ → Bool
is_shown c = nat_lt 31 c && nat_lt c 127

pub passing : (p q : ℕ → Bool) → ((c : ℕ) → p c ≡ true → q c ≡ true) → (s : List ℕ) → list_all p s ≡ true → list_all q s ≡ true
passing p q more [] h = refl
passing p q more (c ∷ s) h = by (passing p q more s) (p c) refl h
  where
    by : (list_all p s ≡ true → list_all q s ≡ true) → (b : Bool) → p c ≡ b → (b && list_all p s) ≡ true → (q c && list_all q s) ≡ true
    by later true is rest = rw (more c is, later rest) refl
    by later false is rest = absurd (cc rest)

pub joined : (p : ℕ → Bool) (s t : List ℕ) → list_all p s ≡ true → list_all p t ≡ true → list_all p (s ++ t) ≡ true
joined p s t h k = rw (list_all-append p s t, h, k) refl

-- ---- what they pass

pub shown : (s : List ℕ) → list_all is_printed s ≡ true → list_all is_shown s ≡ true
shown s h = passing is_printed is_shown (λ c is. grind (arith, nat_tests)) s h

pub value_bytes : (s : List ℕ) → list_all is_shown s ≡ true → AllPass is_value_byte s
value_bytes s h = AllPass-from_list_all is_value_byte s (passing is_shown is_value_byte (λ c is. grind (arith, nat_tests)) s h)

pub uri_bytes : (s : List ℕ) → list_all is_printed s ≡ true → AllPass is_uri_byte s
uri_bytes s h = AllPass-from_list_all is_uri_byte s (passing is_printed is_uri_byte (λ c is. grind (arith, nat_tests)) s h)

pub text : (s : List ℕ) → list_all is_shown s ≡ true → IsUtf8 s
text s h = IsUtf8-are_ascii s (passing is_shown (λ c. nat_lt c 128) (λ c is. grind (arith, nat_tests)) s h)

-- ---- no white space at the ends

-- a text that ends in a visible character
abbrev pub EndsIn : List ℕ → Type 0
EndsIn s = (front : List ℕ) × (last : ℕ) × (is_printed last ≡ true) × (s ≡ front ++ last ∷ [])

pub behind : (s t : List ℕ) → EndsIn t → EndsIn (s ++ t)
behind s t (front, last, is, e) = (s ++ front, last, is, ap (λ x. s ++ x) e ∙ simp append_assoc refl)

no_space : (c : ℕ) → is_printed c ≡ true → is_ows c ≡ false
no_space c is = grind (arith, nat_tests)

pub trimmed : (x : ℕ) (s : List ℕ) → is_printed x ≡ true → EndsIn (x ∷ s) → trim_ows (32 ∷ x ∷ s) ≡ x ∷ s
trimmed x s first (front, last, is, e) =
    trim_ows_space (x ∷ s) (skip_ows_no refl (sym (no_space x first)))
    (skip_ows_no {rest = reverse front} (ap reverse e ∙ reverse-append front (last ∷ [])) (sym (no_space last is)))

-- ---- numbers

pub decimal_printed : (n : ℕ) → n < 2 ^ 64 → list_all is_printed (decimal n) ≡ true
decimal_printed n fits =
    decimal_by_steps (λ m ds. list_all is_printed ds ≡ true) (λ m small. rw (digit m small) refl)
    (λ m ds big h. joined is_printed ds ((48 + m % 10) ∷ []) h (rw (digit (m % 10) (omega arith)) refl)) n fits
  where
    digit : (k : ℕ) → k < 10 → is_printed (48 + k) ≡ true
    digit k small = grind (arith, nat_tests)

-- ---- names of servers

pub and_left : (a b : Bool) → (a && b) ≡ true → a ≡ true
and_left true b h = refl
and_left false b h = absurd (cc h)

pub and_right : (a b : Bool) → (a && b) ≡ true → b ≡ true
and_right true b h = h
and_right false b h = absurd (cc h)

-- what a text of a class is: its characters pass, and its length is within the bounds
pub of_class : (test : ℕ → Bool) (low high : ℕ) (s : List ℕ) → IsTrue (is_text_of test low high s) → (list_all test s ≡ true) × (low ≤ length s) × (length s ≤ high)
of_class test low high s h =
    let lengths = and_left (nat_le low (length s) && nat_le (length s) high) (list_all test s) h in
    (and_right (nat_le low (length s) && nat_le (length s) high) (list_all test s) h, grind (arith, nat_tests), grind (arith, nat_tests))

-- at most 261 characters, all visible
pub record IsName (s : List ℕ) : Type 0 where
  pub printed : list_all is_printed s ≡ true
  pub some : 1 ≤ length s
  pub short : length s ≤ 261

dns_printed : (s : List ℕ) → list_all is_dns_char s ≡ true → list_all is_printed s ≡ true
dns_printed s h = passing is_dns_char is_printed (λ c is. grind (arith, nat_tests)) s h

ipv6_printed : (s : List ℕ) → list_all is_ipv6_char s ≡ true → list_all is_printed s ≡ true
ipv6_printed s h = passing is_ipv6_char is_printed (λ c is. grind (arith, nat_tests)) s h

host_name : (host : List ℕ) → IsHost host → (list_all is_printed host ≡ true) × (1 ≤ length host) × (length host ≤ 255)
host_name host (inl dns) = let c = of_class is_dns_char 1 255 host dns in (dns_printed host c.0, c.1, c.2)
host_name host (inr (address, is, e)) =
    let c = of_class is_ipv6_char 2 45 address is in
    let printed : list_all is_printed (91 ∷ (address ++ 93 ∷ [])) ≡ true = joined is_printed address (93 ∷ []) (ipv6_printed address c.0) refl in
    let count = length-append address (93 ∷ []) in
    subst (λ (s : List ℕ). (list_all is_printed s ≡ true) × (1 ≤ length s) × (length s ≤ 255)) (sym e) (printed, omega arith, omega (arith, count, c.2))

one_name : (s : List ℕ) → IsHost s ⊎ IsHostAndPort s → IsName s
one_name s (inl host) = let h = host_name s host in record { printed = h.0; some = h.1; short = omega (arith, h.2) }
one_name s (inr (host, port, is, digits, e)) =
    let h = host_name host is in
    let p = of_class is_ascii_digit 1 5 port digits in
    let both = joined is_printed host (58 ∷ port) h.0 (passing is_ascii_digit is_printed (λ c d. grind (arith, nat_tests)) port p.0) in
    let count = length-append host (58 ∷ port) in
    subst IsName (sym e) (record { printed = both; some = omega (arith, count); short = omega (arith, count, h.2, p.2) })

-- the name of a server is such a text
abbrev name_test : List ℕ → Bool
name_test s = list_all is_printed s && (nat_le 1 (length s) && nat_le (length s) 261)

tested : (s : List ℕ) → IsName s → name_test s ≡ true
tested s h = rw (h.printed, le-leb 1 (length s) h.some, le-leb (length s) 261 h.short) refl

pub name_is : (s : List ℕ) → IsServerName s → IsName s
name_is s name =
    let test = ∥∥₁_elim name (Bool-set (name_test s) true) (λ n. tested s (one_name s n)) in
    let counts = and_right (list_all is_printed s) (nat_le 1 (length s) && nat_le (length s) 261) test in
    record {
      printed = and_left (list_all is_printed s) (nat_le 1 (length s) && nat_le (length s) 261) test;
      some = grind (arith, nat_tests);
      short = grind (arith, nat_tests);
    }

-- ---- what stands between quotes

escaped_printed : (s : List ℕ) → list_all is_printed s ≡ true → list_all is_printed (escaped s) ≡ true
escaped_printed [] h = refl
escaped_printed (c ∷ s) h =
    let first = and_left (is_printed c) (list_all is_printed s) h in
    let rest = escaped_printed s (and_right (is_printed c) (list_all is_printed s) h) in
    by (c == 34 || c == 92) first rest
  where
    by : (b : Bool) → is_printed c ≡ true → list_all is_printed (escaped s) ≡ true → list_all is_printed (cond b (92 ∷ c ∷ escaped s) (c ∷ escaped s)) ≡ true
    by true first rest = rw (first, rest) refl
    by false first rest = rw (first, rest) refl

pub quoted_printed : (s : List ℕ) → list_all is_printed s ≡ true → list_all is_printed (in_quotes s) ≡ true
quoted_printed s h = joined is_printed (escaped s) (34 ∷ []) (escaped_printed s h) refl

pub escaped_short : (s : List ℕ) → length (escaped s) ≤ 2 * length s
escaped_short [] = omega arith
escaped_short (c ∷ s) = by (c == 34 || c == 92) (escaped_short s)
  where
    by : (b : Bool) → length (escaped s) ≤ 2 * length s → length (cond b (92 ∷ c ∷ escaped s) (c ∷ escaped s)) ≤ 2 * suc (length s)
    by true rest = omega (arith, rest)
    by false rest = omega (arith, rest)

-- ---- base64

abbrev pub table : List ℕ
table = standard_no_pad.encode_table

true_of : (b : Bool) → (b ≡ false → ⊥) → b ≡ true
true_of true h = refl
true_of false h = absurd (h refl)

all_symbols : list_all is_printed table ≡ true
all_symbols = refl

sixty_four : length table ≡ 64
sixty_four = refl

symbol_printed : (v : ℕ) → v < 64 → is_printed (slice_index table v) ≡ true
symbol_printed v small =
    true_of (is_printed (slice_index table v)) (λ out. false≢true (sym (list_all_at is_printed table v 0 (omega (arith, small, sixty_four)) out) ∙ all_symbols))

symbols_printed : (m : List ℕ) → IsBytes m → list_all is_printed (encode_symbols table m) ≡ true
unfolding encode_symbols
symbols_printed [] h = refl
symbols_printed (a ∷ []) h = rw (symbol_printed (a / 4) (omega (arith, h 0)), symbol_printed (a % 4 * 16) (omega arith)) refl
symbols_printed (a ∷ b ∷ []) h =
    rw (symbol_printed (a / 4) (omega (arith, h 0)), symbol_printed (a % 4 * 16 + b / 16) (omega (arith, h 1)), symbol_printed (b % 16 * 4) (omega arith)) refl
symbols_printed (a ∷ b ∷ c ∷ rest) h =
    rw (
      symbol_printed (a / 4) (omega (arith, h 0)),
      symbol_printed (a % 4 * 16 + b / 16) (omega (arith, h 1)),
      symbol_printed (b % 16 * 4 + c / 64) (omega (arith, h 2)),
      symbol_printed (c % 64) (omega arith),
      symbols_printed rest (λ i. h (suc (suc (suc i)))),
    ) refl

pub encoded_printed : (m : List ℕ) → IsBytes m → list_all is_printed (encode_of standard_no_pad m) ≡ true
encoded_printed m h = joined is_printed (encode_symbols table m) [] (symbols_printed m h) refl
