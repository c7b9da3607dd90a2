-- The text of a reply, verdict by verdict.
use Rattle.std.proofs.Common.{◌≡◌, ◌≢◌, ℕ, zero, suc, ◌<◌, ◌≤◌, List, [], ◌∷◌, ◌++◌, length, take, drop, get_or, Bool, true, false, codes, Option, Some, None, append-nil, refl, sym, ap, ap₂, subst, ◌∙◌, arith, ne_eqb}
use Rattle.std.specs.FinMap as finite
use Rattle.std.proofs.lemmas.Bool.{le-ltb}
use Rattle.std.proofs.lemmas.List.{append_assoc, take-append-drop, get_or-take, length-append, length-take-le, take_all}
use Rattle.std.proofs.lemmas.List.Elements.{All-cons, All-head, All-tail, All-from_get_or}
use Rattle.json.specs.Print.{escape, escape_byte, quoted}
use Rattle.serde_json.specs.Data.{string}
use Rattle.serde_json.specs.Written.{compact_text, comma_if}
use Rattle.serde_json.specs.Written as written
use Rattle.fed_json.specs.CanonicalText.{canonical_text, comma}
use Rattle.fed_txn.specs.Verdicts.{VerdictMap}
use Rattle.fed_txn.specs.Reply.{reply_value, verdict_value, verdict_members}
use Rattle.fed_replies.specs.PackedReply.{Verdict}
use Rattle.fed_replies.specs.Plain.{IsPlainByte, IsPlain}
use Rattle.fed_replies.specs.ReplyText.{key_text, verdict_text, member_text, members_text}
use Rattle.fed_replies.proofs.HashIds.{plain_sigil}

-- ---- what stands before and behind the members

members-written : (later : Bool) (vs : List Verdict) → written.members_text later (verdict_members vs) ≡ members_text later vs ++ 125 ∷ []
unfolding key_text verdict_text
members-written later [] = refl
members-written later (v ∷ vs) =
    let id = quoted v.0 in
    let key = id ++ codes ":" in
    let text = compact_text (verdict_value v.1) in
    let others = members_text true vs in
    ap (λ w. comma_if later ++ (quoted v.0 ++ 58 ∷ (compact_text (verdict_value v.1) ++ w))) (members-written true vs)
    ∙ ap (λ w. comma later ++ w) (sym (append_assoc id (codes ":") (text ++ (others ++ 125 ∷ []))) ∙ sym (append_assoc key text (others ++ 125 ∷ [])))
    ∙ sym (append_assoc (comma later) (key ++ text) (others ++ 125 ∷ [])) ∙ sym (append_assoc (comma later ++ (key ++ text)) others (125 ∷ []))

pub reply-written : (v : VerdictMap) → canonical_text (reply_value v) ≡ codes "{\"pdus\":{" ++ (members_text false (finite.entries v) ++ codes "}}")
unfolding escape_byte
reply-written v =
    let members = members-written false (finite.entries v) in
    ap (λ w. codes "{\"pdus\":{" ++ (w ++ 125 ∷ [])) members ∙ ap (λ w. codes "{\"pdus\":{" ++ w) (append_assoc (members_text false (finite.entries v)) (125 ∷ []) (125 ∷ []))

-- whether there are any
abbrev pub is_more : List Verdict → Bool
is_more [] = false
is_more (v ∷ vs) = true

-- one more
pub members-push : (vs : List Verdict) (v : Verdict) → members_text false (vs ++ v ∷ []) ≡ members_text false vs ++ member_text (is_more vs) v
members-push [] v = append-nil (member_text false v)
members-push (w ∷ vs) v = ap (λ t. member_text false w ++ t) (behind_first vs) ∙ sym (append_assoc (member_text false w) (members_text true vs) (member_text true v))
  where
    behind_first : (us : List Verdict) → members_text true (us ++ v ∷ []) ≡ members_text true us ++ member_text true v
    behind_first [] = append-nil (member_text true v)
    behind_first (u ∷ us) = ap (λ t. member_text true u ++ t) (behind_first us) ∙ sym (append_assoc (member_text true u) (members_text true us) (member_text true v))

-- ---- plain texts

plain_byte : (x : ℕ) → IsPlainByte x → escape_byte x ≡ x ∷ []
unfolding escape_byte
plain_byte x h =
    let low : 32 ≤ x = h.0 in
    let backspace : x ≢ 8 = λ e. omega arith in
    let feed : x ≢ 12 = λ e. omega arith in
    let line : x ≢ 10 = λ e. omega arith in
    let back : x ≢ 13 = λ e. omega arith in
    let tab : x ≢ 9 = λ e. omega arith in
    rw (ne_eqb x 34 h.2, ne_eqb x 92 h.3, ne_eqb x 8 backspace, ne_eqb x 12 feed, ne_eqb x 10 line, ne_eqb x 13 back, ne_eqb x 9 tab, le-ltb x 32 low) refl

plain_escape : (text : List ℕ) → IsPlain text → escape text ≡ text
plain_escape [] h = refl
plain_escape (x ∷ text) h = ap₂ (λ a b. a ++ b) (plain_byte x (All-head IsPlainByte x text h)) (plain_escape text (All-tail IsPlainByte x text h))

pub plain_quoted : (text : List ℕ) → IsPlain text → canonical_text (string text) ≡ codes "\"" ++ (text ++ codes "\"")
plain_quoted text h = ap (λ t. 34 ∷ (t ++ 34 ∷ [])) (plain_escape text h)

pub plain_key : (id : List ℕ) → IsPlain id → key_text id ≡ codes "\"" ++ (id ++ codes "\":")
unfolding key_text
plain_key id h = ap (λ t. t ++ codes ":") (plain_quoted id h) ∙ ap (λ t. 34 ∷ t) (append_assoc id (34 ∷ []) (58 ∷ []))

pub no_error_text : verdict_text None ≡ codes "{}"
unfolding verdict_text
no_error_text = refl

pub error_text : (text : List ℕ) → verdict_text (Some text) ≡ codes "{\"error\":" ++ (canonical_text (string text) ++ codes "}")
unfolding verdict_text escape_byte
error_text text = refl

pub plain_error_text : (text : List ℕ) → IsPlain text → verdict_text (Some text) ≡ codes "{\"error\":\"" ++ (text ++ codes "\"}")
plain_error_text text h =
    error_text text ∙ ap (λ t. codes "{\"error\":" ++ (t ++ codes "}")) (plain_quoted text h) ∙ ap (λ t. codes "{\"error\":\"" ++ t) (append_assoc text (34 ∷ []) (125 ∷ []))

pub plain_front : (text : List ℕ) (n : ℕ) → n ≤ length text → ((k : ℕ) → k < n → IsPlainByte (get_or text k 0)) → IsPlain (take n text)
plain_front text n within h =
    All-from_get_or IsPlainByte (take n text) 0 (λ k below. let size = length-take-le n text within in let low : k < n = omega arith in subst IsPlainByte (sym (get_or-take n text k 0 low)) (h k low))

-- ---- plain texts are ASCII

pub plain_ascii : (text : List ℕ) → IsPlain text → (i : ℕ) → get_or text i 0 < 128
plain_ascii [] h i = omega arith
plain_ascii (x ∷ text) h zero = let first = All-head IsPlainByte x text h in omega arith
plain_ascii (x ∷ text) h (suc i) = plain_ascii text (All-tail IsPlainByte x text h) i

-- ---- pieces that are appended

pub plain_all : (text : List ℕ) (n : ℕ) → n ≡ length text → ((k : ℕ) → k < n → IsPlainByte (get_or text k 0)) → IsPlain text
plain_all text n is h = All-from_get_or IsPlainByte text 0 (λ k below. h k (omega arith))

pub key_behind_comma : (symbols : List ℕ) → IsPlain symbols → codes ",\"$" ++ (symbols ++ codes "\":") ≡ comma true ++ key_text (36 ∷ symbols)
key_behind_comma symbols plain = ap (λ t. comma true ++ t) (sym (plain_key (36 ∷ symbols) (All-cons IsPlainByte 36 symbols plain_sigil plain)))

pub first_key : (key symbols : List ℕ) → IsPlain symbols → length symbols ≡ 43 → key ≡ codes ",\"$" ++ (symbols ++ codes "\":") → take 47 (drop 1 key) ≡ comma false ++ key_text (36 ∷ symbols)
first_key key symbols plain size is =
    let behind = length-append symbols (codes "\":") in
    ap (λ t. take 47 (drop 1 t)) is ∙ take_all 47 (codes "\"$" ++ (symbols ++ codes "\":")) (omega arith)
    ∙ sym (plain_key (36 ∷ symbols) (All-cons IsPlainByte 36 symbols plain_sigil plain))

pub error_written : (out a b c text : List ℕ) → a ≡ out ++ codes "{\"error\":" → b ≡ a ++ canonical_text (string text) → c ≡ b ++ codes "}" → c ≡ out ++ verdict_text (Some text)
error_written out a b c text one two three =
    let parts : c ≡ ((out ++ codes "{\"error\":") ++ canonical_text (string text)) ++ codes "}" = three ∙ ap (λ t. t ++ codes "}") (two ∙ ap (λ t. t ++ canonical_text (string text)) one) in
    parts ∙ append_assoc (out ++ codes "{\"error\":") (canonical_text (string text)) (codes "}") ∙ append_assoc out (codes "{\"error\":") (canonical_text (string text) ++ codes "}")
    ∙ ap (λ t. out ++ t) (sym (error_text text))

pub text_written : (out a b c text : List ℕ) → IsPlain text → a ≡ out ++ codes "\"" → b ≡ a ++ text → c ≡ b ++ codes "\"" → c ≡ out ++ canonical_text (string text)
text_written out a b c text plain one two three =
    let parts : c ≡ ((out ++ codes "\"") ++ text) ++ codes "\"" = three ∙ ap (λ t. t ++ codes "\"") (two ∙ ap (λ t. t ++ text) one) in
    parts ∙ append_assoc (out ++ codes "\"") text (codes "\"") ∙ append_assoc out (codes "\"") (text ++ codes "\"") ∙ ap (λ t. out ++ t) (sym (plain_quoted text plain))

pub member_written : (out a b : List ℕ) (later : Bool) (v : Verdict) → a ≡ out ++ (comma later ++ key_text v.0) → b ≡ a ++ verdict_text v.1 → b ≡ out ++ member_text later v
member_written out a b later v one two =
    two ∙ ap (λ t. t ++ verdict_text v.1) one ∙ append_assoc out (comma later ++ key_text v.0) (verdict_text v.1) ∙ ap (λ t. out ++ t) (append_assoc (comma later) (key_text v.0) (verdict_text v.1))

-- ---- pieces that are read

pub member_read : (text a b rest id : List ℕ) (later : Bool) (error : Option (List ℕ)) → IsPlain id → text ≡ comma later ++ a → a ≡ codes "\"" ++ (id ++ (codes "\":" ++ b)) → b ≡ verdict_text error ++ rest
    → text ≡ member_text later (id, error) ++ rest
member_read text a b rest id later error plain one two three =
    let key : codes "\"" ++ (id ++ (codes "\":" ++ b)) ≡ key_text id ++ b =
    ap (λ t. codes "\"" ++ t) (sym (append_assoc id (codes "\":") b)) ∙ sym (ap (λ t. t ++ b) (plain_key id plain)) in
    one ∙ ap (λ t. comma later ++ t) (two ∙ key ∙ ap (λ t. key_text id ++ t) three ∙ sym (append_assoc (key_text id) (verdict_text error) rest))
    ∙ sym (append_assoc (comma later) (key_text id ++ verdict_text error) rest)

pub id_read : (text a id b rest : List ℕ) (n : ℕ) → text ≡ codes "\"" ++ a → id ≡ take n a → b ≡ drop n a → b ≡ codes "\":" ++ rest → text ≡ codes "\"" ++ (id ++ (codes "\":" ++ rest))
id_read text a id b rest n one two three four =
    one ∙ ap (λ t. codes "\"" ++ t) (sym (take-append-drop n a) ∙ ap (λ t. t ++ drop n a) (sym two) ∙ ap (λ t. id ++ t) (sym three ∙ four))

pub error_read : (text a rest error : List ℕ) → IsPlain error → text ≡ codes "{\"error\":\"" ++ a → a ≡ error ++ (codes "\"}" ++ rest) → text ≡ verdict_text (Some error) ++ rest
error_read text a rest error plain one two =
    one ∙ ap (λ t. codes "{\"error\":\"" ++ t) (two ∙ sym (append_assoc error (codes "\"}") rest)) ∙ sym (ap (λ t. t ++ rest) (plain_error_text error plain))
