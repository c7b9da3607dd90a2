-- Replies of which nothing is escaped, read verdict by verdict.
use Rattle.std.proofs.Common.{◌≡◌, ℕ, List, [], ◌∷◌, ◌++◌, map, Bool, true, false, T, codes, Option, Some, None, IsUtf8, refl, sym, ap, subst, ◌∙◌, arith}
use Rattle.std.specs.FinMap as finite
use Rattle.std.specs.FinMap.{is_sorted}
use Rattle.std.specs.Cmp.Lexicographic.{nat_list_cmp_total}
use Rattle.std.specs.List.{All, list_all}
use Rattle.std.specs.Ordering.{is_lt}
use Rattle.std.specs.Str.{is_utf8}
use Rattle.std.proofs.lemmas.Bool.{and_parts, and_from}
use Rattle.std.proofs.lemmas.List.{append_assoc}
use Rattle.std.proofs.lemmas.List.Elements.{All-nil, All-head, All-tail, All-weaker, All-push}
use Rattle.std.proofs.lemmas.Str.{IsUtf8-append, IsUtf8-from_ascii, is_utf8-from_IsUtf8}
use Rattle.json.proofs.Printed.Utf8.{IsUtf8-are_ascii}
use Rattle.fed_json.specs.CanonicalText.{canonical_text, comma}
use Rattle.fed_json.proofs.Edited.{less_from}
use Rattle.fed_json.proofs.KeyOrder.{chars_order}
use Rattle.fed_json.proofs.ReadBack.{read-compact_text}
use Rattle.fed_txn.specs.Verdicts.{VerdictMap, HasTextIds}
use Rattle.fed_txn.specs.Reply.{reply_value}
use Rattle.fed_txn.proofs.Poured.{verdict_members-depth}
use Rattle.fed_txn.proofs.Replies.{reply_profile}
use Rattle.fed_txn.proofs.RepliesRead.{written_is_read}
use Rattle.fed_replies.specs.PackedReply.{Verdict, IsCanonicalReply}
use Rattle.fed_replies.specs.Plain.{IsPlain}
use Rattle.fed_replies.specs.ReplyText.{IsPlainError, key_text, verdict_text, member_text, members_text}
use Rattle.fed_replies.proofs.OtherValues.{order}
use Rattle.fed_replies.proofs.ReplyTexts.{reply-written, is_more, members-push, plain_key, plain_error_text, no_error_text, plain_ascii}

abbrev pub IsPlainVerdict : Verdict → Type 0
IsPlainVerdict v = IsPlain v.0 × IsPlainError v.1

-- ---- they are UTF-8

plain_utf8 : (text : List ℕ) → IsPlain text → IsUtf8 text
plain_utf8 text h = IsUtf8-from_ascii text (plain_ascii text h)

key_utf8 : (id : List ℕ) → IsPlain id → IsUtf8 (key_text id)
key_utf8 id h =
    subst IsUtf8 (sym (plain_key id h))
    (IsUtf8-append (codes "\"") (id ++ codes "\":") (IsUtf8-are_ascii (codes "\"") refl) (IsUtf8-append id (codes "\":") (plain_utf8 id h) (IsUtf8-are_ascii (codes "\":") refl)))

verdict_utf8 : (error : Option (List ℕ)) → IsPlainError error → IsUtf8 (verdict_text error)
verdict_utf8 None h = subst IsUtf8 (sym no_error_text) (IsUtf8-are_ascii (codes "{}") refl)
verdict_utf8 (Some text) h =
    subst IsUtf8 (sym (plain_error_text text h))
    (IsUtf8-append (codes "{\"error\":\"") (text ++ codes "\"}") (IsUtf8-are_ascii (codes "{\"error\":\"") refl) (IsUtf8-append text (codes "\"}") (plain_utf8 text h) (IsUtf8-are_ascii (codes "\"}") refl)))

comma_utf8 : (later : Bool) → IsUtf8 (comma later)
comma_utf8 true = IsUtf8-are_ascii (codes ",") refl
comma_utf8 false = IsUtf8-are_ascii [] refl

members_utf8 : (later : Bool) (vs : List Verdict) → All IsPlainVerdict vs → IsUtf8 (members_text later vs)
members_utf8 later [] h = IsUtf8-are_ascii [] refl
members_utf8 later (v ∷ vs) h =
    let first = All-head IsPlainVerdict v vs h in
    IsUtf8-append (member_text later v) (members_text true vs)
    (IsUtf8-append (comma later) (key_text v.0 ++ verdict_text v.1) (comma_utf8 later) (IsUtf8-append (key_text v.0) (verdict_text v.1) (key_utf8 v.0 first.0) (verdict_utf8 v.1 first.1)))
    (members_utf8 true vs (All-tail IsPlainVerdict v vs h))

ids_utf8 : (vs : List Verdict) → All IsPlainVerdict vs → list_all is_utf8 (map (λ v. v.0) vs) ≡ true
ids_utf8 [] h = refl
ids_utf8 (v ∷ vs) h = and_from (is_utf8 v.0) _ (is_utf8-from_IsUtf8 v.0 (plain_utf8 v.0 (All-head IsPlainVerdict v vs h).0)) (ids_utf8 vs (All-tail IsPlainVerdict v vs h))

-- ---- they are read as what they say

canonical-written : (v : VerdictMap) → HasTextIds v → IsUtf8 (canonical_text (reply_value v)) → IsCanonicalReply (canonical_text (reply_value v)) v
canonical-written v texts utf8 =
    let profile = reply_profile chars_order v texts in
    let within = verdict_members-depth (finite.entries v) in
    record { read = written_is_read (canonical_text (reply_value v)) v (utf8, read-compact_text (reply_value v) profile.whole profile.rising (omega arith)); written = refl }

truly : (b : Bool) → b ≡ true → T b
truly true e = tt
truly false e = absurd (cc)

abbrev pub IsReadAs : List ℕ → List Verdict → VerdictMap → Type 0
IsReadAs reply vs v = IsCanonicalReply reply v × (finite.entries v ≡ vs)

canonical-members : (vs : List Verdict) → is_sorted order vs ≡ true → All IsPlainVerdict vs → (reply : List ℕ) → reply ≡ codes "{\"pdus\":{" ++ (members_text false vs ++ codes "}}") → (v : VerdictMap) × IsReadAs reply vs v
canonical-members vs sorted plain reply is =
    let v : VerdictMap = finite.from_sorted vs in
    let entries : finite.entries v ≡ vs = finite.entries-from_sorted order vs (truly (is_sorted order vs) sorted) in
    let texts : HasTextIds v = ap (λ es. list_all is_utf8 (map (λ e. e.0) es)) entries ∙ ids_utf8 vs plain in
    let written : canonical_text (reply_value v) ≡ reply = reply-written v ∙ ap (λ es. codes "{\"pdus\":{" ++ (members_text false es ++ codes "}}")) entries ∙ sym is in
    let utf8 : IsUtf8 reply =
    subst IsUtf8 (sym is)
    (IsUtf8-append (codes "{\"pdus\":{") (members_text false vs ++ codes "}}") (IsUtf8-are_ascii (codes "{\"pdus\":{") refl) (IsUtf8-append (members_text false vs) (codes "}}") (members_utf8 false vs plain) (IsUtf8-are_ascii (codes "}}") refl))) in
    (v, (subst (λ (r : List ℕ). IsCanonicalReply r v) written (canonical-written v texts (subst IsUtf8 (sym written) utf8)), entries))

-- ---- in order

pub lt_then : (a b c : List ℕ) → is_lt (order a b) ≡ true → is_lt (order b c) ≡ true → is_lt (order a c) ≡ true
lt_then a b c p q = ap is_lt (nat_list_cmp_total.trans a b c (less_from (order a b) p) (less_from (order b c) q))

-- each of them comes before this id
abbrev pub AreBefore : List ℕ → List Verdict → Type 0
AreBefore k vs = All (λ v. is_lt (order v.0 k) ≡ true) vs

module _ (w : Verdict) where
  abbrev IsBefore : Verdict → Type 0
  IsBefore v = is_lt (order v.0 w.0) ≡ true

  below-push : (a : List ℕ) (vs : List Verdict) → finite.Entries.below_all order a vs ≡ true → is_lt (order a w.0) ≡ true → finite.Entries.below_all order a (vs ++ w ∷ []) ≡ true
  below-push a [] h lt = and_from (is_lt (order a w.0)) true lt refl
  below-push a (v ∷ vs) h lt =
      let parts = and_parts (is_lt (order a v.0)) (finite.Entries.below_all order a vs) h in
      and_from (is_lt (order a v.0)) _ parts.0 (below-push a vs parts.1 lt)

  pub sorted-push : (vs : List Verdict) → is_sorted order vs ≡ true → AreBefore w.0 vs → is_sorted order (vs ++ w ∷ []) ≡ true
  sorted-push [] h before = refl
  sorted-push (v ∷ vs) h before =
      let parts = and_parts (finite.Entries.below_all order v.0 vs) (is_sorted order vs) h in
      and_from (finite.Entries.below_all order v.0 (vs ++ w ∷ [])) _ (below-push v.0 vs parts.0 (All-head IsBefore v vs before)) (sorted-push vs parts.1 (All-tail IsBefore v vs before))

-- ---- the front of a reply that was read

-- it has these verdicts, of which the last has this id, and goes on with the rest
pub record IsFrontOf (reply : List ℕ) (vs : List Verdict) (later : Bool) (last rest : List ℕ) : Type 0 where
  pub text : reply ≡ codes "{\"pdus\":{" ++ (members_text false vs ++ rest)
  pub later_is : later ≡ is_more vs
  pub plain : All IsPlainVerdict vs
  pub sorted : is_sorted order vs ≡ true
  pub above : (k : List ℕ) → is_lt (order last k) ≡ true → AreBefore k vs

pub front-none : (reply rest : List ℕ) → reply ≡ codes "{\"pdus\":{" ++ rest → IsFrontOf reply [] false [] rest
front-none reply rest is = record { text = is; later_is = refl; plain = All-nil IsPlainVerdict; sorted = refl; above = λ k lt. All-nil (λ v. is_lt (order v.0 k) ≡ true) }

more_after : (vs : List Verdict) (v : Verdict) → true ≡ is_more (vs ++ v ∷ [])
more_after [] v = refl
more_after (w ∷ vs) v = refl

pub front-more : (reply : List ℕ) (vs : List Verdict) (later : Bool) (last rest : List ℕ) (v : Verdict) (behind : List ℕ) → IsFrontOf reply vs later last rest
    → is_lt (order last v.0) ≡ true → IsPlainVerdict v → rest ≡ member_text later v ++ behind → IsFrontOf reply (vs ++ v ∷ []) true v.0 behind
front-more reply vs later last rest v behind h after plain is = record {
  text = h.text ∙ ap (λ r. codes "{\"pdus\":{" ++ (members_text false vs ++ r)) is
      ∙ ap (λ r. codes "{\"pdus\":{" ++ r) (sym (append_assoc (members_text false vs) (member_text later v) behind)
      ∙ ap (λ b. (members_text false vs ++ member_text b v) ++ behind) h.later_is ∙ ap (λ t. t ++ behind) (sym (members-push vs v)));
  later_is = more_after vs v;
  plain = All-push IsPlainVerdict vs v h.plain plain;
  sorted = sorted-push v vs h.sorted (h.above v.0 after);
  above = λ k lt. All-push (λ w. is_lt (order w.0 k) ≡ true) vs v
      (All-weaker (λ w. is_lt (order w.0 v.0) ≡ true) (λ w. is_lt (order w.0 k) ≡ true) (λ w low. lt_then w.0 v.0 k low lt) vs (h.above v.0 after)) lt;
}

pub front-all : (reply : List ℕ) (vs : List Verdict) (later : Bool) (last rest : List ℕ) → IsFrontOf reply vs later last rest → rest ≡ codes "}}" → (v : VerdictMap) × IsReadAs reply vs v
front-all reply vs later last rest h is = canonical-members vs h.sorted h.plain reply (h.text ∙ ap (λ r. codes "{\"pdus\":{" ++ (members_text false vs ++ r)) is)
