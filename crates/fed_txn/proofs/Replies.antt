-- Replies are of the profile, and different verdicts have different replies.
use Rattle.std.proofs.Common.{◌≡◌, ℕ, List, [], ◌∷◌, map, Bool, true, false, ◌&&◌, T, nat_cmp, codes, Option, Some, None, IsUtf8, refl, ap, ◌∙◌}
use Rattle.std.proofs.lemmas.Str.{is_utf8-from_IsUtf8, IsUtf8-from_is_utf8}
use Rattle.std.specs.FinMap as finite
use Rattle.std.specs.FinMap.{is_sorted}
use Rattle.std.specs.List.{list_all}
use Rattle.std.specs.Cmp.Lexicographic.{slice_cmp}
use Rattle.std.specs.Ordering.{is_lt}
use Rattle.std.specs.Str.{is_utf8, chars}
use lib.Utf8.{encode}
use Rattle.fed_json.specs.Profile.{all_whole, keys_rise, members_whole, members_rise, comes_before_first, IsProfile}
use Rattle.fed_txn.specs.Verdicts.{VerdictMap, HasTextIds}
use Rattle.fed_txn.specs.Reply.{verdict_value, verdict_members, reply_value}

abbrev Verdict : Type 0
Verdict = List ℕ × Option (List ℕ)

-- the order of texts by code point is that of their bytes
abbrev IsKeyOrder : Type 0
IsKeyOrder = (s t : List ℕ) → IsUtf8 s → IsUtf8 t → slice_cmp nat_cmp (chars s) (chars t) ≡ slice_cmp nat_cmp s t

truth : (b : Bool) → T b → b ≡ true
truth true h = refl
truth false h = absurd h

first : (a b : Bool) → a && b ≡ true → a ≡ true
first true b h = refl
first false b h = h

second : (a b : Bool) → a && b ≡ true → b ≡ true
second true b h = h
second false b h = absurd (cc)

text_pdus : is_utf8 (codes "pdus") ≡ true
unfolding encode
text_pdus = is_utf8-from_IsUtf8 (codes "pdus") (codes "pdus", (refl, refl))

text_error : is_utf8 (codes "error") ≡ true
unfolding encode
text_error = is_utf8-from_IsUtf8 (codes "error") (codes "error", (refl, refl))

verdict_whole : (v : Option (List ℕ)) → all_whole (verdict_value v) ≡ true
verdict_whole None = refl
verdict_whole (Some text) = refl

verdict_rises : (v : Option (List ℕ)) → keys_rise (verdict_value v) ≡ true
verdict_rises None = refl
verdict_rises (Some text) = rw text_error

pub verdicts_whole : (es : List Verdict) → members_whole (verdict_members es) ≡ true
verdicts_whole [] = refl
verdicts_whole (e ∷ es) = rw (verdict_whole e.1) (verdicts_whole es)

verdicts_rise : IsKeyOrder → (es : List Verdict) → list_all is_utf8 (map (λ e. e.0) es) ≡ true → is_sorted (slice_cmp nat_cmp) es ≡ true → members_rise (verdict_members es) ≡ true
verdicts_rise order [] texts sorted = refl
verdicts_rise order (e ∷ es) texts sorted =
    let text = first (is_utf8 e.0) _ texts in
    let before = starts es (second (is_utf8 e.0) _ texts) (first (finite.Entries.below_all (slice_cmp nat_cmp) e.0 es) _ sorted) in
    rw (text, before, verdict_rises e.1) (verdicts_rise order es (second (is_utf8 e.0) _ texts) (second (finite.Entries.below_all (slice_cmp nat_cmp) e.0 es) _ sorted))
  where
    starts : (fs : List Verdict) → list_all is_utf8 (map (λ f. f.0) fs) ≡ true → finite.Entries.below_all (slice_cmp nat_cmp) e.0 fs ≡ true → comes_before_first e.0 (verdict_members fs) ≡ true
    starts [] t b = refl
    starts (f ∷ fs) t b = ap is_lt (order e.0 f.0 (IsUtf8-from_is_utf8 e.0 (first (is_utf8 e.0) _ texts)) (IsUtf8-from_is_utf8 f.0 (first (is_utf8 f.0) _ t))) ∙ first (is_lt (slice_cmp nat_cmp e.0 f.0)) _ b

pub reply_profile : IsKeyOrder → (v : VerdictMap) → HasTextIds v → IsProfile (reply_value v)
reply_profile order v texts = record {
  whole = rw (verdicts_whole (finite.entries v));
  rising = rw (text_pdus, verdicts_rise order (finite.entries v) texts (truth _ (finite.entries_sorted v)));
}

same_verdict : (v w : Option (List ℕ)) → verdict_value v ≡ verdict_value w → v ≡ w
same_verdict None None e = refl
same_verdict None (Some text) e = absurd (cc)
same_verdict (Some text) None e = absurd (cc)
same_verdict (Some text) (Some other) e = cc

same_verdicts : (es fs : List Verdict) → verdict_members es ≡ verdict_members fs → es ≡ fs
same_verdicts [] [] e = refl
same_verdicts [] (f ∷ fs) e = absurd (cc)
same_verdicts (e ∷ es) [] p = absurd (cc)
same_verdicts ((k, v) ∷ es) ((l, w) ∷ fs) p =
    let key : k ≡ l = cc in
    let value : verdict_value v ≡ verdict_value w = cc in
    let others : verdict_members es ≡ verdict_members fs = cc in
    let verdict = same_verdict v w value in
    let rest = same_verdicts es fs others in
    cc

pub same_replies : (v w : VerdictMap) → reply_value v ≡ reply_value w → v ≡ w
same_replies v w e =
    let members : verdict_members (finite.entries v) ≡ verdict_members (finite.entries w) = cc in
    finite.same_entries_map v w (same_verdicts _ _ members)
