-- What the reading of `fed_json` says of the value of bytes.
use Rattle.std.proofs.Common.{◌≡◌, ℕ, ◌<◌, ◌≤◌, List, Bool, true, false, IsUtf8, cond, None, Ok, Err, refl, sym, ap, arith, le-ltb, lt-ltb}
use Rattle.std.proofs.lemmas.Str.{is_utf8-from_IsUtf8, IsUtf8-from_is_utf8}
use Rattle.std.specs.Str.{is_utf8}
use Rattle.serde_json.specs.Data.{Data, depth}
use Rattle.serde_json.specs.Read.{read}
use Rattle.serde_json.proofs.Nesting.{depth-read}
use Rattle.fed_json.specs.Reading.{ReadsWithin, IsNotJson, HasOtherNumber, NestsPast}
use Rattle.fed_c.specs.declared.status.Status.TheVariants.{NotUtf8, NotJson, NotCanonical, TooDeep}
use Rattle.fed_c.specs.Values.{value_within, value_or_fault, text_of}

pub within_of_value : (bytes : List ℕ) (levels most : ℕ) (d : Data) → ReadsWithin bytes most d → most ≤ levels → value_within levels bytes ≡ Ok d
within_of_value bytes levels most d r h =
    let shallow = r.shallow in
    let enough : depth d ≤ levels = omega arith in
    rw (is_utf8-from_IsUtf8 bytes r.reads.0, r.reads.1, r.whole, le-ltb levels (depth d) enough)

pub within_of_no_value : (bytes : List ℕ) (levels : ℕ) → IsNotJson bytes → value_within levels bytes ≡ Err NotJson
within_of_no_value bytes levels none = ap (value_or_fault levels) (elim (is_utf8 bytes) as (λ b. is_utf8 bytes ≡ b → cond b (read bytes) None ≡ None) [ true ↦ λ t. none (IsUtf8-from_is_utf8 bytes t) | false ↦ λ t. refl ] refl)

pub within_of_other_number : (bytes : List ℕ) (levels : ℕ) → HasOtherNumber bytes → value_within levels bytes ≡ Err NotCanonical
within_of_other_number bytes levels (d, reads, other) = rw (is_utf8-from_IsUtf8 bytes reads.0, reads.1, other)

-- `serde_json` reads no deeper than 127
pub within_of_deep_value : (bytes : List ℕ) (levels most : ℕ) → NestsPast bytes most → most ≤ 127 → (most < 127 → most ≡ levels) → value_within levels bytes ≡ Err TooDeep
within_of_deep_value bytes levels most (d, reads, whole, deep) bound same =
    let read = depth-read bytes d reads.1 in
    let less : most < 127 = omega arith in
    let is = same less in
    let past : levels < depth d = omega arith in
    rw (is_utf8-from_IsUtf8 bytes reads.0, reads.1, whole, lt-ltb levels (depth d) past)

pub ruleset values_within = (within_of_value, within_of_no_value, within_of_other_number, within_of_deep_value)

-- ---- texts

not_true : (b : Bool) → ¬ (b ≡ true) → b ≡ false
not_true true h = absurd (h refl)
not_true false h = refl

pub text_of_text : (bytes text : List ℕ) → (text ≡ bytes) × IsUtf8 bytes → text_of bytes ≡ Ok text
text_of_text bytes text (same, u) = rw (is_utf8-from_IsUtf8 bytes u) (ap Ok (sym same))

pub text_of_none : {V : Type 0} (bytes : List ℕ) → ¬ (IsUtf8 bytes) × V → text_of bytes ≡ Err NotUtf8
text_of_none bytes (none, rest) = rw (not_true (is_utf8 bytes) (λ t. none (IsUtf8-from_is_utf8 bytes t))) refl
