-- The text of a reply, verdict by verdict.
use Rattle.std.specs.Prelude.{ℕ, List, [], ◌∷◌, ◌++◌, Bool, true, codes, Option, Some, None}
use Rattle.std.specs.Cmp.Lexicographic.{slice_cmp}
use Rattle.std.specs.Ordering.{is_lt, nat_cmp}
use Rattle.serde_json.specs.Data.{string}
use Rattle.fed_json.specs.CanonicalText.{canonical_text, comma}
use Rattle.fed_txn.specs.Reply.{verdict_value}
use Rattle.fed_replies.specs.PackedReply.{Verdict}
use Rattle.fed_replies.specs.Plain.{IsPlain}

-- there is no error, or its text is plain
abbrev pub IsPlainError : Option (List ℕ) → Type 0
IsPlainError None = Unit {0}
IsPlainError (Some text) = IsPlain text

-- an id, as a key
unfoldable pub key_text : List ℕ → List ℕ
key_text id = canonical_text (string id) ++ codes ":"

-- `{}`, or `{"error":text}`
unfoldable pub verdict_text : Option (List ℕ) → List ℕ
verdict_text error = canonical_text (verdict_value error)

-- an id with its verdict, behind a comma where others stand before it
abbrev pub member_text : Bool → Verdict → List ℕ
member_text later verdict = comma later ++ (key_text verdict.0 ++ verdict_text verdict.1)

-- verdicts one after another
abbrev pub members_text : Bool → List Verdict → List ℕ
members_text later [] = []
members_text later (verdict ∷ verdicts) = member_text later verdict ++ members_text true verdicts

-- whether an id comes after the last one, in the order of bytes
abbrev pub comes_after : List ℕ → List ℕ → Bool
comes_after last id = is_lt (slice_cmp nat_cmp last id)
