-- Which replies are packed (Server-Server API, "Transactions": the response of `PUT /send/{txnId}`), of replies that are kept one after
-- another beside one table of texts.
use Rattle.std.specs.Prelude.{◌≡◌, ℕ, ◌+◌, ◌≤◌, List, [], ◌∷◌, ◌++◌, length, Option, Some, None}
use Rattle.std.specs.FinMap as map
use Rattle.std.specs.List.{All}
use Rattle.fed_json.specs.CanonicalText.{canonical_text}
use Rattle.fed_txn.specs.Verdicts.{VerdictMap}
use Rattle.fed_txn.specs.Reply.{reply_value}
use Rattle.fed_txn.specs.ReplyReading.{IsReply}
use Rattle.fed_replies.specs.HashId.{IsHashId}
use Rattle.fed_replies.specs.Texts.{Texts, with_text}

-- an event id, and the text of its error where it has failed
abbrev pub Verdict : Type 0
Verdict = List ℕ × Option (List ℕ)

-- the table with the text of an error
abbrev pub with_error : Texts → Option (List ℕ) → Texts
with_error texts None = texts
with_error texts (Some text) = with_text texts text

-- the table with the texts of all these verdicts
abbrev pub with_errors : Texts → List Verdict → Texts
with_errors texts [] = texts
with_errors texts (verdict ∷ verdicts) = with_errors (with_error texts verdict.1) verdicts

-- each id is a hash, and the table has at most 65,535 texts with those of the verdicts
pub record AreFit (texts : Texts) (verdicts : List Verdict) : Type 0 where
  pub ids : All (λ verdict. IsHashId verdict.0) verdicts
  pub few : length (with_errors texts verdicts) ≤ 65535

-- the bytes are read as these verdicts, and are what is written of them
pub record IsCanonicalReply (reply : List ℕ) (verdicts : VerdictMap) : Type 0 where
  pub read : IsReply reply verdicts
  pub written : reply ≡ canonical_text (reply_value verdicts)

pub record IsPackable (texts : Texts) (reply : List ℕ) (verdicts : VerdictMap) : Type 0 where
  pub canonical : IsCanonicalReply reply verdicts
  pub fit : AreFit texts (map.entries verdicts)

-- of these replies, kept in this order, so many are packed, and these are the texts in the table: one that can be packed is, and its
-- texts enter the table; any other is kept whole
pub data ArePacked : List (List ℕ) → Texts → ℕ → Type 0 where
  none : ArePacked [] [] 0
  packed : {replies : List (List ℕ)} {texts : Texts} {count : ℕ} {reply : List ℕ} {verdicts : VerdictMap}
      → ArePacked replies texts count → IsPackable texts reply verdicts
      → ArePacked (replies ++ reply ∷ []) (with_errors texts (map.entries verdicts)) (count + 1)
  whole : {replies : List (List ℕ)} {texts : Texts} {count : ℕ} {reply : List ℕ}
      → ArePacked replies texts count → ((verdicts : VerdictMap) → ¬ IsPackable texts reply verdicts)
      → ArePacked (replies ++ reply ∷ []) texts count

-- so many of these replies, kept in this order by a new store, are packed
abbrev pub IsPackedCount : List (List ℕ) → ℕ → Type 0
IsPackedCount replies count = (texts : Texts) × ArePacked replies texts count
