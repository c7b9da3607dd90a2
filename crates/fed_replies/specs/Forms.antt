-- The forms of kept replies beside what the packed ones lie in.
use Rattle.std.specs.Prelude.{◌≡◌, ℕ, List, Bool, true, false}
use Rattle.std.specs.FinMap as map
use Rattle.fed_json.specs.CanonicalText.{canonical_text}
use Rattle.fed_txn.specs.Reply.{reply_value}
use Rattle.fed_txn.specs.Verdicts.{VerdictMap}
use Rattle.fed_replies.specs.declared.pieces.Ends.{Ends}
use Rattle.fed_replies.specs.declared.form.Form.{Form}
use Rattle.fed_replies.specs.declared.form.Form.TheVariants.{Packed, Whole}
use Rattle.fed_replies.specs.Pieces.{Content, AreEntered, AreWithin, ends_of, unpacked}
use Rattle.fed_replies.specs.PackedReply.{IsPackable}

abbrev pub is_packed : Form → Bool
is_packed (Packed start end size) = true
is_packed (Whole bytes) = false

-- the bytes of a reply
abbrev pub reply_of : Content → Form → List ℕ
reply_of content (Packed start end size) = canonical_text (reply_value (unpacked content start end))
reply_of content (Whole bytes) = bytes.items

abbrev pub IsWithin : Content → Form → Type 0
IsWithin content (Packed start end size) = AreWithin content start end
IsWithin content (Whole bytes) = Unit {0}

-- the verdicts of a reply that can be packed were entered behind the old content
pub record IsPackedBehind (old : Content) (reply : List ℕ) (start end : Ends) (new : Content) : Type 0 where
  pub verdicts : VerdictMap
  pub packable : IsPackable old.texts reply verdicts
  pub entered : AreEntered old (map.entries verdicts) new
  pub start_is : start ≡ ends_of old
  pub end_is : end ≡ ends_of new

pub record IsKeptWhole (old : Content) (reply bytes : List ℕ) (new : Content) : Type 0 where
  pub not_packable : (verdicts : VerdictMap) → ¬ IsPackable old.texts reply verdicts
  pub same : new ≡ old
  pub bytes_are : bytes ≡ reply

-- the form of one more reply
abbrev pub IsFormOf : Content → List ℕ → Form → Content → Type 0
IsFormOf old reply (Packed start end size) new = IsPackedBehind old reply start end new
IsFormOf old reply (Whole bytes) new = IsKeptWhole old reply bytes.items new
