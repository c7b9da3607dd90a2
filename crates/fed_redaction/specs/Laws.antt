-- What holds of all redactions and ids.
use Rattle.std.specs.Prelude.{◌≡◌, ℕ, List, true, false, ◌&&◌, not}
use Rattle.fed_redaction.specs.Names.{is_one_of}
use Rattle.fed_redaction.specs.declared.version.Version.{Version}
use Rattle.fed_redaction.specs.Version.{event_keys}
use Rattle.fed_redaction.specs.EventId.{unsigned_keys}
use Rattle.fed_redaction.specs.ContentHash.{uncovered_keys}

-- redaction keeps none of the names, or no signature covers them
abbrev pub AreUnsigned : Version → List (List ℕ) → Type 0
AreUnsigned version names = (name : List ℕ) → is_one_of names name ≡ true → (is_one_of (event_keys version) name && not (is_one_of unsigned_keys name)) ≡ false

-- the content hash covers none of the names
abbrev pub AreUncovered : List (List ℕ) → Type 0
AreUncovered names = (name : List ℕ) → is_one_of names name ≡ true → is_one_of uncovered_keys name ≡ true
