-- The content hash of an event (Matrix, Server-Server API, "Calculating the content hash for an event").
use Rattle.std.specs.Prelude.{ℕ, List, [], ◌∷◌, Bool, false, Option, codes, bytes_eq, unwrap_or, option_map, option_and_then}
use Rattle.sha2.specs.Sha256.{sha256}
use Rattle.base64.specs.Engines.{standard_no_pad}
use Rattle.base64.specs.GeneralPurpose.{encode_of}
use Rattle.serde_json.specs.Data.{Data}
use Rattle.serde_json.specs.Find.{as_str, get}
use Rattle.fed_json.specs.CanonicalText.{canonical_text}
use Rattle.fed_redaction.specs.Names.{leave_out}

-- the top-level keys that the hash does not cover
abbrev pub uncovered_keys : List (List ℕ)
uncovered_keys = codes "unsigned" ∷ codes "signatures" ∷ codes "hashes" ∷ []

-- what is hashed: the event without them
abbrev pub covered_part : Data → Data
covered_part event = leave_out uncovered_keys event

-- its bytes
abbrev pub covered_text_of : Data → List ℕ
covered_text_of event = canonical_text (covered_part event)

-- the hash of an event of which it covers this text: in the standard alphabet of base64, without padding
abbrev pub hash_of_covered : List ℕ → List ℕ
hash_of_covered text = encode_of standard_no_pad (sha256 text)

-- the hash as a text
abbrev pub content_hash_of : Data → List ℕ
content_hash_of event = hash_of_covered (covered_text_of event)

-- the hash that the event gives, where there is one
abbrev pub given_hash_of : Data → Option (List ℕ)
given_hash_of event = option_and_then as_str (option_and_then (get (codes "sha256")) (get (codes "hashes") event))

-- whether it gives one, and that is its content hash
abbrev pub hash_fits_of : Data → Bool
hash_fits_of event = unwrap_or (option_map (bytes_eq (content_hash_of event)) (given_hash_of event)) false
