-- What stands in a sealed event.
use Rattle.std.proofs.Common.{◌≡◌, ℕ, List, Some, IsSome, codes, bytes_eq, true≢false, ap, ◌∙◌}
use Rattle.std.specs.Prelude.{◌≢◌}
use Rattle.serde_json.specs.Data.{Data, string}
use Rattle.serde_json.specs.Find.{as_object, get}
use Rattle.fed_json.proofs.Edited.{get-with_member, get-with_member_other, object-with_member}
use Rattle.fed_redaction.specs.declared.version.Version.{Version}
use Rattle.fed_redaction.specs.Event.{event_in}
use Rattle.fed_redaction.specs.ContentHash.{content_hash_of}
use Rattle.fed_event.specs.Sealing.{holding, hashed_of, signature_text_of, sealed_of}

pub get-sealed : (server key : List ℕ) (sign : List ℕ → List ℕ) (version : Version) (parts : Data) (name : List ℕ) → name ≢ codes "hashes" → name ≢ codes "signatures"
    → get name (sealed_of server key sign version parts).value ≡ get name parts
get-sealed server key sign version parts name hashes signatures =
    get-with_member_other (codes "signatures") name _ (hashed_of parts) signatures ∙ get-with_member_other (codes "hashes") name _ parts hashes

hashes_apart : codes "hashes" ≢ codes "signatures"
hashes_apart h = true≢false (ap (bytes_eq (codes "hashes")) h)

pub get-sealed_hashes : (server key : List ℕ) (sign : List ℕ → List ℕ) (version : Version) (parts : Data) → IsSome (as_object parts)
    → get (codes "hashes") (sealed_of server key sign version parts).value ≡ Some (holding (codes "sha256") (string (content_hash_of parts)))
get-sealed_hashes server key sign version parts is =
    get-with_member_other (codes "signatures") (codes "hashes") _ (hashed_of parts) hashes_apart ∙ get-with_member (codes "hashes") _ parts is

pub get-sealed_signatures : (server key : List ℕ) (sign : List ℕ → List ℕ) (version : Version) (parts : Data) → IsSome (as_object parts)
    → get (codes "signatures") (sealed_of server key sign version parts).value ≡ Some (holding server (holding key (string (signature_text_of sign (event_in version (hashed_of parts))))))
get-sealed_signatures server key sign version parts is = get-with_member (codes "signatures") _ (hashed_of parts) (object-with_member (codes "hashes") _ parts ∙ is)
