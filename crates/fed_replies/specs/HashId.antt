-- Event ids that are hashes (room version 4, "Event IDs": `$` and the unpadded URL-safe base64 of the reference hash, which has 32 bytes;
-- so 43 characters stand behind the `$`).
use Rattle.std.specs.Prelude.{◌≡◌, ℕ, List, ◌++◌, codes, length, drop, Ok}
use Rattle.base64.specs.Engines.{url_safe_no_pad}
use Rattle.base64.specs.GeneralPurpose.{decode_of, encode_of}

-- the id that these bytes are
unfoldable pub id_text : List ℕ → List ℕ
id_text hash = codes "$" ++ encode_of url_safe_no_pad hash

-- what stands behind the first character decodes to these 32 bytes, and the id is these encoded again
pub record IsIdOf (hash id : List ℕ) : Type 0 where
  pub size : length hash ≡ 32
  pub decoded : decode_of url_safe_no_pad (drop 1 id) ≡ Ok hash
  pub encoded : id ≡ id_text hash

abbrev pub IsHashId : List ℕ → Type 0
IsHashId id = (hash : List ℕ) × IsIdOf hash id
