-- Signatures that anyone can compute. They are not the ed25519 of Matrix (appendix "Signing JSON") and give no security.
use Rattle.std.specs.Prelude.{ℕ, List, ◌∷◌, ◌++◌, ◌&&◌, bytes_eq, codes}
use Rattle.sha2.specs.Sha512.{sha512}
use Rattle.fed_keys.specs.Keys.{Checks}

-- the name of the one key of every server
abbrev pub stand_in_key : List ℕ
stand_in_key = codes "standin:1"

abbrev pub stand_in_secret : List ℕ → List ℕ
stand_in_secret server = codes "stand-in secret of " ++ server

-- the secret, a line feed, which is 10, and the message, hashed
abbrev pub stand_in_signature : List ℕ → List ℕ → List ℕ
stand_in_signature server message = sha512 (stand_in_secret server ++ 10 ∷ message)

-- that key's name, and that signature
abbrev pub stand_in_checks : Checks
stand_in_checks server key message signature = bytes_eq key stand_in_key && bytes_eq signature (stand_in_signature server message)
