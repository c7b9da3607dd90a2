-- A stream that comes in pieces, up to the end of its next message.
use Rattle.std.specs.Prelude.{ℕ, ◌+◌, List, ◌∷◌, ◌++◌}
use Rattle.fed_http.specs.Reader.{Reading, Gives, Waits}
use Rattle.fed_http.specs.declared.message.Message.{Message}

-- A reader that stands for some bytes, and is given the pieces in turn, waits at some, and then gives the message, at that place counted from
-- the first piece's beginning.
pub data GivesInPieces (m : Message) : Reading → List ℕ → List (List ℕ) → ℕ → Type 0 where
  now : (old new : Reading) (bytes piece : List ℕ) (pieces : List (List ℕ)) (used : ℕ) → Gives old bytes piece new m used → GivesInPieces m old bytes (piece ∷ pieces) used
  later : (old new : Reading) (bytes piece : List ℕ) (pieces : List (List ℕ)) (used place : ℕ) → Waits old bytes piece new used → GivesInPieces m new (bytes ++ piece) pieces place
      → GivesInPieces m old bytes (piece ∷ pieces) (used + place)
