-- What checks the signatures of servers (Matrix, appendix "Checking for a Signature").
use Rattle.std.specs.Prelude.{ℕ, List, Bool}

-- whether a signature of a message is one of a server's key: server, key, message, signature
abbrev pub Checks : Type 0
Checks = List ℕ → List ℕ → List ℕ → List ℕ → Bool
