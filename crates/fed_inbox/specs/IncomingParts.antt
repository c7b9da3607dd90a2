-- What private functions say of the beginning of a whole request.
use Rattle.std.specs.Prelude.{◌≡◌, ◌⊎◌, ℕ, List, string_bytes, Err}
use Rattle.fed_http.specs.Message.{RequestValue}
use Rattle.fed_http.specs.XMatrix.{XMatrixValue}
use Rattle.fed_inbox.specs.declared.incoming.Incoming.{Incoming}
use Rattle.fed_inbox.specs.declared.refusal.Refusal.{Refusal}
use Rattle.fed_inbox.specs.declared.refusal.Refusal.TheVariants.{BadAuthorization, OutOfMemory}
use Rattle.fed_inbox.specs.WholeRequest.{Heading, HasHeader, IsReadAs}

abbrev pub heading_of : Incoming → Heading
heading_of i = record { txn = string_bytes i.txn; header = i.header }

-- the refusal that it is read as, or memory ran out
abbrev pub IsReadFault : List ℕ → RequestValue → Refusal → Type 0
IsReadFault own r refusal = IsReadAs own r (Err refusal) ⊎ (refusal ≡ OutOfMemory)

abbrev pub HasNoHeader : RequestValue → Type 0
HasNoHeader r = (header : XMatrixValue) → HasHeader r header → ⊥

-- there is no header, or memory ran out
abbrev pub IsHeaderFault : RequestValue → Refusal → Type 0
IsHeaderFault r refusal = ((refusal ≡ BadAuthorization) × HasNoHeader r) ⊎ (refusal ≡ OutOfMemory)
