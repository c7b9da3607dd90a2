-- A reader of a stream of messages, and what it answers to the next piece.
use Rattle.std.specs.Prelude.{◌≡◌, ℕ, ◌≤◌, ◌⊎◌, List, [], ◌++◌, Bool, true, false, length, take, Result, Err}
use Rattle.fed_http.specs.Text.{IsText, HasNoText}
use Rattle.fed_http.specs.Waiting.{IsWaiting}
use Rattle.fed_http.specs.Keeping.{Kept, IsKept}
use Rattle.fed_http.specs.declared.fault.HttpFault.{HttpFault}
use Rattle.fed_http.specs.declared.fault.HttpFault.TheVariants.{Memory}
use Rattle.fed_http.specs.declared.message.Kind.{Kind}
use Rattle.fed_http.specs.declared.message.Message.{Message}

-- what it reads, what it keeps of the bytes, and whether it told of a fault
pub record Reading : Type 0 where
  pub kind : Kind
  pub kept : Kept
  pub has_failed : Bool

-- It stands for the bytes that came since it was made, or since it last gave a message: it told of no fault, no message is whole in them,
-- and what it keeps is kept of them. Of chunks the lines are not kept, so that it may stand for several bytes; what follows then is the same
-- for each.
pub record StandsFor (r : Reading) (bytes : List ℕ) : Type 0 where
  pub live : r.has_failed ≡ false
  pub none : HasNoText r.kind bytes
  pub kept : IsKept r.kind r.kept bytes

-- a message is whole: the bytes so far, up to some of the piece, are a text of it; it begins anew
pub record Gives (old : Reading) (bytes piece : List ℕ) (new : Reading) (m : Message) (used : ℕ) : Type 0 where
  pub within : used ≤ length piece
  pub text : IsText old.kind m (bytes ++ take used piece)
  pub kind : new.kind ≡ old.kind
  pub after : StandsFor new []

-- no message is whole, and one may become so: it stands for the piece too
pub record Waits (old : Reading) (bytes piece : List ℕ) (new : Reading) (used : ℕ) : Type 0 where
  pub all_used : used ≡ length piece
  pub none : HasNoText old.kind (bytes ++ piece)
  pub waiting : IsWaiting old.kind (bytes ++ piece)
  pub kind : new.kind ≡ old.kind
  pub after : StandsFor new (bytes ++ piece)

-- no message can begin so: from then on it has failed
pub record Fails (fact : Kind → List ℕ → Type 0) (old : Reading) (bytes piece : List ℕ) (new : Reading) : Type 0 where
  pub is : fact old.kind (bytes ++ piece)
  pub none : HasNoText old.kind (bytes ++ piece)
  pub kind : new.kind ≡ old.kind
  pub after : new.has_failed ≡ true

-- it stands for what it stood for
pub record Stays (old new : Reading) : Type 0 where
  pub kind : new.kind ≡ old.kind
  pub failed : new.has_failed ≡ old.has_failed
  pub stands : (bytes : List ℕ) → StandsFor old bytes → StandsFor new bytes

-- this fault is told, or want of memory
abbrev pub TellsOf : {A : Type 0} → HttpFault → Result A HttpFault → Type 0
TellsOf fault result = (result ≡ Err fault) ⊎ (result ≡ Err Memory)
