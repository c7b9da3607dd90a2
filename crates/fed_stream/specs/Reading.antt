-- What one call takes off a reader (RFC 9112, section 2.2). `old` and `new` are the bytes that the reader has left before the call and after it;
-- where they are not known, it is said only that there are such bytes.
use Rattle.std.specs.Prelude.{ℕ, ◌≤◌, List, ◌++◌, length, Option}
use Rattle.std.specs.Io.KnownBytes.{Consumes, IsAtEnd}
use Rattle.fed_http.specs.Text.{BeginsWith}
use Rattle.fed_http.specs.Waiting.{IsWaiting}
use Rattle.fed_http.specs.Faults.{IsFault}
use Rattle.fed_http.specs.declared.message.Kind.{Kind}
use Rattle.fed_http.specs.declared.message.Message.{Message}
use Rattle.fed_stream.specs.declared.unread.Unread.{Unread}
use Rattle.fed_stream.specs.declared.unread.Unread.TheVariants.{Http, EndedEarly, Read}

-- The bytes that were taken wait for more: no message is whole in them, and they have no fault (the laws `who_waits_has_no_message` and
-- `who_waits_has_no_fault` of fed_http).
pub record TakesPart (kind : Kind) (old new : Option (List ℕ)) : Type 0 where
  pub bytes : List ℕ
  pub taken : Consumes old new bytes
  pub waiting : IsWaiting kind bytes

-- The bytes that were taken end so with the last piece. Those before it wait for more, so that nothing was read behind the first piece with
-- which a message is whole, or a fault is there.
pub record TakesUpTo (kind : Kind) (old new : Option (List ℕ)) (Ends : List ℕ → Type 0) : Type 0 where
  pub before : List ℕ
  pub piece : List ℕ
  pub taken : Consumes old new (before ++ piece)
  pub waiting : IsWaiting kind before
  pub short : length piece ≤ 65536
  pub ends : Ends (before ++ piece)

-- a message was read: the bytes begin with its text, which ends in the last piece
abbrev pub Reads : Kind → Option (List ℕ) → Option (List ℕ) → Message → Type 0
Reads kind old new m = TakesUpTo kind old new (λ bytes. BeginsWith kind bytes m)

-- Why none was. The bytes have this fault, where want of memory says nothing of the last piece; or all bytes were taken, and they wait for more
-- (section 8: an incomplete message); or some were, and they do.
abbrev pub IsUnread : Kind → Option (List ℕ) → Option (List ℕ) → Unread → Type 0
IsUnread kind old new (Http fault) = TakesUpTo kind old new (λ bytes. IsFault kind bytes fault)
IsUnread kind old new EndedEarly = TakesPart kind old new × IsAtEnd new
IsUnread kind old new Read = TakesPart kind old new
