-- What one exchange does to the two halves of a connection (RFC 9112, section 9.3): a request is written whole, and then one reply is read. `old`
-- and `new` are what the writer holds, or what the reader has left, before and after it; where they are not known, it is said only that there are
-- such bytes.
use Rattle.std.specs.Prelude.{◌≡◌, ℕ, List, Option}
use Rattle.std.specs.Io.KnownBytes.{Appends}
use Rattle.fed_http.specs.Message.{Answer}
use Rattle.fed_http.specs.Sending.{AppendsFront}
use Rattle.fed_http.specs.Text.{BeginsWith}
use Rattle.fed_http.specs.Writing.{reply_bytes}
use Rattle.fed_http.specs.declared.message.Kind.TheVariants.{Replies}
use Rattle.fed_http.specs.declared.message.Message.TheVariants.{Reply}
use Rattle.fed_stream.specs.Reading.{Reads, IsUnread}
use Rattle.fed_connection.specs.declared.unanswered.Unanswered.{Unanswered}
use Rattle.fed_connection.specs.declared.unanswered.Unanswered.TheVariants.{Unsent, Unread}

-- The bytes are those of the reply that the reader had next, as they are written; and they begin with the text of that same reply.
pub record IsReplyRead (old new : Option (List ℕ)) (bytes : List ℕ) : Type 0 where
  pub reply : Answer
  pub read : Reads Replies old new (Reply reply)
  pub written : bytes ≡ reply_bytes reply
  pub read_back : BeginsWith Replies bytes (Reply reply)

-- Why there is no reply. A front of the request was written, and nothing was read; or all of it was, and no reply was read.
abbrev pub IsUnanswered : List ℕ → Option (List ℕ) → Option (List ℕ) → Option (List ℕ) → Option (List ℕ) → Unanswered → Type 0
IsUnanswered request writer_old writer_new reader_old reader_new Unsent = AppendsFront writer_old writer_new request × (reader_new ≡ reader_old)
IsUnanswered request writer_old writer_new reader_old reader_new (Unread why) = Appends writer_old writer_new request × IsUnread Replies reader_old reader_new why
