-- A new inbox and the verdicts of a transaction as look-ups.
use Rattle.std.specs.Prelude.{ℕ, List, Bool, ◌&&◌, not, is_some, bytes_eq, Option, Some, None, if◌then◌else◌}
use Rattle.serde_json.specs.Data.{Data}
use Rattle.serde_json.specs.Find.{as_object}
use Rattle.fed_event.specs.Names.{is_one_of}
use Rattle.fed_inbox.specs.Elements.{element_id}
use Rattle.fed_inbox.specs.Log.{LogState}
use Rattle.fed_replies.specs.Kept.{KeptReplies, reply_at}
use Rattle.fed_inbox.specs.Inbox.{new_log}

-- a new inbox takes from a server that is listed and is not the own
abbrev pub is_taken_from : List ℕ → List (List ℕ) → List ℕ → Bool
is_taken_from own servers server = is_one_of servers server && not (bytes_eq server own)

-- the log of a server in a new inbox: one from which nothing was taken
abbrev pub log_of_new : KeptReplies → List ℕ → List (List ℕ) → List ℕ → Option LogState
log_of_new kept own servers server = if is_taken_from own servers server then Some (new_log kept server) else None

-- the reply for a transaction of a server in a new inbox
abbrev pub reply_of_new : KeptReplies → List ℕ → List (List ℕ) → List ℕ → List ℕ → Option (List ℕ)
reply_of_new kept own servers server txn = if is_taken_from own servers server then reply_at kept server txn else None

-- an object of this id
abbrev pub has_id : List ℕ → Data → Bool
has_id id element = is_some (as_object element) && bytes_eq id (element_id element)
