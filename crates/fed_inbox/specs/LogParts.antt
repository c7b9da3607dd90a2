-- What the fields of a `Log` stand for, and its place among others.
use Rattle.std.specs.Prelude.{◌≡◌, ◌≢◌, ℕ, List, [], Bool}
use Rattle.std.specs.Str.{bytes_eq}
use Rattle.fed_replies.specs.Kept.{KeptReplies, replies_of}
use Rattle.fed_inbox.specs.declared.log.Log.TheInside.{Inside}
use Rattle.fed_inbox.specs.TextList.{joined}
use Rattle.fed_inbox.specs.Log.{TakenFrom}

abbrev pub taken_in : Inside → TakenFrom
taken_in l = record { origin = l.origin; pdus = joined l.pdus.items; edus = joined l.edus.items }

abbrev pub nothing_from : List ℕ → TakenFrom
nothing_from origin = record { origin = origin; pdus = []; edus = [] }

abbrev pub is_from : List ℕ → TakenFrom → Bool
is_from origin t = bytes_eq t.origin origin

-- the replies to every other origin are as they were
abbrev pub KeepsOthers : List ℕ → KeptReplies → KeptReplies → Type 0
KeepsOthers origin old new = (other : List ℕ) → other ≢ origin → replies_of new other ≡ replies_of old other
