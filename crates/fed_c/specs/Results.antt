-- Answers that are made of others, one after another: the first that is a refusal ends it.
use Rattle.std.specs.Prelude.{Option, Some, None, Result, Ok, Err}
use Rattle.fed_c.specs.declared.status.Status.{Status}

abbrev pub and_then : {X Y : Type 0} → Result X Status → (X → Result Y Status) → Result Y Status
and_then (Ok x) f = f x
and_then (Err why) f = Err why

-- what is there, or this refusal
abbrev pub or_refusal : {X : Type 0} → Status → Option X → Result X Status
or_refusal why None = Err why
or_refusal why (Some x) = Ok x
