-- What a call leaves in the caller's buffer, where it tells the length of its answer, and what it returns.
use Rattle.std.specs.Prelude.{◌≡◌, ◌≢◌, ℕ, List, ◌++◌, drop, length, nat_le, if◌then◌else◌, Result, Ok, Err}
use Rattle.fed_c.specs.declared.status.Status.{Status}
use Rattle.fed_c.specs.declared.status.Status.TheVariants.{Done, BufferTooSmall, Memory}
use Rattle.fed_c.specs.Status.{number_of}

-- the bytes stand at the front of the buffer, and what stood behind them still does; a buffer that is too small for them is as it was
abbrev pub filled : List ℕ → List ℕ → List ℕ
filled bytes buffer = if nat_le (length bytes) (length buffer) then bytes ++ drop (length bytes) buffer else buffer

abbrev pub buffer_status : List ℕ → List ℕ → Status
buffer_status bytes buffer = if nat_le (length bytes) (length buffer) then Done else BufferTooSmall

-- the buffer and the length that was told, before a call and after it
pub record Output : Type 0 where
  pub before : List ℕ
  pub after : List ℕ
  pub told_before : ℕ
  pub told : ℕ

-- nothing is written
pub record IsKept (o : Output) : Type 0 where
  pub buffer : o.after ≡ o.before
  pub length_told : o.told ≡ o.told_before

-- the answer is given where the buffer is large enough for it, and its length is told either way
pub record HoldsBytes (bytes : List ℕ) (status : ℕ) (o : Output) : Type 0 where
  pub returned : status ≡ number_of (buffer_status bytes o.before)
  pub buffer : o.after ≡ filled bytes o.before
  pub length_told : o.told ≡ length bytes

pub record IsRefused (why : Status) (status : ℕ) (o : Output) : Type 0 where
  pub returned : status ≡ number_of why
  pub nothing : IsKept o

abbrev pub Holds : Result (List ℕ) Status → ℕ → Output → Type 0
Holds (Ok bytes) status o = HoldsBytes bytes status o
Holds (Err why) status o = IsRefused why status o

-- a call that has this answer gives it, or tells that memory ran out and writes nothing
pub record Gives (answer : Result (List ℕ) Status) (status : ℕ) (o : Output) : Type 0 where
  pub answered : status ≢ number_of Memory → Holds answer status o
  pub short_of_memory : status ≡ number_of Memory → IsKept o

-- a call that makes no bytes returns this status, or that memory ran out
abbrev pub Returns : Status → ℕ → Type 0
Returns wanted status = status ≢ number_of Memory → status ≡ number_of wanted
