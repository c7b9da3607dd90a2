-- Deadlines: moments by which all must be done. Moments are in milliseconds of a watch, of which `tells` says what it may tell when it is asked,
-- and what it is then.
use Rattle.std.specs.Prelude.{◌≡◌, ℕ, ◌+◌, ◌*◌, ◌-◌, ◌^◌, ◌≤◌, max, min, Option, None, Some}
use Rattle.fed_tcp.specs.declared.deadline.Deadline.{Deadline}

-- the deadline has passed, by the moment that counts
abbrev pub HasPassed : {W : Type 0} → Deadline W → Type 0
HasPassed deadline = deadline.until ≤ deadline.told

-- how long is left until it
abbrev pub time_left : {W : Type 0} → Deadline W → ℕ
time_left deadline = deadline.until - deadline.told

-- The moment that counts once the watch told this, where `last` counted before: the later one. A watch that tells nothing counts as one that tells
-- the deadline.
abbrev pub moment_after : ℕ → ℕ → Option ℕ → ℕ
moment_after until last None = max last until
moment_after until last (Some moment) = max last moment

-- The watch was asked once, and the moment that counts is the one after what it told. The deadline is the one that it was.
abbrev pub IsAsked : {W : Type 0} → (W → Option ℕ → W → Type 0) → Deadline W → Deadline W → Type 0
IsAsked tells old new =
    (told : Option ℕ) × tells old.watch told new.watch × (new.told ≡ moment_after old.until old.told told) × (new.until ≡ old.until)

-- The moment that counts, and the deadline, where a watch told this: the deadline is so many seconds later, or the last moment that there is. A
-- watch that tells nothing leaves no time.
abbrev pub Begins : Option ℕ → ℕ → ℕ → ℕ → Type 0
Begins None seconds told until = (told ≡ 0) × (until ≡ 0)
Begins (Some moment) seconds told until = (told ≡ moment) × (until ≡ min (moment + 1000 * seconds) (2 ^ 64 - 1))

-- The watch was asked once, and the deadline begins by what it told.
abbrev pub IsSet : {W : Type 0} → (W → Option ℕ → W → Type 0) → W → ℕ → Deadline W → Type 0
IsSet tells watch seconds new =
    (told : Option ℕ) × tells watch told new.watch × Begins told seconds new.told new.until
