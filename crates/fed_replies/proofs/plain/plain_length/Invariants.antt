use Rattle.std.proofs.Common.{ℕ, ◌<◌, get_or}
use Rattle.fed_replies.specs.Plain.{IsPlainByte}
use Rattle.fed_replies.proofs.plain.plain_length.Given as goal

-- those before are plain
abbrev pub invariant-loop-place : goal.invariant-loop-place
invariant-loop-place l = (k : ℕ) → k < l.place → IsPlainByte (get_or l.text k 0)
