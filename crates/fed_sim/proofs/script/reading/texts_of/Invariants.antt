use Rattle.std.proofs.Common.{◌≡◌, map, string_bytes}
use Rattle.fed_sim.proofs.script.reading.texts_of.Given as goal

-- the texts so far are the words so far
abbrev pub invariant-loop-word : goal.invariant-loop-word
invariant-loop-word l = map string_bytes l.texts.items ≡ map (λ x. x.now) l.yielded
