use Rattle.std.proofs.Common.{◌≡◌, map, take, string_bytes}
use Rattle.fed_sim.proofs.server.texts.Given as goal

-- the copies so far
abbrev pub invariant-loop-text : goal.invariant-loop-text
invariant-loop-text l = map string_bytes l.copies.items ≡ take l.text-index (map string_bytes l.texts)
