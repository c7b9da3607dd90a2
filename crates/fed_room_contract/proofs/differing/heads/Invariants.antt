use Rattle.std.proofs.Common.{◌≤◌, ◌+◌, ℕ, All, Contains, take}
use Rattle.fed_room_contract.proofs.differing.heads.Given as goal

-- the places so far
abbrev pub invariant-loop-place : goal.invariant-loop-place
invariant-loop-place l = record {
  within : All (λ head. head ≤ l.count) l.heads.keys;
  each : (place : ℕ) → Contains (take l.place-index l.places) place → Contains l.heads.keys (place + 1);
}
