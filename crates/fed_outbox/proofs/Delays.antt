-- The delays after failures.
use Rattle.std.proofs.Common.{◌≡◌, ℕ, zero, suc, ◌+◌, ◌-◌, ◌*◌, ◌^◌, ◌<◌, ◌≤◌, min, arith}
use Rattle.std.proofs.Math.Nat.{pow-suc, pow-le-pow_right}
use Rattle.fed_outbox.specs.Outbox.{delay}

doubled_at : (k : ℕ) → k ≤ 10 → min (1000 * 2 ^ suc k) 3600000 ≡ 2 * min (1000 * 2 ^ k) 3600000
doubled_at k h =
    let few : 2 ^ k ≤ 2 ^ 10 = pow-le-pow_right {n = 2} (omega arith) h in
    let twice : 2 ^ suc k ≡ 2 ^ k * 2 = pow-suc 2 k in
    omega arith

pub delay_doubled : (failures : ℕ) → 0 < failures → failures < 12 → delay (failures + 1) ≡ 2 * delay failures
delay_doubled zero some few = absurd (omega arith)
delay_doubled (suc k) some few =
    let one : suc k + 1 - 1 ≡ suc k = omega arith in
    let two : suc k - 1 ≡ k = omega arith in
    rw (one, two) (doubled_at k (omega arith))

pub delay_most : (failures : ℕ) → 13 ≤ failures → delay failures ≡ 3600000
delay_most failures many =
    let more : 12 ≤ failures - 1 = omega arith in
    let long : 2 ^ 12 ≤ 2 ^ (failures - 1) = pow-le-pow_right {n = 2} (omega arith) more in
    omega arith
