use Rattle.std.proofs.Common.{◌≡◌, ◌≤◌, ◌+◌, ◌-◌, ◌^◌, length}
use Rattle.std.specs.Prelude.{min}
use Rattle.fed_inbox.specs.Taken.{taken_left}
use Rattle.fed_loop.proofs.counting.texts_left.Given as goal

-- those counted and those left are all of them
abbrev pub invariant-loop : goal.invariant-loop
invariant-loop l =
    (min (l.count + length (taken_left l.iterator')) (2 ^ 64 - 1) ≡ min (length (taken_left l.texts)) (2 ^ 64 - 1)) × (l.count ≤ 2 ^ 64 - 1)
