use Rattle.std.proofs.Common.{◌≡◌, ◌≤◌, ◌+◌, ◌-◌, ◌^◌, length}
use Rattle.std.specs.Prelude.{min}
use Rattle.fed_inbox.specs.Taken.{taken_left}
use Rattle.fed_sim.specs.Showing.{count_of}
use Rattle.fed_sim.proofs.making.count_of.Given as goal

-- those counted and those left are all of them
abbrev pub invariant-loop : goal.invariant-loop
invariant-loop l =
    (min (l.count + length (taken_left l.iterator')) (2 ^ 64 - 1) ≡ count_of (taken_left l.texts)) × (l.count ≤ 2 ^ 64 - 1)
