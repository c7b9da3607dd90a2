-- Worlds that are reached step by step.
use Rattle.std.proofs.Common.{arith, ◌≡◌, ℕ, ◌+◌, ◌-◌, ◌<◌, ◌≤◌, nat_lt, Bool, false, sym, ap, ◌∙◌, subst, if◌then◌else◌}
use Rattle.std.proofs.lemmas.Bool.{le-ltb}
use Rattle.fed_sim.specs.declared.outcome.Outcome.TheVariants.{Now, TooLate}
use Rattle.fed_sim.specs.Steps.{Moves, Reached, ReachedInPart, no_step, one_more, before_it, in_it, risen}
use Rattle.fed_sim.specs.World.{WorldState, max_moment, at_moment}

pub reached_then : (a b c : WorldState) → Reached a b → Reached b c → Reached a c
reached_then a b _ first no_step = first
reached_then a b c first (one_more between _ told later moves) = one_more between c told (reached_then a b between first later) moves

pub in_part_then : (a b c : WorldState) → Reached a b → ReachedInPart b c → ReachedInPart a c
in_part_then a b c first (before_it later) = before_it (reached_then a b c first later)
in_part_then a b c first (in_it between server place later stopped) = in_it between server place (reached_then a b between first later) stopped

-- the step that was refused has left the world as it was
pub as_it_was : (a b c : WorldState) → Reached a b → c ≡ b → ReachedInPart a c
as_it_was a b c first same = before_it (subst (Reached a) (sym same) first)

-- the moment rises by so many milliseconds
pub ticks : (w : WorldState) (ms : ℕ) → w.now + ms ≤ max_moment → Moves w (Now (w.now + ms)) (at_moment w (w.now + ms))
ticks w ms within =
    let fits : nat_lt max_moment (w.now + ms) ≡ false = le-ltb _ _ within in
    risen ms (ap (λ (b : Bool). if b then (TooLate, w) else (Now (w.now + ms), at_moment w (w.now + ms))) (sym fits))

-- the moment rises to a later one
pub rises : (w : WorldState) (at_ms : ℕ) → w.now < at_ms → at_ms ≤ max_moment → Reached w (at_moment w at_ms)
rises w at_ms later within =
    let ms = at_ms - w.now in
    let sum : w.now + ms ≡ at_ms = omega (arith, later) in
    let fits : nat_lt max_moment (w.now + ms) ≡ false = le-ltb _ _ (omega (arith, sum, within)) in
    one_more w (at_moment w at_ms) (Now at_ms) no_step (risen ms ((λ i. (Now (sym sum i), at_moment w (sym sum i)))
    ∙ ap (λ (b : Bool). if b then (TooLate, w) else (Now (w.now + ms), at_moment w (w.now + ms))) (sym fits)))
