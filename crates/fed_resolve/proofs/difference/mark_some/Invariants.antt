use Rattle.std.proofs.Common.{◌≡◌, ◌<◌, ◌≤◌, ◌||◌, ℕ, not, eqb, length, get_or}
use Rattle.fed_resolve.specs.ChainParts.{is_marked}
use Rattle.fed_resolve.proofs.difference.mark_some.Given as goal

-- the places so far are marked also where their words have a bit
abbrev pub invariant-loop-place : goal.invariant-loop-place
invariant-loop-place l = record {
  long : length l.marks ≡ length l.masks;
  done : (q : ℕ) → q < l.place → is_marked l.marks q ≡ (is_marked l.fn.marks q || not (eqb (get_or l.masks q 0) 0));
  left : (q : ℕ) → l.place ≤ q → is_marked l.marks q ≡ is_marked l.fn.marks q;
}
