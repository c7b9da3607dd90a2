use Rattle.std.proofs.Common.{◌≡◌, ◌<◌, ◌≤◌, ℕ, ◌||◌, length}
use Rattle.fed_resolve.specs.ChainParts.{is_marked}
use Rattle.fed_resolve.proofs.places.add_marks.Given as goal

-- the places so far are done, and the others are as they were
abbrev pub invariant-loop-place : goal.invariant-loop-place
invariant-loop-place l = record {
  long : length l.marks ≡ length l.others;
  done : (q : ℕ) → q < l.place → is_marked l.marks q ≡ (is_marked l.fn.marks q || is_marked l.others q);
  rest : (q : ℕ) → l.place ≤ q → is_marked l.marks q ≡ is_marked l.fn.marks q;
}
