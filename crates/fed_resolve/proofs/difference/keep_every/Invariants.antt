use Rattle.std.proofs.Common.{◌≡◌, ◌<◌, ◌≤◌, ◌&&◌, ℕ, eqb, length, get_or}
use Rattle.fed_resolve.specs.ChainParts.{is_marked}
use Rattle.fed_resolve.proofs.difference.keep_every.Given as goal

-- the places so far are marked only where their words are this one
abbrev pub invariant-loop-place : goal.invariant-loop-place
invariant-loop-place l = record {
  long : length l.marks ≡ length l.masks;
  done : (q : ℕ) → q < l.place → is_marked l.marks q ≡ (is_marked l.fn.marks q && eqb (get_or l.masks q 0) l.word);
  left : (q : ℕ) → l.place ≤ q → is_marked l.marks q ≡ is_marked l.fn.marks q;
}
