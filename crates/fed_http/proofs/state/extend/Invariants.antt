use Rattle.std.proofs.Common.{◌≡◌, ◌+◌, ◌≤◌, ◌++◌, length, vec_len, vec_capacity}
use Rattle.fed_http.proofs.state.extend.Given as goal

abbrev pub invariant-loop-left : goal.invariant-loop-left
invariant-loop-left l = record {
  items : l.to.items ++ l.left ≡ l.fn.to.items ++ l.bytes;
  len : vec_len l.to + length l.left ≡ vec_len l.fn.to + length l.bytes;
  capacity : vec_capacity l.fn.to ≤ vec_capacity l.to;
}

abbrev pub decreases-loop-left : goal.decreases-loop-left
decreases-loop-left l = length l.left
