use Rattle.std.proofs.Common.{◌≡◌, take, vec_capacity}
use Rattle.fed_hub.specs.Report.{settled_counts}
use Rattle.fed_hub.proofs.seats.look.Given as goal

-- as far as the loop has come; nothing else changes
abbrev pub invariant-loop-place : goal.invariant-loop-place
invariant-loop-place g l = record {
  same : l.outboxes ≡ l.fn.outboxes;
  shown : l.shown.items ≡ settled_counts (take l.place l.fn.outboxes);
  room : vec_capacity l.shown ≡ vec_capacity l.fn.shown;
}
