use Rattle.std.proofs.Common.{◌≡◌, ℕ, Option, map, length}
use Rattle.fed_event.specs.Checked.{CheckedEvent}
use Rattle.fed_room_contract.specs.Room.{without}
use Rattle.fed_room_contract.proofs.store.forget.Given as goal

-- the others are the same, and each lack stands where its event does
abbrev pub invariant-loop-place : goal.invariant-loop-place
invariant-loop-place l = record {
  others : without l.id l.waiting.items ≡ without l.id l.initial.waiting.items;
  long : length l.lacks.items ≡ length l.waiting.items;
  lacks : (lack : CheckedEvent → Option ℕ) → l.initial.lacks.items ≡ map lack l.initial.waiting.items → l.lacks.items ≡ map lack l.waiting.items;
}

abbrev pub decreases-loop-place : goal.decreases-loop-place
decreases-loop-place l = length l.waiting.items
