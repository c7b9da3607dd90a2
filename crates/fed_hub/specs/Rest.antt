-- A hub whose locks were opened: how many things lay under them, and that there is room for all of that.
use Rattle.std.specs.Prelude.{◌≡◌, ◌+◌, ◌≤◌, ℕ, length, vec_capacity}
use Rattle.fed_hub.specs.declared.report.Report.{Report}
use Rattle.fed_hub.specs.declared.rest.Space.{Space}
use Rattle.fed_hub.specs.declared.unlocked.Unlocked.{Unlocked}
use Rattle.fed_hub.specs.Seats.{HasRoom}

pub record IsOpen {N : Type 0} (wires wired : ℕ) (unlocked : Unlocked N) : Type 0 where
  pub each_outbox : length unlocked.outboxes.items ≡ wires
  pub each_room : length unlocked.rooms.items ≡ wired

-- a report has just what lay under the locks
pub record IsSameKept {N : Type 0} (unlocked : Unlocked N) (report : Report N) : Type 0 where
  pub same_journal : report.journal ≡ unlocked.journal
  pub same_outboxes : report.outboxes.items ≡ unlocked.outboxes.items
  pub same_inbox : report.inbox ≡ unlocked.inbox
  pub same_rooms : report.rooms.items ≡ unlocked.rooms.items

pub record HasSpace {N : Type 0} (wired wires readers : ℕ) (space : Space N) : Type 0 where
  pub no_room : length space.rooms.items ≡ 0
  pub for_rooms : wired ≤ vec_capacity space.rooms
  pub no_outbox : length space.outboxes.items ≡ 0
  pub for_outboxes : wires ≤ vec_capacity space.outboxes
  pub to_end : HasRoom wires (wires + readers) space.spare
