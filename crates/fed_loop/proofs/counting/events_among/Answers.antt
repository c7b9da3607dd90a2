use Rattle.std.proofs.Common.{arith, ◌≡◌, [], length, refl, ap}
use Rattle.std.specs.List.{cons_option}
use Rattle.fed_event.specs.declared.checked.Checked.{Checked}
use Rattle.fed_dest.specs.declared.server_set.ServerSet.{ServerSet}
use Rattle.fed_journal.specs.declared.entry.Entry.{Entry}
use Rattle.fed_journal.specs.declared.entry.Entry.TheVariants.{Event, Edu, Close}
use Rattle.fed_journal.specs.Journal.{event_in}
use Rattle.fed_loop.proofs.Picked.{one_more_picked}
use Rattle.fed_loop.proofs.counting.events_among.Goals as goal
use Rattle.fed_loop.proofs.counting.events_among.Goals.{in-Event, in_default}

-- another entry is no event
no_event : (entry : Entry) → ((event : Checked) (dests : ServerSet) → entry ≡ Event event dests → ⊥) → length (cons_option (event_in entry) []) ≡ 0
no_event (Event event dests) other = absurd (other event dests refl)
no_event (Edu edu dests) other = refl
no_event (Close dest cause) other = refl

pub loop-entry-preserved : goal.loop-entry-preserved
loop-entry-preserved c =
    let entry = c.entry-item.result in
    let so_far = c.loop-entry.invariant.0 in
    let within = c.loop-entry.invariant.1 in
    let more = one_more_picked event_in c.args.entries.now c.loop-entry.entry-index entry c.loop-entry-test.true c.entry-item.is in
    elim c.match-entry.branch [
      | in-Event w ↦
          let one = ap (λ e. length (cons_option (event_in e) [])) w.in-Event.is in
          let count = w.count-is in
          (omega (arith, so_far, more, one, count), omega (arith, within, count))
      | in_default w ↦
          let none = no_event entry w.in_default.not-Event in
          let count = w.count-is in
          (omega (arith, so_far, more, none, count), omega (arith, within, count))
    ]
