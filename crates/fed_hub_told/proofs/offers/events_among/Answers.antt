use Rattle.std.proofs.Common.{◌≡◌, None, ◌++◌, ◌∷◌, [], map, refl, sym, ap, ◌∙◌}
use Rattle.fed_event.specs.declared.checked.Checked.{Checked}
use Rattle.fed_dest.specs.declared.server_set.ServerSet.{ServerSet}
use Rattle.fed_journal.specs.declared.entry.Entry.{Entry}
use Rattle.fed_journal.specs.declared.entry.Entry.TheVariants.{Event, Edu, Close}
use Rattle.fed_journal.specs.Journal.{event_in}
use Rattle.fed_hub_told.proofs.Lists.{mapped_push, picked_more, picked_none}
use Rattle.fed_hub_told.proofs.offers.events_among.Goals as goal
use Rattle.fed_hub_told.proofs.offers.events_among.Goals.{in-Event+in_ok-push, in_default}

-- another entry is no event
no_event : (entry : Entry) → ((event : Checked) (dests : ServerSet) → entry ≡ Event event dests → ⊥) → event_in entry ≡ None
no_event (Event event dests) other = absurd (other event dests refl)
no_event (Edu edu dests) other = refl
no_event (Close dest cause) other = refl

pub loop-entry-preserved : goal.loop-entry-preserved
loop-entry-preserved c =
    let entries = c.args.entries.now in
    let i = c.loop-entry.entry-index in
    let entry = c.entry-item.result in
    elim c.match-entry.branch [
      | in-Event+in_ok-push w ↦
          ap (λ v. map (λ e. e.now) v.items) w.events-is
          ∙ mapped_push (λ e. e.now) c.loop-entry.events.items w.push.new.self.items _ w.in_ok-push.ensures.items
          ∙ ap (λ es. es ++ w.in-Event.event ∷ []) c.loop-entry.invariant
          ∙ sym (picked_more event_in entries i entry c.loop-entry-test.true c.entry-item.is w.in-Event.event (ap event_in w.in-Event.is))
      | in_default w ↦
          ap (λ v. map (λ e. e.now) v.items) w.events-is
          ∙ c.loop-entry.invariant
          ∙ sym (picked_none event_in entries i entry c.loop-entry-test.true c.entry-item.is (no_event entry w.in_default.not-Event))
    ]
