use Rattle.std.proofs.Common.{◌≡◌, None, ◌++◌, ◌∷◌, [], map, refl, sym, ap, ◌∙◌}
use Rattle.fed_json.specs.declared.value.Json.{Json}
use Rattle.fed_dest.specs.declared.server_set.ServerSet.{ServerSet}
use Rattle.fed_journal.specs.declared.entry.Entry.{Entry}
use Rattle.fed_journal.specs.declared.entry.Entry.TheVariants.{Event, Edu, Close}
use Rattle.fed_hub_told.specs.AsTold.{OfferedEdu, offered_edu}
use Rattle.fed_hub_told.specs.Offers.{edu_of}
use Rattle.fed_hub_told.proofs.Lists.{mapped_push, picked_more, picked_none}
use Rattle.fed_hub_told.proofs.offers.edus_among.Goals as goal
use Rattle.fed_hub_told.proofs.offers.edus_among.Goals.{in-Edu+in_ok-push, in_default}

-- another entry is no EDU
no_edu : (entry : Entry) → ((edu : Json) (dests : ServerSet) → entry ≡ Edu edu dests → ⊥) → offered_edu entry ≡ None
no_edu (Event event dests) other = refl
no_edu (Edu edu dests) other = absurd (other edu dests refl)
no_edu (Close dest cause) other = refl

pub loop-entry-preserved : goal.loop-entry-preserved
loop-entry-preserved c =
    let entries = c.args.entries.now in
    let i = c.loop-entry.entry-index in
    let entry = c.entry-item.result in
    elim c.match-entry.branch [
      | in-Edu+in_ok-push w ↦
          let offered : OfferedEdu = record { edu = w.in-Edu.edu; dests = w.in-Edu.dests } in
          ap (λ v. map edu_of v.items) w.edus-is
          ∙ mapped_push edu_of c.loop-entry.edus.items w.push.new.self.items _ w.in_ok-push.ensures.items
          ∙ ap (λ es. es ++ offered ∷ []) c.loop-entry.invariant
          ∙ sym (picked_more offered_edu entries i entry c.loop-entry-test.true c.entry-item.is offered (ap offered_edu w.in-Edu.is))
      | in_default w ↦
          ap (λ v. map edu_of v.items) w.edus-is
          ∙ c.loop-entry.invariant
          ∙ sym (picked_none offered_edu entries i entry c.loop-entry-test.true c.entry-item.is (no_edu entry w.in_default.not-Edu))
    ]
