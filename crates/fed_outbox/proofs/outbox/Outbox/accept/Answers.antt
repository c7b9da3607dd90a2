use Rattle.std.proofs.Common.{◌≤◌, ◌+◌, ◌^◌, ◌++◌, ◌∷◌, [], ◌∙◌, ap, sym, subst, refl}
use Rattle.fed_journal.specs.declared.parcel.Load.TheVariants.{Event, Edu, End}
use Rattle.fed_outbox.specs.Outbox.{OutboxState, expected, with_load}
use Rattle.fed_outbox.proofs.Counts.{event_kept, edu_kept, event_waits, edu_waits}
use Rattle.fed_outbox.proofs.outbox.Outbox.accept.Goals as goal
use Rattle.fed_outbox.proofs.outbox.Outbox.accept.Goals.{in-Event+in_default, in-Edu+in_default-reserve, in-End}

abbrev HasRoom : OutboxState → Type 0
HasRoom o = expected o ≤ 2 ^ 53 + 1

pub invariant_of-self-in-Event : goal.invariant_of-self-in-Event
invariant_of-self-in-Event c =
    let pushed = (rw c.unwrap.ensures at c.push.ensures.items) ∙ ap (λ l. l ++ c.in-Event.event ∷ []) c.reserve.ensures.items in
    event_kept c.self.inside _ c.in-Event.event c.self.invariant pushed (subst HasRoom (sym c.self.view_is) (c.if-not-is_next.ensures.within refl))

pub invariant_of-self-in-Edu : goal.invariant_of-self-in-Edu
invariant_of-self-in-Edu c =
    let pushed = (rw c.unwrap-in-Edu.ensures at c.push-in-Edu.ensures.items) ∙ ap (λ l. l ++ c.in-Edu.edu ∷ []) c.reserve-in-Edu.ensures.items in
    edu_kept c.self.inside _ c.in-Edu.edu c.self.invariant pushed (subst HasRoom (sym c.self.view_is) (c.if-not-is_next.ensures.within refl))

pub returns-clause-ok : goal.returns-clause-ok
returns-clause-ok c =
    elim c.match-load.branch [
      | in-Event+in_default w ↦
          let pushed = (rw w.unwrap.ensures at w.push.ensures.items) ∙ ap (λ l. l ++ w.in-Event.event ∷ []) w.reserve.ensures.items in
          w.self-is ∙ event_waits c.self.inside w.push.new.self w.in-Event.event c.self.invariant.pdus pushed
          ∙ ap (λ o. with_load o (Event w.in-Event.event)) c.self.view_is ∙ ap (with_load c.args.self.now) (sym w.in-Event.is)
      | in-Edu+in_default-reserve w ↦
          let pushed = (rw w.unwrap-in-Edu.ensures at w.push-in-Edu.ensures.items) ∙ ap (λ l. l ++ w.in-Edu.edu ∷ []) w.reserve-in-Edu.ensures.items in
          w.self-is ∙ edu_waits c.self.inside w.push-in-Edu.new.self w.in-Edu.edu c.self.invariant.edus pushed
          ∙ ap (λ o. with_load o (Edu w.in-Edu.edu)) c.self.view_is ∙ ap (with_load c.args.self.now) (sym w.in-Edu.is)
      | in-End w ↦ w.self-is ∙ ap (λ o. with_load o End) c.self.view_is ∙ ap (with_load c.args.self.now) (sym w.in-End.is)
    ]
