use Rattle.std.proofs.Common.{◌≡◌, ap, sym, ◌∙◌}
use Rattle.serde_json.specs.Data.{Data}
use Rattle.fed_event.specs.Checked.{CheckedEvent}
use Rattle.fed_journal.specs.declared.parcel.Load.TheVariants.{Event, Edu}
use Rattle.fed_journal.proofs.parcel.LoadPartialEq.eq.Goals as goal

one_event : (event another : CheckedEvent) → Event event ≡ Event another → event ≡ another
one_event event another same = cc

one_edu : (edu another : Data) → Edu edu ≡ Edu another → edu ≡ another
one_edu edu another same = cc

pub returns-in-Event-Event-clause-same : goal.returns-in-Event-Event-clause-same
returns-in-Event-Event-clause-same c =
    let arm = c.in-Event-Event in
    (λ told. arm.is-0 ∙ ap Event (c.eq.ensures.same.0 told) ∙ sym arm.is-1, λ same. c.eq.ensures.same.1 (one_event _ _ (sym arm.is-0 ∙ same ∙ arm.is-1)))

pub returns-in-Edu-Edu-clause-same : goal.returns-in-Edu-Edu-clause-same
returns-in-Edu-Edu-clause-same c =
    let arm = c.in-Edu-Edu in
    let told = c.eq-in-Edu-Edu.ensures.same in
    (λ is. arm.is-0 ∙ ap Edu (told.0 is) ∙ sym arm.is-1, λ same. told.1 (one_edu _ _ (sym arm.is-0 ∙ same ∙ arm.is-1)))
