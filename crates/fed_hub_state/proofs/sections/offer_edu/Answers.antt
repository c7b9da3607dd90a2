use Rattle.std.proofs.Common.{◌≡◌, ℕ, List, None, Result, refl}
use Rattle.serde_json.specs.Data.{Data}
use Rattle.fed_journal.specs.declared.offered.Offered.TheVariants.{Edu}
use Rattle.fed_journal.specs.Edu.{edu_fault_of}
use Rattle.fed_journal.specs.Offering as step
use Rattle.fed_journal.specs.Offering.{open_among, with_lost}
use Rattle.fed_hub_state.specs.declared.sending_journal.EnterFault.{EnterFault}
use Rattle.fed_hub_state.specs.ClientToken.{ClientShare}
use Rattle.fed_hub_state.specs.Entering.{Enters, shut_down, no_place, no_memory, full, entered}
use Rattle.fed_hub_state.specs.Sections.{EduIsOffered}
use Rattle.fed_hub_state.specs.SendingJournal.{SendingState}
use Rattle.fed_hub_state.proofs.sections.offer_edu.Goals as goal

offered_so : (value : Data) (dests : List ℕ) (old : SendingState) (client : ClientShare) (told : Result ℕ EnterFault) (new : SendingState) (after : ClientShare) → edu_fault_of value ≡ None
    → Enters (Edu value) dests old client told new after → EduIsOffered value dests old client told new after
offered_so value dests old client _ _ _ fine (shut_down is) = (is, refl, refl)
offered_so value dests old client _ _ _ fine (no_place running none) = (running, step.IsEduOffered.no_place fine none, refl, refl)
offered_so value dests old client _ _ _ fine (no_memory running fits) = (running, refl, refl)
offered_so value dests old client _ _ _ fine (full wire running fits among) = (running, among, refl, refl)
offered_so value dests old client _ _ _ fine (entered lost running fits are) =
    (lost, open_among (with_lost old.entries lost) dests, (running, running, step.IsEduOffered.sent fine fits are, refl))

pub returns-clause-offered : goal.returns-clause-offered
returns-clause-offered g c = offered_so c.args.edu c.args.dests c.args.journal.now c.args.client.now c.enter.result c.enter.new.self c.enter.new.client c.requires.edu c.enter.ensures.entered
