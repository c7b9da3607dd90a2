-- What lay under the locks of a hub fits what its threads hold, and does so still in the report.
use Rattle.std.proofs.Common.{◌≡◌, ◌↔◌, Bool, ℕ, List, All, map, Result, Ok, Err, IfOk, IsTrue, refl, sym, ap, ◌∙◌, subst}
use Rattle.fed_hub_kept.specs.Answered.{AreAnswered}
use Rattle.fed_hub_kept.specs.Brought.{AreBrought}
use Rattle.fed_hub_kept.specs.OfJournal.{AreOfJournal}
use Rattle.fed_hub_kept.specs.Received.{IsGiven}
use Rattle.fed_hub_kept.specs.Sent.{AreSentAsStored}
use Rattle.fed_hub_rooms.specs.RoomHeld.{RoomHeld}
use Rattle.fed_hub_serving.specs.Answered.{AnsweredValue}
use Rattle.fed_hub_serving.specs.Serving.{ServingState}
use Rattle.fed_hub_state.specs.KeptRoom.{KeptState, id_of}
use Rattle.fed_hub_state.specs.SendingJournal.{SendingState}
use Rattle.fed_hub_told.specs.AsTold.{IsAsTold}
use Rattle.fed_hub_told.specs.Told.{ToldState}
use Rattle.fed_inbox.specs.History.{Point}
use Rattle.fed_journal.specs.declared.entry.Entry.{Entry}
use Rattle.fed_outbox.specs.Outbox.{OutboxState}
use Rattle.fed_hub.specs.declared.report.Report.{Report}
use Rattle.fed_hub.specs.declared.tokens.Tokens.{Tokens}
use Rattle.fed_hub.specs.declared.unlocked.Unlocked.{Unlocked}
use Rattle.fed_hub.specs.Report.{IsFitting, parts_in, parts_of}
use Rattle.fed_hub.specs.Rest.{IsSameKept}

-- each comparison, of equal lists
pub of_journal_by : {es es' : List Entry} {os os' : List OutboxState} → es ≡ es' → os ≡ os' → AreOfJournal es os → AreOfJournal es' os'
of_journal_by {es} {es'} {os} {os'} entries outboxes are = subst (λ (xs : List OutboxState). AreOfJournal es' xs) outboxes (subst (λ (xs : List Entry). AreOfJournal xs os) entries are)

pub given_by : {rs rs' : List KeptState} {ts ts' : List RoomHeld} → rs ≡ rs' → ts ≡ ts' → All (IsGiven rs) ts → All (IsGiven rs') ts'
given_by {rs} {rs'} {ts} {ts'} rooms threads are = subst (λ (xs : List RoomHeld). All (IsGiven rs') xs) threads (subst (λ (xs : List KeptState). All (IsGiven xs) ts) rooms are)

pub told_by : {cs cs' : List ToldState} {es es' : List Entry} → cs ≡ cs' → es ≡ es' → IsAsTold cs es → IsAsTold cs' es'
told_by {cs} {cs'} {es} {es'} clients entries is = subst (λ (xs : List Entry). IsAsTold cs' xs) entries (subst (λ (xs : List ToldState). IsAsTold xs es) clients is)

pub sent_by : (servers : List (List ℕ)) (own : ℕ) {rs rs' : List KeptState} {es es' : List Entry} → rs ≡ rs' → es ≡ es' → AreSentAsStored rs servers own es → AreSentAsStored rs' servers own es'
sent_by servers own {rs} {rs'} {es} {es'} rooms entries are =
    subst (λ (xs : List Entry). AreSentAsStored rs' servers own xs) entries (subst (λ (xs : List KeptState). AreSentAsStored xs servers own es) rooms are)

pub brought_by : (known : List (List ℕ)) {rs rs' : List KeptState} {ps ps' : List Point} → rs ≡ rs' → ps ≡ ps' → AreBrought known ps rs → AreBrought known ps' rs'
brought_by known {rs} {rs'} {ps} {ps'} rooms points are =
    subst (λ (xs : List Point). AreBrought known xs rs') points (subst (λ (xs : List KeptState). AreBrought known ps xs) rooms are)

pub answered_by : {ps ps' : List Point} {ts ts' : List (List AnsweredValue)} → ps ≡ ps' → ts ≡ ts' → AreAnswered ps ts → AreAnswered ps' ts'
answered_by {ps} {ps'} {ts} {ts'} points threads are =
    subst (λ (xs : List (List AnsweredValue)). AreAnswered ps' xs) threads (subst (λ (xs : List Point). AreAnswered xs ts) points are)

-- what is told of the one is told of the other
pub told_so : {A B E : Type 0} (told : Result Bool E) → (A → B) → (B → A) → IfOk told (λ is. IsTrue is ↔ A) → IfOk told (λ is. IsTrue is ↔ B)
told_so (Ok is) to from same = ((λ yes. to (same.0 yes)), (λ holds. same.1 (from holds)))
told_so (Err e) to from same = same

pub still_fits : {N : Type 0} (servers : List (List ℕ)) (own : ℕ) (known : List (List ℕ)) (unlocked : Unlocked N) (report : Report N) (tokens : Tokens N) → IsSameKept unlocked report
    → IsFitting servers own known (parts_of unlocked) tokens → IsFitting servers own known (parts_in report) tokens
still_fits {N} servers own known unlocked report tokens same fits =
    let entries = ap (λ (j : SendingState). j.entries) (sym same.same_journal) in
    let points = ap (λ (i : ServingState). i.points) (sym same.same_inbox) in
    record {
      places = ap (map id_of) same.same_rooms ∙ fits.places;
      accepted = of_journal_by entries (sym same.same_outboxes) fits.accepted;
      given = given_by (sym same.same_rooms) refl fits.given;
      told = told_by refl entries fits.told;
      sent = sent_by servers own (sym same.same_rooms) entries fits.sent;
      brought = brought_by known (sym same.same_rooms) points fits.brought;
      answered = answered_by points refl fits.answered;
    }
