-- What an inbox makes of a request that was judged apart from it.
use Rattle.std.proofs.Common.{arith, ◌≡◌, ◌≢◌, ◌⊎◌, inl, inr, ℕ, List, [], Bool, true, false, if◌then◌else◌, Option, Some, None, Result, Ok, Err, refl, sym, ap, subst, ◌∙◌}
use Rattle.std.specs.FinMap as finite
use Rattle.fed_event.specs.Checked.{CheckedEvent}
use Rattle.fed_keys.specs.Keys.{Checks}
use Rattle.fed_http.specs.Message.{RequestValue}
use Rattle.fed_inbox.specs.declared.delivery.Judged.{Judged}
use Rattle.fed_inbox.specs.declared.refusal.Refusal.{Refusal}
use Rattle.fed_inbox.specs.declared.refusal.Refusal.TheVariants.{OutOfMemory}
use Rattle.fed_inbox.specs.Reply.{Answer, refused}
use Rattle.fed_inbox.specs.Log.{LogState}
use Rattle.fed_inbox.specs.Taking.{Taking}
use Rattle.fed_inbox.specs.Inbox.{InboxState, with_log}
use Rattle.fed_inbox.specs.WholeRequest.{IsAnsweredWhole, no_memory}
use Rattle.fed_inbox.specs.Receiver.{ReceiverState, IsInboxOf}
use Rattle.fed_inbox.specs.Delivery.{JudgedState, IsTaken, not_listed, in_log, inbox_with, step_in, step_unless, first_reply, first_fresh, Refuses}
use Rattle.fed_inbox.specs.DeliveryParts.{judgement}
use Rattle.fed_inbox.specs.Queues.{queues_after}
use Rattle.fed_inbox.proofs.Deliveries.{taken_stays}
use Rattle.fed_inbox.proofs.FoundLogs.{put_back}
use Rattle.fed_inbox.proofs.Histories.{of_same}
use Rattle.fed_hub_serving.specs.Answering.{Answers}
use Rattle.fed_hub_serving.specs.JudgedRequest.{IsDecided, reply_to, fresh_of}
use Rattle.fed_hub_serving.specs.Sections.{Takes}

-- nothing changed, or it got the first reply and brought the first events
abbrev pub Fares : {S : Type 0} → S → S → List CheckedEvent → Answer → Answer → List CheckedEvent → Type 0
Fares {S} old new fresh answer first events = ((new ≡ old) × (fresh ≡ [])) ⊎ ((answer ≡ first) × (fresh ≡ events) × (answer.status ≡ 200))

module _ (log : LogState) (txn : List ℕ) (answer : Answer) (now : LogState) (fresh : List CheckedEvent) where
  stepped : (comes_to : Result Taking Refusal) (kept : Option (List ℕ)) → let step = step_unless log txn comes_to kept in answer ≡ step.answer → now ≡ step.log → fresh ≡ step.fresh
      → Fares log now fresh answer (first_reply comes_to) (first_fresh comes_to)
  stepped comes_to (Some reply) a n f = inl (n, f)
  stepped (Err refusal) None a n f = inl (n, f)
  stepped (Ok taking) None a n f = inr (a, f, ap (λ (x : Answer). x.status) a)

  stepped_if : (found : Bool) (judged : JudgedState) → let step = step_unless log txn judged.comes_to (finite.get log.replies txn) in
      answer ≡ (if found then step.answer else refused OutOfMemory) → now ≡ (if found then step.log else log) → fresh ≡ (if found then step.fresh else [])
      → Fares log now fresh answer (first_reply judged.comes_to) (first_fresh judged.comes_to)
  stepped_if true judged a n f = stepped judged.comes_to (finite.get log.replies txn) a n f
  stepped_if false judged a n f = inl (n, f)

taken_fares : (old : InboxState) (judged : JudgedState) (answer : Answer) (new : InboxState) (fresh : List CheckedEvent) → IsTaken old judged answer new fresh
    → Fares old new fresh answer (first_reply judged.comes_to) (first_fresh judged.comes_to)
taken_fares old judged answer new fresh (not_listed none so) = inl (so.new_is, so.fresh_is)
taken_fares old judged answer new fresh (in_log log now there steps is) =
    by (stepped_if log judged.txn answer now fresh steps.found judged steps.answer_is steps.log_is steps.fresh_is)
  where
    by : Fares log now fresh answer (first_reply judged.comes_to) (first_fresh judged.comes_to) → Fares old new fresh answer (first_reply judged.comes_to) (first_fresh judged.comes_to)
    by (inr first) = inr first
    by (inl same) =
        inl (is ∙ ap (inbox_with judged.origin old) same.0 ∙ ap (λ (logs : List LogState). record { own = old.own; rooms = old.rooms; logs = logs }) (put_back judged.origin old.logs log there), same.1)

module _ (old : InboxState) (answer : Answer) (new : InboxState) (fresh : List CheckedEvent) where
  pub fares : (comes_to : Result Judged Refusal) → Answers comes_to old answer new fresh → Fares old new fresh answer (reply_to comes_to) (fresh_of comes_to)
  fares (Ok judged) so = taken_fares old (judgement judged) answer new fresh so
  fares (Err refusal) so = inl (so.new_is, so.fresh_is)

  -- a 500 changes nothing
  pub same_at_500 : (comes_to : Result Judged Refusal) → Answers comes_to old answer new fresh → answer.status ≡ 500 → new ≡ old
  same_at_500 comes_to so is = by (fares comes_to so)
    where
      by : Fares old new fresh answer (reply_to comes_to) (fresh_of comes_to) → new ≡ old
      by (inl same) = same.0
      by (inr first) = absurd (omega (arith, first.2, is))

  -- nor does another reply than the first
  pub same_unless_first : (comes_to : Result Judged Refusal) → Answers comes_to old answer new fresh → answer ≢ reply_to comes_to → new ≡ old
  same_unless_first comes_to so other = by (fares comes_to so)
    where
      by : Fares old new fresh answer (reply_to comes_to) (fresh_of comes_to) → new ≡ old
      by (inl same) = same.0
      by (inr first) = absurd (other first.0)

  pub all_or_none : (comes_to : Result Judged Refusal) → Answers comes_to old answer new fresh → (fresh ≡ []) ⊎ (fresh ≡ fresh_of comes_to)
  all_or_none comes_to so = by (fares comes_to so)
    where
      by : Fares old new fresh answer (reply_to comes_to) (fresh_of comes_to) → (fresh ≡ []) ⊎ (fresh ≡ fresh_of comes_to)
      by (inl same) = inl same.1
      by (inr first) = inr first.1

  module _ (receiver : ReceiverState) (server : IsInboxOf receiver old) where
    pub answers_request : (checks : Checks) (request : RequestValue) (comes_to : Result Judged Refusal) → IsDecided checks receiver request comes_to → Answers comes_to old answer new fresh
        → IsAnsweredWhole checks old request answer new fresh
    answers_request checks request (Ok judged) decided so = decided old server answer new fresh so
    answers_request checks request (Err refusal) decided so =
        of_same (λ a n f. IsAnsweredWhole checks old request a n f) answer (refused refusal) new old fresh [] so.answer_is so.new_is so.fresh_is (decided old server)

    pub still_of_server : (comes_to : Result Judged Refusal) → Answers comes_to old answer new fresh → IsInboxOf receiver new
    still_of_server (Ok judged) so = taken_stays receiver old new (judgement judged) answer fresh server so
    still_of_server (Err refusal) so = subst (IsInboxOf receiver) (sym so.new_is) server

-- ---- want of memory

pub no_memory_is_told : (checks : Checks) (old : InboxState) (request : RequestValue) → IsAnsweredWhole checks old request (refused OutOfMemory) old []
no_memory_is_told checks old request = no_memory (record { answer_is = refl; new_is = refl; fresh_is = refl })

pub refuses_for_memory : (checks : Checks) (receiver : ReceiverState) (request : RequestValue) → Refuses checks receiver request OutOfMemory
refuses_for_memory checks receiver request old server = no_memory_is_told checks old request

pub takes : (checks : Checks) (known : List (List ℕ)) (request : RequestValue) (old : InboxState) (answer : Answer) (new : InboxState) (fresh : List CheckedEvent)
    → IsAnsweredWhole checks old request answer new fresh → Takes checks known request old answer new fresh
takes checks known request old answer new fresh is queues = record { fresh = fresh; answered = is; queued = refl }
