-- How a log is answered: by its step, or for want of memory.
use Rattle.std.proofs.Common.{◌≡◌, ◌≢◌, ℕ, List, [], subst, Result, Ok, Err, true, false, refl, sym, ap, ◌∙◌, ◌⊎◌, inl, inr, ◌<◌, length, map, get_or, set, Bool, if◌then◌else◌, Some, None}
use Rattle.std.specs.Prelude.{IsErrAnd}
use Rattle.serde_json.specs.Data.{Data}
use Rattle.fed_txn.specs.declared.fault.TxnFault.{TxnFault}
use Rattle.fed_txn.specs.declared.fault.TxnFault.TheVariants.{Memory, NotJson, NotCanonical, BadJson, TooManyPdus, TooManyEdus, TooLarge}
use Rattle.fed_inbox.specs.declared.refusal.Refusal.{Refusal}
use Rattle.fed_inbox.specs.declared.refusal.Refusal.TheVariants.{OutOfMemory, BadSignature, ServerNotListed}
use Rattle.fed_inbox.specs.Refusal.{refusal_of}
use Rattle.fed_inbox.specs.Reply.{Answer, refused}
use Rattle.fed_replies.specs.Kept.{KeptReplies}
use Rattle.fed_inbox.specs.Log.{LogState, TakenFrom, with_replies, AreByOrigin}
use Rattle.fed_inbox.specs.LogParts.{is_from, KeepsOthers}
use Rattle.fed_inbox.specs.InboxParts.{state_of}
use Rattle.fed_event.specs.Keys.{Checks}
use Rattle.fed_event.specs.Checked.{CheckedEvent}
use Rattle.fed_inbox.specs.declared.log.Accepted.{Accepted}
use Rattle.fed_inbox.specs.Answer.{SendRequest, Step, Steps, step_body, step_of, answer_by, logs_by, fresh_by, IsAnswered}
use Rattle.fed_inbox.specs.AnswerParts.{answer_with, fresh_with}
use Rattle.fed_inbox.specs.Inbox.{InboxState, log_at, with_log}
use Rattle.std.specs.List.{position}
use Rattle.fed_inbox.proofs.FoundLogs.{found_is, put_back}
use Rattle.fed_inbox.proofs.Places.{log_found, log_set}

pub answer_of_err : (r : Result Accepted Refusal) (x : Refusal) → IsErrAnd r (λ y. y ≡ x) → answer_with r ≡ refused x
answer_of_err (Ok a) x h = absurd h
answer_of_err (Err y) x h = ap refused h

pub fresh_of_err : (r : Result Accepted Refusal) (x : Refusal) → IsErrAnd r (λ y. y ≡ x) → fresh_with r ≡ []
fresh_of_err (Ok a) x h = absurd h
fresh_of_err (Err y) x h = refl

pub by_memory : (old : LogState) (step : Step) (r : Result Accepted Refusal) → IsErrAnd r (λ y. y ≡ OutOfMemory) → Steps old step (answer_with r) old (fresh_with r)
by_memory old step r h = record { found = false; answer_is = answer_of_err r OutOfMemory h; log_is = refl; fresh_is = fresh_of_err r OutOfMemory h }

is_memory : (e : TxnFault) → (e ≡ Memory) ⊎ (e ≢ Memory)
is_memory Memory = inl refl
is_memory NotJson = inr (λ h. cc)
is_memory NotCanonical = inr (λ h. cc)
is_memory (BadJson f) = inr (λ h. cc)
is_memory TooManyPdus = inr (λ h. cc)
is_memory TooManyEdus = inr (λ h. cc)
is_memory TooLarge = inr (λ h. cc)

memory_refused : (old : LogState) (step : Step) (e : TxnFault) (r : Result Accepted Refusal) → e ≡ Memory → IsErrAnd r (λ y. y ≡ refusal_of e) → Steps old step (answer_with r) old (fresh_with r)
memory_refused old step e r m h = record {
  found = false;
  answer_is = answer_of_err r (refusal_of e) h ∙ ap (λ f. refused (refusal_of f)) m;
  log_is = refl;
  fresh_is = fresh_of_err r (refusal_of e) h;
}

module _ (checks : Checks) (rooms : List (List ℕ)) where
  -- a body that is none
  pub body_refused : (old : LogState) (txn : List ℕ) (is_signed : Data → Bool) (b : Result Data TxnFault) (e : TxnFault) (r : Result Accepted Refusal)
      → (e ≢ Memory → b ≡ Err e) → IsErrAnd r (λ y. y ≡ refusal_of e) → Steps old (step_body checks rooms old txn is_signed b) (answer_with r) old (fresh_with r)
  body_refused old txn is_signed b e r same h = by (is_memory e)
    where
      by : (e ≡ Memory) ⊎ (e ≢ Memory) → Steps old (step_body checks rooms old txn is_signed b) (answer_with r) old (fresh_with r)
      by (inl m) = memory_refused old _ e r m h
      by (inr n) = rw (same n) (record { found = true; answer_is = answer_of_err r (refusal_of e) h; log_is = refl; fresh_is = fresh_of_err r (refusal_of e) h })

  -- a body that is read and not signed
  pub unsigned_refused : (old : LogState) (txn : List ℕ) (is_signed : Data → Bool) (b : Result Data TxnFault) (d : Data) → b ≡ Ok d → is_signed d ≡ false → Steps old (step_body checks rooms old txn is_signed b) (refused BadSignature) old []
  unsigned_refused old txn is_signed b d read none = rw (read, none) (record { found = true; answer_is = refl; log_is = refl; fresh_is = refl })

-- ---- an inbox, by the log of the origin

same_inbox : {o : List ℕ} {rooms : List (List ℕ)} {ls ms : List LogState} → ls ≡ ms → ◌≡◌ {A = InboxState} (record { own = o; rooms = rooms; logs = ls }) (record { own = o; rooms = rooms; logs = ms })
same_inbox {o} {rooms} e i = record { own = o; rooms = rooms; logs = e i }

module _ (checks : Checks) (s : InboxState) (request : SendRequest) where
  -- the log of the origin is answered, and is put in its place
  pub answered_in : (old : LogState) (answer : Answer) (new : LogState) (fresh : List CheckedEvent) → log_at request.origin s.logs ≡ Some old → Steps old (step_of checks s.rooms old request) answer new fresh
      → IsAnswered checks s request answer (record { own = s.own; rooms = s.rooms; logs = with_log request.origin s.logs new }) fresh
  answered_in old answer new fresh there h = by h.found refl
    where
      step : Step
      step = step_of checks s.rooms old request

      by : (b : Bool) → h.found ≡ b → IsAnswered checks s request answer (record { own = s.own; rooms = s.rooms; logs = with_log request.origin s.logs new }) fresh
      by true e = record {
        found = true;
        answer_is = h.answer_is ∙ ap (λ f. if f then step.answer else refused OutOfMemory) e ∙ ap (λ o. answer_by checks s.rooms o request) (sym there);
        new_is = same_inbox (ap (with_log request.origin s.logs) (h.log_is ∙ ap (λ f. if f then step.log else old) e) ∙ ap (λ o. logs_by checks s.rooms s.logs o request) (sym there));
        fresh_is = h.fresh_is ∙ ap (λ f. if f then step.fresh else []) e ∙ ap (λ o. fresh_by checks s.rooms o request) (sym there);
      }
      by false e = record {
        found = false;
        answer_is = h.answer_is ∙ ap (λ f. if f then step.answer else refused OutOfMemory) e;
        new_is = same_inbox (ap (with_log request.origin s.logs) (h.log_is ∙ ap (λ f. if f then step.log else old) e) ∙ put_back request.origin s.logs old there);
        fresh_is = h.fresh_is ∙ ap (λ f. if f then step.fresh else []) e;
      }

  -- a refusal before the log is asked
  pub refused_at : (old : LogState) (r : Result Accepted Refusal) → log_at request.origin s.logs ≡ Some old → Steps old (step_of checks s.rooms old request) (answer_with r) old (fresh_with r)
      → IsAnswered checks s request (answer_with r) s (fresh_with r)
  refused_at old r there steps =
      subst (λ (new : InboxState). IsAnswered checks s request (answer_with r) new (fresh_with r)) (same_inbox (put_back request.origin s.logs old there)) (answered_in old (answer_with r) old (fresh_with r) there steps)

  pub answered_nobody : log_at request.origin s.logs ≡ None → IsAnswered checks s request (refused ServerNotListed) s []
  answered_nobody none = record {
    found = true;
    answer_is = ap (λ o. answer_by checks s.rooms o request) (sym none);
    new_is = same_inbox (ap (λ o. logs_by checks s.rooms s.logs o request) (sym none));
    fresh_is = ap (λ o. fresh_by checks s.rooms o request) (sym none);
  }

-- what the log of the origin and the store come to
pub answered_at : (checks : Checks) (own : List ℕ) (rooms : List (List ℕ)) (kept kept' : KeptReplies) (ls : List TakenFrom) (request : SendRequest) (i : ℕ) (old new : TakenFrom) (answer : Answer) (fresh : List CheckedEvent)
    → AreByOrigin ls → Some i ≡ position (is_from request.origin) ls → i < length ls → old ≡ get_or ls i old → KeepsOthers old.origin kept kept'
    → Steps (with_replies kept old) (step_of checks rooms (with_replies kept old) request) answer (with_replies kept' new) fresh
    → IsAnswered checks (state_of own rooms kept ls) request answer (state_of own rooms kept' (set ls i new)) fresh
answered_at checks own rooms kept kept' ls request i old new answer fresh order place within is keeps steps =
    let there = log_found kept request.origin ls i old place within is in
    let named : old.origin ≡ request.origin = found_is request.origin (map (with_replies kept) ls) (with_replies kept old) there in
    subst (λ (logs : List LogState). IsAnswered checks (state_of own rooms kept ls) request answer (record { own = own; rooms = rooms; logs = logs }) fresh)
    (sym (log_set request.origin kept kept' (subst (λ o. KeepsOthers o kept kept') named keeps) ls i new order place))
    (answered_in checks (state_of own rooms kept ls) request (with_replies kept old) answer (with_replies kept' new) fresh there steps)

pub listed_or_not : (o : List ℕ) (logs : List LogState) (log : LogState) → log_at o logs ≡ Some log → log_at o logs ≡ None → ⊥
listed_or_not o logs log some none = absurd (cc)
