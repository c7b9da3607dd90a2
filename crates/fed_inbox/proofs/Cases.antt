-- What a request comes to: nothing, a repeat, or a first 200.
use Rattle.std.proofs.Common.{◌≡◌, ◌≢◌, ℕ, List, [], Bool, true, false, if◌then◌else◌, Option, Some, None, Result, Ok, Err, IfErr, length, nat_lt, refl, ap, ◌∙◌, ◌⊎◌, inl, inr}
use Rattle.std.specs.Str.{is_utf8}
use Rattle.std.specs.FinMap as finite
use Rattle.serde_json.specs.Data.{Data}
use Rattle.serde_json.specs.Read.{read as json_value}
use Rattle.fed_json.specs.Profile.{all_whole}
use Rattle.fed_event.specs.Keys.{Checks}
use Rattle.fed_event.specs.Checked.{CheckedEvent}
use Rattle.fed_txn.specs.declared.fault.TxnFault.{TxnFault}
use Rattle.fed_txn.specs.declared.fault.TxnFault.TheVariants as fault
use Rattle.fed_txn.specs.Transaction.{Transaction, transaction_of}
use Rattle.fed_txn.specs.Reading.{value_or_fault, body_of, transaction_or_fault, read_of}
use Rattle.fed_inbox.specs.declared.refusal.Refusal.{Refusal}
use Rattle.fed_inbox.specs.declared.refusal.Refusal.TheVariants.{ServerNotListed, BadSignature, OriginDiffers, OutOfMemory}
use Rattle.fed_inbox.specs.Refusal.{refusal_of}
use Rattle.fed_inbox.specs.Reply.{Answer, accepted, refused}
use Rattle.fed_inbox.specs.Log.{LogState}
use Rattle.fed_inbox.specs.Inbox.{InboxState, log_at, with_log}
use Rattle.fed_inbox.specs.Taking.{taking_of}
use Rattle.fed_inbox.specs.Answer.{SendRequest, Step, answered, taken, with_taking, names_other, step_new, step_kept, step_signed, step_body, step_of, answer_by, logs_by, fresh_by, after, marked_answer, marked_after, marked_fresh}
use Rattle.fed_inbox.specs.Runs.{comes_first, reply_by, kept_reply}
use Rattle.fed_inbox.proofs.FoundLogs.{option_cases, found_is, log_at-with_log_same, log_at-with_log_other, put_back}

-- ---- the steps of a log

record Refuses (l : LogState) (txn : List ℕ) (step : Step) : Type 0 where
  refusal : Refusal
  first : (comes_first refusal ≡ true) ⊎ (finite.get l.replies txn ≡ None)
  is : step ≡ answered l (refused refusal)

record Repeats (l : LogState) (txn : List ℕ) (step : Step) : Type 0 where
  reply : List ℕ
  kept : finite.get l.replies txn ≡ Some reply
  is : step ≡ answered l (accepted reply)

-- the refusals of a body that cannot be read come first
value_first : (o : Option Data) → IfErr (value_or_fault o) (λ f. comes_first (refusal_of f) ≡ true)
value_first None = refl
value_first (Some d) = elim (all_whole d) as (λ b. IfErr {T = Data} (if b then Ok d else Err fault.NotCanonical) (λ f. comes_first (refusal_of f) ≡ true)) [ true ↦ tt | false ↦ refl ]

body_first : (bytes : List ℕ) → IfErr (body_of bytes) (λ f. comes_first (refusal_of f) ≡ true)
body_first bytes =
    let value = if is_utf8 bytes then json_value bytes else None in
    elim (nat_lt 16777216 (length bytes)) as (λ b. IfErr (if b then Err fault.TooLarge else value_or_fault value) (λ f. comes_first (refusal_of f) ≡ true))
    [ true ↦ refl | false ↦ value_first value ]

module _ (checks : Checks) (rooms : List (List ℕ)) (l : LogState) (txn : List ℕ) where
  record TakesNew (body : Result Data TxnFault) (step : Step) : Type 0 where
    transaction : Transaction
    read : transaction_or_fault body ≡ Ok transaction
    none : finite.get l.replies txn ≡ None
    is : step ≡ taken l txn (taking_of checks rooms transaction)

  abbrev StepCases : Result Data TxnFault → Step → Type 0
  StepCases body step = Refuses l txn step ⊎ (Repeats l txn step ⊎ TakesNew body step)

  cases_new : (d : Data) (t : Result Transaction TxnFault) → transaction_of d ≡ t → finite.get l.replies txn ≡ None → StepCases (Ok d) (step_new checks rooms l txn t)
  cases_new d (Err f) is none = inl (record { refusal = refusal_of f; first = inr none; is = refl })
  cases_new d (Ok t) is none = inr (inr (record { transaction = t; read = is; none = none; is = refl }))

  cases_kept : (d : Data) (o : Option (List ℕ)) → finite.get l.replies txn ≡ o → StepCases (Ok d) (step_kept checks rooms l txn d o)
  cases_kept d (Some reply) is = inr (inl (record { reply = reply; kept = is; is = refl }))
  cases_kept d None is = cases_new d (transaction_of d) refl is

  cases_signed : (d : Data) → StepCases (Ok d) (step_signed checks rooms l txn d)
  cases_signed d =
      elim (names_other d l.origin) as (λ b. StepCases (Ok d) (if b then answered l (refused OriginDiffers) else step_kept checks rooms l txn d (finite.get l.replies txn))) [
        | true ↦ inl (record { refusal = OriginDiffers; first = inl refl; is = refl })
        | false ↦ cases_kept d (finite.get l.replies txn) refl
      ]

  cases_body : (is_signed : Data → Bool) (b : Result Data TxnFault) → IfErr b (λ f. comes_first (refusal_of f) ≡ true) → StepCases b (step_body checks rooms l txn is_signed b)
  cases_body is_signed (Err f) first = inl (record { refusal = refusal_of f; first = inl first; is = refl })
  cases_body is_signed (Ok d) first =
      elim (is_signed d) as (λ b. StepCases (Ok d) (if b then step_signed checks rooms l txn d else answered l (refused BadSignature)))
      [ true ↦ cases_signed d | false ↦ inl (record { refusal = BadSignature; first = inl refl; is = refl }) ]

-- ---- the requests of an inbox

pub record Nothing (s : InboxState) (r : SendRequest) (answer : Answer) (new : InboxState) (fresh : List CheckedEvent) : Type 0 where
  pub refusal : Refusal
  pub first : (comes_first refusal ≡ true) ⊎ (kept_reply s r.origin r.txn ≡ None)
  pub answer_is : answer ≡ refused refusal
  pub new_is : new ≡ s
  pub fresh_is : fresh ≡ []

pub record Repeat (s : InboxState) (r : SendRequest) (answer : Answer) (new : InboxState) (fresh : List CheckedEvent) : Type 0 where
  pub reply : List ℕ
  pub kept : kept_reply s r.origin r.txn ≡ Some reply
  pub answer_is : answer ≡ accepted reply
  pub new_is : new ≡ s
  pub fresh_is : fresh ≡ []

pub record First (checks : Checks) (s : InboxState) (r : SendRequest) (answer : Answer) (new : InboxState) (fresh : List CheckedEvent) : Type 0 where
  pub log : LogState
  pub there : log_at r.origin s.logs ≡ Some log
  pub none : finite.get log.replies r.txn ≡ None
  pub transaction : Transaction
  pub read : read_of r.body ≡ Ok transaction
  pub answer_is : answer ≡ accepted (taking_of checks s.rooms transaction).reply
  pub now : log_at r.origin new.logs ≡ Some (with_taking log r.txn (taking_of checks s.rooms transaction))
  pub fresh_is : fresh ≡ (taking_of checks s.rooms transaction).fresh

abbrev pub RequestCases : Checks → InboxState → SendRequest → Answer → InboxState → List CheckedEvent → Type 0
RequestCases checks s r answer new fresh = Nothing s r answer new fresh ⊎ (Repeat s r answer new fresh ⊎ First checks s r answer new fresh)

with_logs : (s : InboxState) {ls : List LogState} → ls ≡ s.logs → ◌≡◌ {A = InboxState} (record { own = s.own; rooms = s.rooms; logs = ls }) s
with_logs s e i = record { own = s.own; rooms = s.rooms; logs = e i }

module _ (checks : Checks) (s : InboxState) (r : SendRequest) where
  nobody : log_at r.origin s.logs ≡ None → Nothing s r (marked_answer checks s r true) (after checks s r) (marked_fresh checks s r true)
  nobody none = record {
    refusal = ServerNotListed;
    first = inr (ap (λ o. reply_by o r.txn) none);
    answer_is = ap (λ o. answer_by checks s.rooms o r) none;
    new_is = with_logs s (ap (λ o. logs_by checks s.rooms s.logs o r) none);
    fresh_is = ap (λ o. fresh_by checks s.rooms o r) none;
  }

  module _ (l : LogState) (there : log_at r.origin s.logs ≡ Some l) where
    kept_there : (o : Option (List ℕ)) → finite.get l.replies r.txn ≡ o → kept_reply s r.origin r.txn ≡ o
    kept_there o is = ap (λ found. reply_by found r.txn) there ∙ is

    logs_are : (step : Step) → step_of checks s.rooms l r ≡ step → (after checks s r).logs ≡ with_log r.origin s.logs step.log
    logs_are step is = ap (λ o. logs_by checks s.rooms s.logs o r) there ∙ ap (λ (st : Step). with_log r.origin s.logs st.log) is

    answer_is_of : (step : Step) → step_of checks s.rooms l r ≡ step → marked_answer checks s r true ≡ step.answer
    answer_is_of step is = ap (λ o. answer_by checks s.rooms o r) there ∙ ap (λ (st : Step). st.answer) is

    fresh_is_of : (step : Step) → step_of checks s.rooms l r ≡ step → marked_fresh checks s r true ≡ step.fresh
    fresh_is_of step is = ap (λ o. fresh_by checks s.rooms o r) there ∙ ap (λ (st : Step). st.fresh) is

    unchanged : (answer : Answer) → step_of checks s.rooms l r ≡ answered l answer → after checks s r ≡ s
    unchanged answer is = with_logs s (logs_are (answered l answer) is ∙ put_back r.origin s.logs l there)

    by_step : StepCases checks s.rooms l r.txn (body_of r.body) (step_of checks s.rooms l r)
        → RequestCases checks s r (marked_answer checks s r true) (after checks s r) (marked_fresh checks s r true)
    by_step (inl nothing) = inl (record {
      refusal = nothing.refusal;
      first = either nothing.first;
      answer_is = answer_is_of _ nothing.is;
      new_is = unchanged _ nothing.is;
      fresh_is = fresh_is_of _ nothing.is;
    })
      where
        either : (comes_first nothing.refusal ≡ true) ⊎ (finite.get l.replies r.txn ≡ None) → (comes_first nothing.refusal ≡ true) ⊎ (kept_reply s r.origin r.txn ≡ None)
        either (inl first) = inl first
        either (inr none) = inr (kept_there None none)
    by_step (inr (inl again)) = inr (inl (record {
      reply = again.reply;
      kept = kept_there (Some again.reply) again.kept;
      answer_is = answer_is_of _ again.is;
      new_is = unchanged _ again.is;
      fresh_is = fresh_is_of _ again.is;
    }))
    by_step (inr (inr new)) =
        let step = taken l r.txn (taking_of checks s.rooms new.transaction) in
        inr (inr (record {
          log = l;
          there = there;
          none = new.none;
          transaction = new.transaction;
          read = new.read;
          answer_is = answer_is_of step new.is;
          now = ap (log_at r.origin) (logs_are step new.is) ∙ log_at-with_log_same r.origin s.logs l step.log there (found_is r.origin s.logs l there);
          fresh_is = fresh_is_of step new.is;
        }))

  by_log : (log_at r.origin s.logs ≡ None) ⊎ ((l : LogState) × (log_at r.origin s.logs ≡ Some l))
      → RequestCases checks s r (marked_answer checks s r true) (after checks s r) (marked_fresh checks s r true)
  by_log (inl none) = inl (nobody none)
  by_log (inr (l, there)) = by_step l there (cases_body checks s.rooms l r.txn r.is_signed (body_of r.body) (body_first r.body))

  pub cases : (found : Bool) → RequestCases checks s r (marked_answer checks s r found) (marked_after checks s r found) (marked_fresh checks s r found)
  cases true = by_log (option_cases (log_at r.origin s.logs))
  cases false = inl (record { refusal = OutOfMemory; first = inl refl; answer_is = refl; new_is = refl; fresh_is = refl })

  -- ---- the logs of other origins

  pub other_stays : (found : Bool) (o : List ℕ) → o ≢ r.origin → log_at o (marked_after checks s r found).logs ≡ log_at o s.logs
  other_stays true o apart = by (option_cases (log_at r.origin s.logs))
    where
      by : (log_at r.origin s.logs ≡ None) ⊎ ((l : LogState) × (log_at r.origin s.logs ≡ Some l)) → log_at o (after checks s r).logs ≡ log_at o s.logs
      by (inl none) = ap (λ found. log_at o (logs_by checks s.rooms s.logs found r)) none
      by (inr (l, there)) =
          ap (λ found. log_at o (logs_by checks s.rooms s.logs found r)) there
          ∙ log_at-with_log_other o r.origin s.logs (step_of checks s.rooms l r).log apart (origin_stays (cases_body checks s.rooms l r.txn r.is_signed (body_of r.body) (body_first r.body)) ∙ found_is r.origin s.logs l there)
        where
          origin_stays : StepCases checks s.rooms l r.txn (body_of r.body) (step_of checks s.rooms l r) → (step_of checks s.rooms l r).log.origin ≡ l.origin
          origin_stays (inl nothing) = ap (λ (st : Step). st.log.origin) nothing.is
          origin_stays (inr (inl again)) = ap (λ (st : Step). st.log.origin) again.is
          origin_stays (inr (inr new)) = ap (λ (st : Step). st.log.origin) new.is
  other_stays false o apart = refl
