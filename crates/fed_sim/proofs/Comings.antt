-- What the request of a posted transaction comes to at its receiver: want of memory, the reply that was given before, or the transaction is
-- taken.
use Rattle.std.proofs.Common.{◌≡◌, ◌≢◌, ℕ, Bool, true, false, if◌then◌else◌, not, bytes_eq, List, [], ◌∷◌, map, codes, Option, Some, None, option_map, unwrap_or, Result, Ok, Err, ◌⊎◌, inl, inr, refl, sym, ap, subst, ◌∙◌}
use Rattle.std.proofs.lemmas.Slice.Eq.{bytes_eq-Decides}
use Rattle.std.specs.FinMap as finite
use Rattle.serde_json.specs.Data.{Data, object, string, number, unsigned, member, no_members}
use Rattle.fed_keys.specs.StandIn.{stand_in_key, stand_in_signature, stand_in_checks}
use Rattle.fed_event.specs.Checked.{CheckedEvent}
use Rattle.fed_dest.specs.ServerName.{IsServerName}
use Rattle.fed_http.specs.Message.{RequestValue}
use Rattle.fed_http.specs.XMatrixSigning.{header_of}
use Rattle.fed_http.specs.XMatrixWriting.{header_text}
use Rattle.fed_outbox.specs.Transaction.{TransactionValue}
use Rattle.fed_txn.specs.Reading.{body_of}
use Rattle.fed_txn.specs.Transaction.{origin_of}
use Rattle.fed_txn.specs.Writing.{event_of, list_value, with_edus, body_value, received, IsWithinLimits}
use Rattle.fed_txn.proofs.SentBodies.{form_back}
use Rattle.fed_inbox.specs.declared.refusal.Refusal.{Refusal}
use Rattle.fed_inbox.specs.declared.refusal.Refusal.TheVariants.{OutOfMemory, OriginDiffers, BadSignature}
use Rattle.fed_inbox.specs.Reply.{Answer, accepted, refused}
use Rattle.fed_inbox.specs.Log.{LogState}
use Rattle.fed_inbox.specs.Inbox.{InboxState, log_at, with_log}
use Rattle.fed_inbox.specs.Taking.{Taking, taking_of}
use Rattle.fed_inbox.specs.Answer.{SendRequest, Step, answered, taken, with_taking, names_other, step_new, step_kept, step_signed, step_body, step_of, answer_by, logs_by, fresh_by, after, marked_answer, marked_after, marked_fresh, IsAnswered}
use Rattle.fed_inbox.specs.WholeRequest.{Heading, IsReadAs, is_signed_by, asked, IsAnsweredWhole, no_memory, not_read, read}
use Rattle.fed_inbox.proofs.FoundLogs.{found_is, put_back, log_at-with_log_same, log_at-with_log_other}
use Rattle.fed_inbox.proofs.Incomings.{one_reading, signed_read}
use Rattle.fed_exchange.specs.Messages.{IsReadable}
use Rattle.fed_exchange.proofs.Sent as sent
use Rattle.fed_exchange.proofs.Printed.{text}
use Rattle.fed_sim.proofs.Ids.{txn_id, id_in_target}

-- an inbox that has taken one transaction more
pub record HasTaken (id origin : List ℕ) (taking : Taking) (log : LogState) (before new : InboxState) : Type 0 where
  pub own : new.own ≡ before.own
  pub rooms : new.rooms ≡ before.rooms
  pub now : log_at origin new.logs ≡ Some (with_taking log id taking)
  pub others : (o : List ℕ) → o ≢ origin → log_at o new.logs ≡ log_at o before.logs

pub data Comes (id origin : List ℕ) (taking : Taking) (log : LogState) (before : InboxState) (reply : Answer) (new : InboxState) (fresh : List CheckedEvent) : Type 0 where
  nothing : reply ≡ refused OutOfMemory → new ≡ before → fresh ≡ [] → Comes id origin taking log before reply new fresh
  again : (kept : List ℕ) → finite.get log.replies id ≡ Some kept → reply ≡ accepted kept → new ≡ before → fresh ≡ [] → Comes id origin taking log before reply new fresh
  first : finite.get log.replies id ≡ None → reply ≡ accepted taking.reply → HasTaken id origin taking log before new → fresh ≡ taking.fresh
      → Comes id origin taking log before reply new fresh

same_bytes : (a : List ℕ) → bytes_eq a a ≡ true
same_bytes a = (bytes_eq-Decides a a).1 refl

-- ---- the body names its origin

named_by : (origin : List ℕ) (at_ms : ℕ) (pdus : Data) (edus : List Data)
    → origin_of (object (with_edus edus (member (codes "origin") (string origin) (member (codes "origin_server_ts") (number (unsigned at_ms)) (member (codes "pdus") pdus no_members))))) ≡ Some origin
named_by origin at_ms pdus [] = refl
named_by origin at_ms pdus (edu ∷ edus) = refl

no_other : (origin : List ℕ) (t : TransactionValue) → names_other (body_value origin t) origin ≡ false
no_other origin t =
    ap (λ named. unwrap_or (option_map (λ name. not (bytes_eq name origin)) named) false) (named_by origin t.at_ms (list_value (map event_of t.pdus)) t.edus)
    ∙ ap not (same_bytes origin)

-- ---- the step of the log

module _ (rooms : List (List ℕ)) (id origin : List ℕ) (t : TransactionValue) (limits : IsWithinLimits t) (log : LogState) (named : log.origin ≡ origin) where
  abbrev taking : Taking
  taking = taking_of stand_in_checks rooms (received origin t)

  abbrev StepIs : Step → Type 0
  StepIs step = ((kept : List ℕ) × (finite.get log.replies id ≡ Some kept) × (step ≡ answered log (accepted kept)))
      ⊎ ((finite.get log.replies id ≡ None) × (step ≡ taken log id taking))

  kept_step : (o : Option (List ℕ)) → finite.get log.replies id ≡ o → StepIs (step_kept stand_in_checks rooms log id (body_value origin t) o)
  kept_step (Some kept) is = inl (kept, is, refl)
  kept_step None is = inr (is, ap (step_new stand_in_checks rooms log id) (form_back origin t limits))

  signed_step : StepIs (step_signed stand_in_checks rooms log id (body_value origin t))
  signed_step =
      let own : names_other (body_value origin t) log.origin ≡ false = ap (names_other (body_value origin t)) named ∙ no_other origin t in
      subst (λ b. StepIs (if b then answered log (refused OriginDiffers) else step_kept stand_in_checks rooms log id (body_value origin t) (finite.get log.replies id))) (sym own)
      (kept_step (finite.get log.replies id) refl)

  body_step : (is_signed : Data → Bool) (bytes : List ℕ) → body_of bytes ≡ Ok (body_value origin t) → is_signed (body_value origin t) ≡ true
      → StepIs (step_body stand_in_checks rooms log id is_signed (body_of bytes))
  body_step is_signed bytes body signed =
      subst (λ b. StepIs (step_body stand_in_checks rooms log id is_signed b)) (sym body)
      (subst (λ b. StepIs (if b then step_signed stand_in_checks rooms log id (body_value origin t) else answered log (refused BadSignature))) (sym signed) signed_step)

with_logs : (s : InboxState) {ls : List LogState} → ls ≡ s.logs → ◌≡◌ {A = InboxState} (record { own = s.own; rooms = s.rooms; logs = ls }) s
with_logs s e i = record { own = s.own; rooms = s.rooms; logs = e i }

-- ---- the inbox

module _ (origin : List ℕ) (t : TransactionValue) (limits : IsWithinLimits t) (s : InboxState) (log : LogState) (there : log_at origin s.logs ≡ Some log) (r : SendRequest) (from : r.origin ≡ origin)
    (body : body_of r.body ≡ Ok (body_value origin t)) (signed : r.is_signed (body_value origin t) ≡ true) where
  abbrev now_taking : Taking
  now_taking = taking_of stand_in_checks s.rooms (received origin t)

  is_there : log_at r.origin s.logs ≡ Some log
  is_there = ap (λ o. log_at o s.logs) from ∙ there

  is_named : log.origin ≡ origin
  is_named = found_is origin s.logs log there

  logs_are : (step : Step) → step_of stand_in_checks s.rooms log r ≡ step → (after stand_in_checks s r).logs ≡ with_log origin s.logs step.log
  logs_are step is =
      ap (λ o. logs_by stand_in_checks s.rooms s.logs o r) is_there ∙ ap (λ (st : Step). with_log r.origin s.logs st.log) is ∙ ap (λ o. with_log o s.logs step.log) from

  answer_is_of : (step : Step) → step_of stand_in_checks s.rooms log r ≡ step → marked_answer stand_in_checks s r true ≡ step.answer
  answer_is_of step is = ap (λ o. answer_by stand_in_checks s.rooms o r) is_there ∙ ap (λ (st : Step). st.answer) is

  fresh_is_of : (step : Step) → step_of stand_in_checks s.rooms log r ≡ step → marked_fresh stand_in_checks s r true ≡ step.fresh
  fresh_is_of step is = ap (λ o. fresh_by stand_in_checks s.rooms o r) is_there ∙ ap (λ (st : Step). st.fresh) is

  by_step : StepIs s.rooms r.txn origin t limits log is_named (step_of stand_in_checks s.rooms log r)
      → Comes r.txn origin now_taking log s (marked_answer stand_in_checks s r true) (after stand_in_checks s r) (marked_fresh stand_in_checks s r true)
  by_step (inl (kept, has, is)) =
      again kept has (answer_is_of (answered log (accepted kept)) is) (with_logs s (logs_are (answered log (accepted kept)) is ∙ put_back origin s.logs log there))
      (fresh_is_of (answered log (accepted kept)) is)
  by_step (inr (none, is)) =
      let step = taken log r.txn now_taking in
      let logs = logs_are step is in
      first none (answer_is_of step is) (record {
        own = refl;
        rooms = refl;
        now = ap (log_at origin) logs ∙ log_at-with_log_same origin s.logs log step.log there is_named;
        others = λ o apart. ap (log_at o) logs ∙ log_at-with_log_other o origin s.logs step.log apart is_named;
      }) (fresh_is_of step is)

  pub comes : (found : Bool) → Comes r.txn origin now_taking log s (marked_answer stand_in_checks s r found) (marked_after stand_in_checks s r found) (marked_fresh stand_in_checks s r found)
  comes true = by_step (body_step s.rooms r.txn origin t limits log is_named r.is_signed r.body body signed)
  comes false = nothing refl refl refl

  pub comes_so : (reply : Answer) (new : InboxState) (fresh : List CheckedEvent) → IsAnswered stand_in_checks s r reply new fresh → Comes r.txn origin now_taking log s reply new fresh
  comes_so reply new fresh is =
      let P : Answer → InboxState → List CheckedEvent → Type 0 = λ a n f. Comes r.txn origin now_taking log s a n f in
      subst (λ a. P a new fresh) (sym is.answer_is) (subst (λ n. P (marked_answer stand_in_checks s r is.found) n fresh) (sym is.new_is)
      (subst (λ f. P (marked_answer stand_in_checks s r is.found) (marked_after stand_in_checks s r is.found) f) (sym is.fresh_is) (comes is.found)))

-- ---- the whole request

same_heading : (a b : Heading) → ◌≡◌ {A = Result Heading Refusal} (Ok a) (Ok b) → a ≡ b
same_heading a b e = cc

not_refused_here : (a : Heading) (refusal : Refusal) → ◌≡◌ {A = Result Heading Refusal} (Err refusal) (Ok a) → ⊥
not_refused_here a refusal e = absurd (cc)

module _ (origin dest : List ℕ) (epoch : ℕ) (t : TransactionValue) (named : IsServerName origin) (other : IsServerName dest) (limits : IsWithinLimits t) (readable : IsReadable origin epoch t)
    (s : InboxState) (own : s.own ≡ dest) (log : LogState) (there : log_at origin s.logs ≡ Some log) where
  abbrev request : RequestValue
  request = sent.sent origin dest epoch t named other limits readable

  abbrev heading_of : Heading
  heading_of = record { txn = txn_id epoch t.number; header = header_of (sent.asked origin dest epoch t named other limits readable) stand_in_key (stand_in_signature origin) }

  reads : IsReadAs s.own request (Ok heading_of)
  reads =
      subst (λ o. IsReadAs o request (Ok heading_of)) (sym own)
      (signed_read (sent.asked origin dest epoch t named other limits readable) stand_in_key (stand_in_signature origin) (txn_id epoch t.number)
      (id_in_target epoch t.number readable.epoch_fits readable.number_fits, refl)
      (text (header_text heading_of.header) (sent.header_is_shown origin dest epoch t named other limits readable))
      (sent.signature_bytes origin dest epoch t named other limits readable) (sent.signature_long origin dest epoch t named other limits readable))

  is_signed : is_signed_by stand_in_checks s.own request heading_of.header (body_value origin t) ≡ true
  is_signed =
      ap (λ o. is_signed_by stand_in_checks o request heading_of.header (body_value origin t)) own
      ∙ rw (same_bytes stand_in_key, same_bytes (sent.signature origin dest epoch t named other limits readable)) refl

  pub whole : (reply : Answer) (new : InboxState) (fresh : List CheckedEvent) → IsAnsweredWhole stand_in_checks s request reply new fresh
      → Comes (txn_id epoch t.number) origin (taking_of stand_in_checks s.rooms (received origin t)) log s reply new fresh
  whole reply new fresh (no_memory is) = nothing is.answer_is is.new_is is.fresh_is
  whole reply new fresh (not_read refusal is refuses) = absurd (not_refused_here heading_of refusal (one_reading s.own request _ _ is reads))
  whole reply new fresh (read heading is answers) =
      let same = same_heading heading heading_of (one_reading s.own request _ _ is reads) in
      comes_so origin t limits s log there (asked stand_in_checks s.own request heading_of) refl (sent.body_is origin dest epoch t named other limits readable) is_signed reply new fresh
      (subst (λ (h : Heading). IsAnswered stand_in_checks s (asked stand_in_checks s.own request h) reply new fresh) same answers)
