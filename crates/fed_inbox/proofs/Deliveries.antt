-- What an inbox makes of a transaction that was read and judged apart from it.
use Rattle.std.proofs.Common.{arith, ◌≡◌, ◌≢◌, ◌<◌, ℕ, suc, ◌+◌, get_or, set, List, [], ◌∷◌, map, length, nat_lt, not, Bool, true, false, ◌||◌, ◌&&◌, cond, if◌then◌else◌, Option, Some, None, is_some, option_map, Result, Ok, Err, IsOk, IfOk, IfErr, IsErrAnd, IsSome, bytes_eq, refl, sym, ap, subst, ◌∙◌, inl, inr}
use Rattle.std.specs.FinMap as finite
use Rattle.std.specs.List.{position, position_or_len, list_any}
use Rattle.std.specs.Cmp.Lexicographic.{nat_list_eq_equiv}
use Rattle.std.proofs.lemmas.Bool.{false≢true, lt-ltb, ltb-true, ltb-false}
use Rattle.std.proofs.lemmas.Option.{same_Some, none-some}
use Rattle.std.proofs.lemmas.Slice.Eq.{bytes_eq-Decides}
use Rattle.serde_json.specs.Data.{Data}
use Rattle.fed_event.specs.Names.{is_one_of}
use Rattle.fed_event.specs.Keys.{Checks}
use Rattle.fed_event.specs.Checked.{CheckedEvent}
use Rattle.fed_http.specs.Message.{RequestValue}
use Rattle.fed_txn.specs.declared.fault.TxnFault.{TxnFault}
use Rattle.fed_txn.specs.declared.fault.TxnFault.TheVariants.{Memory}
use Rattle.fed_txn.specs.declared.transaction.TransactionIn.{TransactionIn}
use Rattle.fed_txn.specs.Transaction.{Transaction, transaction_of}
use Rattle.fed_txn.specs.Reading.{body_of}
use Rattle.fed_replies.specs.Kept.{KeptReplies, reply_at}
use Rattle.fed_inbox.specs.declared.log.Accepted.{Accepted}
use Rattle.fed_inbox.specs.declared.refusal.Refusal.{Refusal}
use Rattle.fed_inbox.specs.declared.refusal.Refusal.TheVariants.{OutOfMemory, OriginDiffers, BadSignature, ServerNotListed}
use Rattle.fed_inbox.specs.Refusal.{refusal_of}
use Rattle.fed_inbox.specs.Reply.{Answer, accepted, refused}
use Rattle.fed_inbox.specs.Log.{LogState, TakenFrom, origin_of, with_replies, AreByOrigin}
use Rattle.fed_inbox.specs.LogParts.{nothing_from, is_from, KeepsOthers}
use Rattle.fed_inbox.specs.InboxParts.{state_of, AreOfReceiver}
use Rattle.fed_inbox.specs.AnswerParts.{answer_with, fresh_with, taken_by}
use Rattle.fed_inbox.specs.Inbox.{InboxState, is_of, log_at, with_log, new_log, logs_for, new_inbox}
use Rattle.fed_inbox.specs.LookUps.{is_taken_from}
use Rattle.fed_inbox.specs.Taking.{Taking}
use Rattle.fed_inbox.specs.Answer.{SendRequest, request_by, Step, Steps, answered, names_other, step_new, step_kept, step_signed, step_body, step_of, IsAnswered}
use Rattle.fed_inbox.specs.WholeRequest.{Heading, IsReadAs, asked, IsAnsweredWhole, no_memory, not_read, read}
use Rattle.fed_inbox.specs.IncomingParts.{IsReadFault}
use Rattle.fed_inbox.specs.Receiver.{ReceiverState, new_receiver, others_of, origin_in, IsInboxOf}
use Rattle.fed_inbox.specs.Delivery.{DeliveryState, JudgedState, comes_to, judged_of, step_by, step_unless, step_in, inbox_with, IsTaken, not_listed, in_log, Settles, Refuses, SettlesBody, RefusesBody}
use Rattle.fed_inbox.proofs.FoundLogs.{found_is}
use Rattle.fed_inbox.proofs.LookUps.{logs_listed}
use Rattle.fed_inbox.proofs.Origins.{still_by_origin, origins-set}
use Rattle.fed_inbox.proofs.Places.{log_found, log_set}
use Rattle.fed_inbox.proofs.Steps.{answered_in, answered_nobody, refused_at}
use Rattle.fed_inbox.proofs.Histories.{of_same}
use Rattle.fed_inbox.proofs.Queues.{false_if_not}

-- ---- which servers have a log

is_there : (q : List ℕ) (logs : List LogState) → is_some (log_at q logs) ≡ is_one_of (map origin_in logs) q
is_there q [] = refl
is_there q (log ∷ logs) = by (is_of q log) refl (is_there q logs)
  where
    by : (b : Bool) → is_of q log ≡ b → is_some (log_at q logs) ≡ is_one_of (map origin_in logs) q → is_some (log_at q (log ∷ logs)) ≡ is_one_of (map origin_in (log ∷ logs)) q
    by true e rest =
        ap (λ b. is_some (cond b (Some log) (log_at q logs))) e ∙ ap (λ b. b || is_one_of (map origin_in logs) q) (sym (nat_list_eq_equiv.symm q log.origin ∙ e))
    by false e rest =
        ap (λ b. is_some (cond b (Some log) (log_at q logs))) e ∙ rest ∙ ap (λ b. b || is_one_of (map origin_in logs) q) (sym (nat_list_eq_equiv.symm q log.origin ∙ e))

origins_of_new : (kept : KeptReplies) (servers : List (List ℕ)) → map origin_in (map (new_log kept) servers) ≡ servers
origins_of_new kept [] = refl
origins_of_new kept (s ∷ servers) = ap (λ ss. s ∷ ss) (origins_of_new kept servers)

is_there_by : (own : List ℕ) (servers : List (List ℕ)) (q : List ℕ) (kept : KeptReplies) (b : Bool) → is_some (if b then Some (new_log kept q) else None) ≡ b
is_there_by own servers q kept true = refl
is_there_by own servers q kept false = refl

others_taken : (own : List ℕ) (servers : List (List ℕ)) (q : List ℕ) → is_one_of (others_of own servers) q ≡ is_taken_from own servers q
others_taken own servers q =
    let kept : KeptReplies = finite.empty in
    ap (λ os. is_one_of os q) (sym (origins_of_new kept (others_of own servers))) ∙ sym (is_there q (logs_for kept own servers))
    ∙ ap is_some (logs_listed kept own servers q) ∙ is_there_by own servers q kept (is_taken_from own servers q)

pub has_log : (r : ReceiverState) (s : InboxState) → IsInboxOf r s → (q : List ℕ) → is_some (log_at q s.logs) ≡ is_taken_from r.own r.servers q
has_log r s is q = is_there q s.logs ∙ ap (λ os. is_one_of os q) is.origins ∙ others_taken r.own r.servers q

-- the logs of an inbox have the origins of what was taken
pub origins_kept : (kept : KeptReplies) (logs : List TakenFrom) → map origin_in (map (with_replies kept) logs) ≡ map origin_of logs
origins_kept kept [] = refl
origins_kept kept (log ∷ logs) = ap (λ os. log.origin ∷ os) (origins_kept kept logs)

pub origins_of_nothing : (servers : List (List ℕ)) → map origin_of (map nothing_from servers) ≡ servers
origins_of_nothing [] = refl
origins_of_nothing (s ∷ servers) = ap (λ ss. s ∷ ss) (origins_of_nothing servers)

same_lt : (a b : ℕ) → nat_lt (suc a) (suc b) ≡ nat_lt a b
same_lt a b = by (nat_lt a b) refl
  where
    by : (t : Bool) → nat_lt a b ≡ t → nat_lt (suc a) (suc b) ≡ nat_lt a b
    by true e = lt-ltb (suc a) (suc b) (omega (arith, ltb-true a b e)) ∙ sym e
    by false e = false_if_not (nat_lt (suc a) (suc b)) (λ h. absurd (omega (arith, ltb-true (suc a) (suc b) h, ltb-false a b e))) ∙ sym e

-- a name stands at a place where it is one of them
placed : (p : List ℕ → Bool) (names : List (List ℕ)) → nat_lt (position_or_len p names) (length names) ≡ list_any p names
placed p [] = refl
placed p (n ∷ names) =
    let further : 1 + position_or_len p names ≡ suc (position_or_len p names) = omega arith in
    elim (p n) as (λ b. nat_lt (cond (not b) (1 + position_or_len p names) 0) (suc (length names)) ≡ (b || list_any p names)) [
      | true ↦ lt-ltb 0 (suc (length names)) (omega arith)
      | false ↦ ap (λ k. nat_lt k (suc (length names))) further ∙ same_lt (position_or_len p names) (length names) ∙ placed p names
    ]

some_by : (b : Bool) (n : ℕ) → is_some (cond b (Some n) None) ≡ b
some_by true n = refl
some_by false n = refl

any_alike : (p q : List ℕ → Bool) (names : List (List ℕ)) → ((n : List ℕ) → p n ≡ q n) → list_any p names ≡ list_any q names
any_alike p q [] same = refl
any_alike p q (n ∷ names) same = ap (λ b. b || list_any p names) (same n) ∙ ap (λ b. q n || b) (any_alike p q names same)

pub is_placed : (names : List (List ℕ)) (name : List ℕ) → is_some (position (λ other. bytes_eq other name) names) ≡ is_one_of names name
is_placed names name =
    some_by (nat_lt (position_or_len (λ other. bytes_eq other name) names) (length names)) (position_or_len (λ other. bytes_eq other name) names)
    ∙ placed (λ other. bytes_eq other name) names ∙ any_alike (λ other. bytes_eq other name) (λ n. bytes_eq name n) names (λ n. nat_list_eq_equiv.symm n name)

-- ---- what is taken of a body that is read

module _ (checks : Checks) (s : InboxState) (origin txn body : List ℕ) (signed : Data → Bool) where
  abbrev request : SendRequest
  request = request_by origin txn body signed

  stepped_new : (log : LogState) (t : Result Transaction TxnFault) → step_new checks s.rooms log txn t ≡ step_by log txn (comes_to checks s.rooms t)
  stepped_new log (Ok t) = refl
  stepped_new log (Err fault) = refl

  stepped_kept : (log : LogState) (d : Data) (o : Option (List ℕ)) → step_kept checks s.rooms log txn d o ≡ step_unless log txn (comes_to checks s.rooms (transaction_of d)) o
  stepped_kept log d (Some reply) = refl
  stepped_kept log d None = stepped_new log (transaction_of d)

  module _ (d : Data) (reads : body_of body ≡ Ok d) where
    signed_step : (log : LogState) → signed d ≡ true → step_of checks s.rooms log request ≡ step_signed checks s.rooms log txn d
    signed_step log is = ap (step_body checks s.rooms log txn signed) reads ∙ ap (λ b. if b then step_signed checks s.rooms log txn d else answered log (refused BadSignature)) is

    named_step : (log : LogState) (b : Bool) → log.origin ≡ origin → names_other d origin ≡ b
        → step_signed checks s.rooms log txn d ≡ (if b then answered log (refused OriginDiffers) else step_kept checks s.rooms log txn d (finite.get log.replies txn))
    named_step log b mine is =
        ap (λ t. if t then answered log (refused OriginDiffers) else step_kept checks s.rooms log txn d (finite.get log.replies txn)) (ap (names_other d) mine ∙ is)

    pub settled_body : signed d ≡ true → names_other d origin ≡ false → (answer : Answer) (new : InboxState) (fresh : List CheckedEvent)
        → IsTaken s (judged_of checks s.rooms (record { origin = origin; txn = txn; body = d })) answer new fresh → IsAnswered checks s request answer new fresh
    settled_body is own answer new fresh (not_listed none so) =
        of_same (λ a n f. IsAnswered checks s request a n f) answer (refused ServerNotListed) new s fresh [] so.answer_is so.new_is so.fresh_is (answered_nobody checks s request none)
    settled_body is own answer new fresh (in_log log now there steps new_is) =
        let same = signed_step log is ∙ named_step log false (found_is origin s.logs log there) own ∙ stepped_kept log d (finite.get log.replies txn) in
        subst (λ (n : InboxState). IsAnswered checks s request answer n fresh) (sym new_is)
        (answered_in checks s request log answer now fresh there (subst (λ st. Steps log st answer now fresh) (sym same) steps))

    pub other_refused : (log : LogState) → log_at origin s.logs ≡ Some log → signed d ≡ true → names_other d origin ≡ true → Steps log (step_of checks s.rooms log request) (refused OriginDiffers) log []
    other_refused log there is other =
        subst (λ st. Steps log st (refused OriginDiffers) log []) (sym (signed_step log is ∙ named_step log true (found_is origin s.logs log there) other))
        (record { found = true; answer_is = refl; log_is = refl; fresh_is = refl })

  -- ---- refusals

  no_log : (o : Option LogState) → is_some o ≡ false → o ≡ None
  no_log None h = refl
  no_log (Some log) h = absurd (false≢true (sym h))

  a_log : (o : Option LogState) → is_some o ≡ true → (log : LogState) × (o ≡ Some log)
  a_log None h = absurd (false≢true h)
  a_log (Some log) h = (log, refl)

  module _ (r : ReceiverState) (mine : IsInboxOf r s) where
    pub unlisted_refused : is_taken_from r.own r.servers origin ≡ false → IsAnswered checks s request (refused ServerNotListed) s []
    unlisted_refused none = answered_nobody checks s request (no_log (log_at origin s.logs) (has_log r s mine origin ∙ none))

    -- a refusal that the step of each log comes to
    pub listed_refused : (refusal : Refusal) → is_taken_from r.own r.servers origin ≡ true
        → ((log : LogState) → log_at origin s.logs ≡ Some log → Steps log (step_of checks s.rooms log request) (refused refusal) log []) → IsAnswered checks s request (refused refusal) s []
    listed_refused refusal listed each =
        let (log, there) = a_log (log_at origin s.logs) (has_log r s mine origin ∙ listed) in
        refused_at checks s request log (Err refusal) there (each log there)

-- ---- whole requests

module _ (checks : Checks) (r : ReceiverState) (request : RequestValue) where
  pub settled_read : (h : Heading) (judged : JudgedState) → IsReadAs r.own request (Ok h) → SettlesBody checks r (asked checks r.own request h) judged → Settles checks r request judged
  settled_read h judged reads settles old mine answer new fresh taken =
      read h (subst (λ own. IsReadAs own request (Ok h)) (sym mine.own) reads)
      (subst (λ own. IsAnswered checks old (asked checks own request h) answer new fresh) (sym mine.own) (settles old mine answer new fresh taken))

  pub refused_read : (h : Heading) (refusal : Refusal) → IsReadAs r.own request (Ok h) → RefusesBody checks r (asked checks r.own request h) refusal → Refuses checks r request refusal
  refused_read h refusal reads refuses old mine =
      read h (subst (λ own. IsReadAs own request (Ok h)) (sym mine.own) reads)
      (subst (λ own. IsAnswered checks old (asked checks own request h) (refused refusal) old []) (sym mine.own) (refuses old mine))

  pub refused_first : (refusal : Refusal) → IsReadFault r.own request refusal → Refuses checks r request refusal
  refused_first refusal (inl is) old mine = not_read refusal (subst (λ own. IsReadAs own request (Err refusal)) (sym mine.own) is) (record { answer_is = refl; new_is = refl; fresh_is = refl })
  refused_first refusal (inr memory) old mine = no_memory (record { answer_is = ap refused memory; new_is = refl; fresh_is = refl })

-- ---- what a log answers

-- the kept reply to a transaction that was taken before
pub kept_answered : (old : LogState) (txn : List ℕ) (c : Result Taking Refusal) (o : Option (List ℕ)) (reply : List ℕ) (fresh : List CheckedEvent)
    → ◌≡◌ {A = Option (List ℕ × List CheckedEvent)} (Some (reply, fresh)) (option_map (λ r. (r, [])) o) → Steps old (step_unless old txn c o) (accepted reply) old fresh
kept_answered old txn c (Some r) reply fresh e =
    let same = same_Some (reply, fresh) (r, []) e in
    record { found = true; answer_is = ap (λ p. accepted p.0) same; log_is = refl; fresh_is = ap (λ p. p.1) same }
kept_answered old txn c None reply fresh e = absurd (none-some (reply, fresh) (sym e))

pub none_kept : (o : Option (List ℕ)) → ◌≡◌ {A = Option (List ℕ × List CheckedEvent)} None (option_map (λ r. (r, [])) o) → o ≡ None
none_kept None e = refl
none_kept (Some r) e = absurd (none-some (r, []) e)

pub not_kept : (old : LogState) (txn : List ℕ) (c : Result Taking Refusal) (o : Option (List ℕ)) (answer : Answer) (new : LogState) (fresh : List CheckedEvent)
    → o ≡ None → Steps old (step_by old txn c) answer new fresh → Steps old (step_unless old txn c o) answer new fresh
not_kept old txn c o answer new fresh none steps = subst (λ k. Steps old (step_unless old txn c k) answer new fresh) (sym none) steps

-- why a body is no transaction
pub refused_as : (checks : Checks) (rooms : List (List ℕ)) (t : Result Transaction TxnFault) (e : TxnFault)
    → IfErr t (λ f. ◌≡◌ {A = Result TransactionIn TxnFault} (Err e) (Err f)) → (IsOk t → e ≡ Memory) → e ≢ Memory → ◌≡◌ {A = Result Taking Refusal} (Err (refusal_of e)) (comes_to checks rooms t)
refused_as checks rooms (Ok t) e same only other = absurd (other (only refl))
refused_as checks rooms (Err f) e is only other =
    let same : e ≡ f = cc in
    ap (λ g. Err (refusal_of g)) same

-- ---- what an inbox makes of what its log answers

pub inbox_of : (r : ReceiverState) (kept : KeptReplies) (logs : List TakenFrom) → AreOfReceiver r logs → IsInboxOf r (state_of r.own r.rooms kept logs)
inbox_of r kept logs h = record { own = refl; rooms = refl; origins = origins_kept kept logs ∙ h.origins }

pub taken_at : (own : List ℕ) (rooms : List (List ℕ)) (kept kept' : KeptReplies) (ls : List TakenFrom) (j : JudgedState) (i : ℕ) (old new : TakenFrom) (answer : Answer) (fresh : List CheckedEvent)
    → AreByOrigin ls → Some i ≡ position (is_from j.origin) ls → i < length ls → old ≡ get_or ls i old → KeepsOthers old.origin kept kept'
    → Steps (with_replies kept old) (step_in (with_replies kept old) j) answer (with_replies kept' new) fresh
    → IsTaken (state_of own rooms kept ls) j answer (state_of own rooms kept' (set ls i new)) fresh
taken_at own rooms kept kept' ls j i old new answer fresh order place within is keeps steps =
    let there = log_found kept j.origin ls i old place within is in
    let named : old.origin ≡ j.origin = found_is j.origin (map (with_replies kept) ls) (with_replies kept old) there in
    let logs = log_set j.origin kept kept' (subst (λ o. KeepsOthers o kept kept') named keeps) ls i new order place in
    in_log (with_replies kept old) (with_replies kept' new) there steps (λ k. record { own = own; rooms = rooms; logs = logs k })

pub taken_nowhere : (s : InboxState) (j : JudgedState) → log_at j.origin s.logs ≡ None → IsTaken s j (refused ServerNotListed) s []
taken_nowhere s j none = not_listed none (record { answer_is = refl; new_is = refl; fresh_is = refl })

-- a refusal that is passed on
pub passed_on : (P : Answer → List CheckedEvent → Type 0) (e : Refusal) (x : Result Accepted Refusal) → IsErrAnd x (λ y. y ≡ e) → P (refused e) [] → P (answer_with x) (fresh_with x)
passed_on P e (Ok a) h p = absurd h
passed_on P e (Err y) h p = subst (λ z. P (refused z) []) (sym h) p

pub same_delivery : {o o' t t' : List ℕ} (d : Data) → o ≡ o' → t ≡ t' → ◌≡◌ {A = DeliveryState} (record { origin = o; txn = t; body = d }) (record { origin = o'; txn = t'; body = d })
same_delivery d a b i = record { origin = a i; txn = b i; body = d }

-- the logs of an inbox stay those of its server
pub still_of_receiver : (r : ReceiverState) (logs : List TakenFrom) (place : ℕ) (old new : TakenFrom) → old ≡ get_or logs place old → new.origin ≡ old.origin → AreOfReceiver r logs → AreOfReceiver r (set logs place new)
still_of_receiver r logs place old new is same h = record {
  order = still_by_origin logs place old new is same h.order;
  origins = origins-set logs place old new is same ∙ h.origins;
}

-- ---- what results say

pub if_passed_on : {T : Type 0} (P : Refusal → Type 0) (e : Refusal) (x : Result T Refusal) → IsErrAnd x (λ y. y ≡ e) → P e → IfErr x P
if_passed_on P e (Ok a) h p = absurd h
if_passed_on P e (Err y) h p = subst P (sym h) p

pub if_each : {T : Type 0} (P : Checks → T → Type 0) (x : Result T Refusal) (checks : Checks) → IfOk x (λ d. (c : Checks) → P c d) → IfOk x (P checks)
if_each P (Ok a) checks h = h checks
if_each P (Err e) checks h = tt

pub if_then : {T : Type 0} (P Q : T → Type 0) (x : Result T Refusal) → ((d : T) → P d → Q d) → IfOk x P → IfOk x Q
if_then P Q (Ok a) f h = f a h
if_then P Q (Err e) f h = tt

pub err_then : {T : Type 0} (P Q : Refusal → Type 0) (x : Result T Refusal) → ((e : Refusal) → P e → Q e) → IfErr x P → IfErr x Q
err_then P Q (Ok a) f h = tt
err_then P Q (Err e) f h = f e h

pub without_memory : (checks : Checks) (s : InboxState) (asks : SendRequest) → IsAnswered checks s asks (refused OutOfMemory) s []
without_memory checks s asks = record { found = false; answer_is = refl; new_is = refl; fresh_is = refl }

pub whole_without_memory : (checks : Checks) (s : InboxState) (asks : RequestValue) → IsAnsweredWhole checks s asks (refused OutOfMemory) s []
whole_without_memory checks s asks = no_memory (record { answer_is = refl; new_is = refl; fresh_is = refl })

pub takes_if : (own own' : List ℕ) (servers : List (List ℕ)) (server : List ℕ) (b : Bool) → own' ≡ own → b ≡ not (bytes_eq server own') → is_one_of servers server ≡ true → b ≡ is_taken_from own servers server
takes_if own own' servers server b same is one = is ∙ ap (λ o. not (bytes_eq server o)) same ∙ ap (λ t. t && not (bytes_eq server own)) (sym one)

pub takes_not : (own : List ℕ) (servers : List (List ℕ)) (server : List ℕ) → is_one_of servers server ≡ false → false ≡ is_taken_from own servers server
takes_not own servers server none = ap (λ t. t && not (bytes_eq server own)) (sym none)

pub not_taken_from : (r : ReceiverState) (s : InboxState) → IsInboxOf r s → (q : List ℕ) → log_at q s.logs ≡ None → is_taken_from r.own r.servers q ≡ false
not_taken_from r s mine q none = sym (has_log r s mine q) ∙ ap is_some none

pub taken_from : (r : ReceiverState) (s : InboxState) → IsInboxOf r s → (q : List ℕ) → IsSome (log_at q s.logs) → is_taken_from r.own r.servers q ≡ true
taken_from r s mine q some = sym (has_log r s mine q) ∙ some

pub refused_is : {T U : Type 0} (e f : Refusal) (x : Result T Refusal) → IsErrAnd x (λ y. y ≡ e) → ◌≡◌ {A = Result U Refusal} (Err e) (Err f) → x ≡ Err f
refused_is e f (Ok a) h same = absurd h
refused_is e f (Err y) h same = let is : e ≡ f = cc in ap Err (h ∙ is)

pub no_refusal : {U : Type 0} (d : U) (f : Refusal) → ◌≡◌ {A = Result U Refusal} (Ok d) (Err f) → ⊥
no_refusal d f e = absurd (cc e)

-- what is told of the kept reply
pub repeated_kept : (kept : KeptReplies) (origin txn txn' : List ℕ) (told : Option Accepted) (a : Accepted) → told ≡ Some a
    → option_map taken_by told ≡ option_map (λ (r : List ℕ). (r, [])) (reply_at kept origin txn') → txn' ≡ txn → Some (taken_by a) ≡ option_map (λ (r : List ℕ). (r, [])) (reply_at kept origin txn)
repeated_kept kept origin txn txn' told a is says same = ap (option_map taken_by) (sym is) ∙ says ∙ ap (λ t. option_map (λ (r : List ℕ). (r, [])) (reply_at kept origin t)) same

pub repeated_none : (kept : KeptReplies) (origin txn txn' : List ℕ) (told : Option Accepted) → told ≡ None
    → option_map taken_by told ≡ option_map (λ (r : List ℕ). (r, [])) (reply_at kept origin txn') → txn' ≡ txn → reply_at kept origin txn ≡ None
repeated_none kept origin txn txn' told is says same =
    none_kept (reply_at kept origin txn) (ap (option_map taken_by) (sym is) ∙ says ∙ ap (λ t. option_map (λ (r : List ℕ). (r, [])) (reply_at kept origin t)) same)

-- ---- an inbox stays one of its server

origins_with : (o : List ℕ) (logs : List LogState) (log : LogState) → log.origin ≡ o → map origin_in (with_log o logs log) ≡ map origin_in logs
origins_with o [] log mine = refl
origins_with o (l ∷ logs) log mine = by (is_of o l) refl (origins_with o logs log mine)
  where
    by : (b : Bool) → is_of o l ≡ b → map origin_in (with_log o logs log) ≡ map origin_in logs → map origin_in (with_log o (l ∷ logs) log) ≡ map origin_in (l ∷ logs)
    by true e rest =
        ap (λ b. map origin_in (if b then log ∷ logs else l ∷ with_log o logs log)) e
        ∙ ap (λ p. p ∷ map origin_in logs) (mine ∙ sym ((bytes_eq-Decides l.origin o).0 e))
    by false e rest = ap (λ b. map origin_in (if b then log ∷ logs else l ∷ with_log o logs log)) e ∙ ap (λ ps. l.origin ∷ ps) rest

origin_by : (log : LogState) (txn : List ℕ) (c : Result Taking Refusal) → (step_by log txn c).log.origin ≡ log.origin
origin_by log txn (Ok taking) = refl
origin_by log txn (Err refusal) = refl

origin_unless : (log : LogState) (txn : List ℕ) (c : Result Taking Refusal) (o : Option (List ℕ)) → (step_unless log txn c o).log.origin ≡ log.origin
origin_unless log txn c (Some reply) = refl
origin_unless log txn c None = origin_by log txn c

origin_stepped : (log now : LogState) (step : Step) (found : Bool) → step.log.origin ≡ log.origin → now ≡ (if found then step.log else log) → now.origin ≡ log.origin
origin_stepped log now step true mine is = ap origin_in is ∙ mine
origin_stepped log now step false mine is = ap origin_in is

pub new_is_inbox_of : (kept : KeptReplies) (own : List ℕ) (servers rooms : List (List ℕ)) → IsInboxOf (new_receiver own servers rooms) (new_inbox kept own servers rooms)
new_is_inbox_of kept own servers rooms = record { own = refl; rooms = refl; origins = origins_of_new kept (others_of own servers) }

same_inboxes : (r : ReceiverState) (old new : InboxState) → new ≡ old → IsInboxOf r old → IsInboxOf r new
same_inboxes r old new is mine = subst (IsInboxOf r) (sym is) mine

pub taken_stays : (r : ReceiverState) (old new : InboxState) (j : JudgedState) (answer : Answer) (fresh : List CheckedEvent) → IsInboxOf r old → IsTaken old j answer new fresh → IsInboxOf r new
taken_stays r old new j answer fresh mine (not_listed none so) = same_inboxes r old new so.new_is mine
taken_stays r old new j answer fresh mine (in_log log now there steps is) =
    let named = origin_stepped log now (step_in log j) steps.found (origin_unless log j.txn j.comes_to (finite.get log.replies j.txn)) steps.log_is ∙ found_is j.origin old.logs log there in
    same_inboxes r (inbox_with j.origin old now) new is (record { own = mine.own; rooms = mine.rooms; origins = origins_with j.origin old.logs now named ∙ mine.origins })
