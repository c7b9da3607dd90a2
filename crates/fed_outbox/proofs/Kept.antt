-- How the parts of an outbox hold together over any calls, and what is settled.
use Rattle.std.proofs.Common.{◌≡◌, ℕ, suc, ◌+◌, ◌<◌, Bool, true, false, not, ◌==◌, ◌&&◌, if◌then◌else◌, List, [], ◌∷◌, ◌++◌, length, take, Option, Some, None, refl, sym, ap, ◌∙◌, subst, arith, length-append, length-take, true≢false}
use Rattle.std.proofs.lemmas.List.{append_assoc, append-nil}
use Rattle.serde_json.specs.Data.{Data}
use Rattle.fed_event.specs.Checked.{CheckedEvent}
use Rattle.fed_journal.specs.declared.parcel.Load.{Load}
use Rattle.fed_journal.specs.declared.parcel.Load.TheVariants.{Event, Edu, End}
use Rattle.fed_outbox.specs.Transaction.{TransactionValue}
use Rattle.fed_outbox.specs.Outbox.{OutboxState, unanswered_pdus, unanswered_edus, fits, with_load, is_empty, is_unanswered, can_cut, cut, has_number, one_failure_more, failed, taken, settle}
use Rattle.fed_outbox.specs.Together.{IsNewest, HoldsTogether}
use Rattle.fed_outbox.specs.Runs.{Call, Accept, Cut, Failed, Settle, after_call, after}
use Rattle.fed_outbox.proofs.Counts.{none_unanswered, cut_where}
use Rattle.fed_outbox.proofs.Steps.{and_true}

-- ---- the parts hold together

some_of : {A B : Type 0} (n m : ℕ) (xs : List A) (ys : List B) → not (is_empty xs && is_empty ys) ≡ true → 0 < length (take (suc n) xs) + length (take (suc m) ys)
some_of n m [] [] e = absurd (true≢false (sym e))
some_of n m [] (y ∷ ys) e = omega arith
some_of n m (x ∷ xs) ys e = omega arith

cut_together : (o : OutboxState) (now : ℕ) → HoldsTogether o → HoldsTogether (cut o now)
cut_together o now h = go (can_cut o) refl
  where
    go : (b : Bool) → can_cut o ≡ b → HoldsTogether (cut o now)
    go false no_cut = let e : cut o now ≡ o = rw no_cut refl in subst HoldsTogether (sym e) h
    go true can =
        let none = none_unanswered o can in
        let some = some_of 49 99 o.waiting o.waiting_edus (and_true (not (is_unanswered o.unanswered)) (not (is_empty o.waiting && is_empty o.waiting_edus)) can).1 in
        let no_pdus : length (unanswered_pdus o.unanswered) ≡ 0 = ap (λ u. length (unanswered_pdus u)) none in
        let no_edus : length (unanswered_edus o.unanswered) ≡ 0 = ap (λ u. length (unanswered_edus u)) none in
        let last = h.last in
        subst HoldsTogether (sym (cut_where o now can)) (record {
          newest = (refl, record { pdus = rw (length-take 50 o.waiting) (omega arith); edus = rw (length-take 100 o.waiting_edus) (omega arith); some = some });
          failures = h.failures;
          last = omega arith;
        })

with_load_together : (o : OutboxState) (load : Load) → HoldsTogether o → HoldsTogether (with_load o load)
with_load_together o (Event event) h = record { newest = go o.unanswered h.newest; failures = h.failures; last = h.last }
  where
    go : (u : Option TransactionValue) → IsNewest o u → IsNewest (with_load o (Event event)) u
    go None h = h
    go (Some t) h = h
with_load_together o (Edu edu) h = record { newest = go o.unanswered h.newest; failures = h.failures; last = h.last }
  where
    go : (u : Option TransactionValue) → IsNewest o u → IsNewest (with_load o (Edu edu)) u
    go None h = h
    go (Some t) h = h
with_load_together o End h = record { newest = go o.unanswered h.newest; failures = h.failures; last = h.last }
  where
    go : (u : Option TransactionValue) → IsNewest o u → IsNewest (with_load o End) u
    go None h = h
    go (Some t) h = h

accept_together : (o : OutboxState) (load : Load) (b : Bool) → HoldsTogether o → HoldsTogether (if b then with_load o load else o)
accept_together o load true h = with_load_together o load h
accept_together o load false h = h

failure_together : (o : OutboxState) (n now : ℕ) → has_number o.unanswered n ≡ true → HoldsTogether o → HoldsTogether (one_failure_more o now)
failure_together o n now it h = record { newest = go o.unanswered it h.newest; failures = omega arith; last = h.last }
  where
    go : (u : Option TransactionValue) → has_number u n ≡ true → IsNewest o u → IsNewest (one_failure_more o now) u
    go None it h = absurd (true≢false (sym it))
    go (Some t) it h = h

failed_together : (o : OutboxState) (n now : ℕ) → HoldsTogether o → HoldsTogether (failed o n now)
failed_together o n now h = go (has_number o.unanswered n) refl
  where
    go : (b : Bool) → has_number o.unanswered n ≡ b → HoldsTogether (if b then one_failure_more o now else o)
    go true it = failure_together o n now it h
    go false it = h

taken_together : (o : OutboxState) → HoldsTogether o → HoldsTogether (taken o)
taken_together o h =
    let last = h.last in
    let settled = length-append o.settled (unanswered_pdus o.unanswered) in
    let settled_edus = length-append o.settled_edus (unanswered_edus o.unanswered) in
    record { newest = (refl, refl); failures = omega arith; last = omega arith }

settle_together : (o : OutboxState) (n status now : ℕ) → HoldsTogether o → HoldsTogether (settle o n status now)
settle_together o n status now h = go (has_number o.unanswered n) (status == 200) refl
  where
    go : (b c : Bool) → has_number o.unanswered n ≡ b → HoldsTogether (if b then (if c then taken o else one_failure_more o now) else o)
    go true true it = taken_together o h
    go true false it = failure_together o n now it h
    go false c it = h

pub call_together : (o : OutboxState) (call : Call) → HoldsTogether o → HoldsTogether (after_call o call)
call_together o (Accept parcel has_memory) h = accept_together o parcel.load (fits o parcel.place && has_memory) h
call_together o (Cut now) h = cut_together o now h
call_together o (Failed n now) h = failed_together o n now h
call_together o (Settle n status now) h = settle_together o n status now h

pub calls_together : (o : OutboxState) (calls : List Call) → HoldsTogether o → HoldsTogether (after o calls)
calls_together o [] h = h
calls_together o (call ∷ calls) h = calls_together (after_call o call) calls (call_together o call h)

-- ---- what is settled

-- what was settled stays in front
abbrev pub Extends : OutboxState → OutboxState → Type 0
Extends o next = ((more : List CheckedEvent) × (next.settled ≡ o.settled ++ more)) × ((more : List Data) × (next.settled_edus ≡ o.settled_edus ++ more))

keeps : (o next : OutboxState) → next.settled ≡ o.settled → next.settled_edus ≡ o.settled_edus → Extends o next
keeps o next e f = (([], e ∙ sym (append-nil o.settled)), ([], f ∙ sym (append-nil o.settled_edus)))

accept_extends : (o : OutboxState) (load : Load) (b : Bool) → Extends o (if b then with_load o load else o)
accept_extends o (Event event) true = keeps o (with_load o (Event event)) refl refl
accept_extends o (Edu edu) true = keeps o (with_load o (Edu edu)) refl refl
accept_extends o End true = keeps o (with_load o End) refl refl
accept_extends o load false = keeps o o refl refl

cut_extends : (o : OutboxState) (now : ℕ) → Extends o (cut o now)
cut_extends o now = go (can_cut o) refl
  where
    go : (b : Bool) → can_cut o ≡ b → Extends o (cut o now)
    go false no_cut = let e : cut o now ≡ o = rw no_cut refl in subst (Extends o) (sym e) (keeps o o refl refl)
    go true can = let e = cut_where o now can in keeps o (cut o now) (ap (λ (p : OutboxState). p.settled) e) (ap (λ (p : OutboxState). p.settled_edus) e)

call_extends : (o : OutboxState) (call : Call) → Extends o (after_call o call)
call_extends o (Accept parcel has_memory) = accept_extends o parcel.load (fits o parcel.place && has_memory)
call_extends o (Cut now) = cut_extends o now
call_extends o (Failed n now) = go (has_number o.unanswered n)
  where
    go : (b : Bool) → Extends o (if b then one_failure_more o now else o)
    go true = keeps o (one_failure_more o now) refl refl
    go false = keeps o o refl refl
call_extends o (Settle n status now) = go (has_number o.unanswered n) (status == 200)
  where
    go : (b c : Bool) → Extends o (if b then (if c then taken o else one_failure_more o now) else o)
    go true true = ((unanswered_pdus o.unanswered, refl), (unanswered_edus o.unanswered, refl))
    go true false = keeps o (one_failure_more o now) refl refl
    go false c = keeps o o refl refl

both_extend : (o mid next : OutboxState) → Extends o mid → Extends mid next → Extends o next
both_extend o mid next ((xs, e), (ds, f)) ((ys, g), (es, h)) = (
  (xs ++ ys, g ∙ ap (λ l. l ++ ys) e ∙ append_assoc o.settled xs ys),
  (ds ++ es, h ∙ ap (λ l. l ++ es) f ∙ append_assoc o.settled_edus ds es),
)

pub calls_extend : (o : OutboxState) (calls : List Call) → Extends o (after o calls)
calls_extend o [] = keeps o o refl refl
calls_extend o (call ∷ calls) = both_extend o (after_call o call) (after (after_call o call) calls) (call_extends o call) (calls_extend (after_call o call) calls)
