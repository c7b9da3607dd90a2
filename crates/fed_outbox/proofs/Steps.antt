-- What one call does to all that was accepted.
use Rattle.std.proofs.Common.{◌≡◌, ℕ, ◌+◌, Bool, true, false, not, ◌==◌, ◌&&◌, if◌then◌else◌, List, [], ◌∷◌, ◌++◌, length, Option, Some, None, refl, sym, ap, ◌∙◌, subst, arith, length-append, true≢false}
use Rattle.std.proofs.lemmas.Bool.{eqb-true}
use Rattle.std.proofs.lemmas.List.{append_assoc, append-nil, take-append-drop}
use Rattle.serde_json.specs.Data.{Data}
use Rattle.fed_event.specs.Checked.{CheckedEvent}
use Rattle.fed_journal.specs.Place.{PlaceValue}
use Rattle.fed_journal.specs.declared.parcel.Load.{Load}
use Rattle.fed_journal.specs.declared.parcel.Load.TheVariants.{Event, Edu, End}
use Rattle.fed_journal.specs.declared.parcel.Parcel.{Parcel}
use Rattle.fed_outbox.specs.Outbox.{OutboxState, unanswered_pdus, unanswered_edus, accepted, accepted_edus, expected, is_next, fits, with_load, can_cut, cut, has_number, one_failure_more, failed, taken, settle}
use Rattle.fed_outbox.specs.Runs.{Call, Accept, Cut, Failed, Settle, after_call, accepted_by, events_of, edus_of}
use Rattle.fed_outbox.proofs.Counts.{none_unanswered, cut_where}

pub and_true : (a b : Bool) → (a && b) ≡ true → (a ≡ true) × (b ≡ true)
and_true true b h = (refl, h)
and_true false b h = absurd (true≢false (sym h))

-- ---- what changes nothing of it

pub record Same (o next : OutboxState) : Type 0 where
  pub events : accepted next ≡ accepted o
  pub edus : accepted_edus next ≡ accepted_edus o
  pub end : next.has_end ≡ o.has_end
  pub dest : next.dest ≡ o.dest

pub same_expected : (o next : OutboxState) → Same o next → expected next ≡ expected o
same_expected o next same =
    ap (λ (l : List CheckedEvent). length l + length (accepted_edus next) + (if next.has_end then 1 else 0) + 1) same.events
    ∙ ap (λ (l : List Data). length (accepted o) + length l + (if next.has_end then 1 else 0) + 1) same.edus
    ∙ ap (λ b. length (accepted o) + length (accepted_edus o) + (if b then 1 else 0) + 1) same.end

same : (o : OutboxState) → Same o o
same o = record { events = refl; edus = refl; end = refl; dest = refl }

cut_same : (o : OutboxState) (now : ℕ) → Same o (cut o now)
cut_same o now = go (can_cut o) refl
  where
    go : (b : Bool) → can_cut o ≡ b → Same o (cut o now)
    go false no_cut = let e : cut o now ≡ o = rw no_cut refl in subst (Same o) (sym e) (same o)
    go true can =
        let none = none_unanswered o can in
        subst (Same o) (sym (cut_where o now can)) (record {
          events = ap (λ l. o.settled ++ l) (take-append-drop 50 o.waiting) ∙ sym (ap (λ u. o.settled ++ (unanswered_pdus u ++ o.waiting)) none);
          edus = ap (λ l. o.settled_edus ++ l) (take-append-drop 100 o.waiting_edus) ∙ sym (ap (λ u. o.settled_edus ++ (unanswered_edus u ++ o.waiting_edus)) none);
          end = refl;
          dest = refl;
        })

taken_same : (o : OutboxState) → Same o (taken o)
taken_same o = record {
  events = append_assoc o.settled (unanswered_pdus o.unanswered) o.waiting;
  edus = append_assoc o.settled_edus (unanswered_edus o.unanswered) o.waiting_edus;
  end = refl;
  dest = refl;
}

failed_same : (o : OutboxState) (n now : ℕ) → Same o (failed o n now)
failed_same o n now = go (has_number o.unanswered n)
  where
    go : (b : Bool) → Same o (if b then one_failure_more o now else o)
    go true = record { events = refl; edus = refl; end = refl; dest = refl }
    go false = same o

settle_same : (o : OutboxState) (n status now : ℕ) → Same o (settle o n status now)
settle_same o n status now = go (has_number o.unanswered n) (status == 200)
  where
    go : (b c : Bool) → Same o (if b then (if c then taken o else one_failure_more o now) else o)
    go true true = taken_same o
    go true false = record { events = refl; edus = refl; end = refl; dest = refl }
    go false c = same o

-- ---- what accepts a parcel

abbrev ends : Bool → ℕ
ends b = if b then 1 else 0

pub record Adds (o : OutboxState) (parcel : Parcel) (next : OutboxState) : Type 0 where
  pub events : accepted next ≡ accepted o ++ events_of (parcel ∷ [])
  pub edus : accepted_edus next ≡ accepted_edus o ++ edus_of (parcel ∷ [])
  pub number : expected next ≡ expected o + 1
  pub dest : next.dest ≡ o.dest
  pub place : parcel.place ≡ record { dest = o.dest; number = expected o }

place_is : (o : OutboxState) (place : PlaceValue) → is_next o place ≡ true → place ≡ record { dest = o.dest; number = expected o }
place_is o place next =
    let both = and_true (place.dest == o.dest) (place.number == expected o) next in
    let dest : place.dest ≡ o.dest = eqb-true place.dest o.dest both.0 in
    let number : place.number ≡ expected o = eqb-true place.number (expected o) both.1 in
    ap (λ d. record { dest = d; number = place.number }) dest ∙ ap (λ n. record { dest = o.dest; number = n }) number

pub with_load_adds : (o : OutboxState) (parcel : Parcel) → fits o parcel.place ≡ true → Adds o parcel (with_load o parcel.load)
with_load_adds o parcel fit =
    let both = and_true (not o.has_end) (is_next o parcel.place) fit in
    go parcel.load both.0 (place_is o parcel.place both.1)
  where
    one_more : {A : Type 0} (xs ys zs : List A) (x : A) → xs ++ (ys ++ (zs ++ x ∷ [])) ≡ xs ++ (ys ++ zs) ++ x ∷ []
    one_more xs ys zs x = sym (append_assoc xs (ys ++ zs) (x ∷ []) ∙ ap (λ l. xs ++ l) (append_assoc ys zs (x ∷ [])))

    ended : (b : Bool) → not b ≡ true → ends b ≡ 0
    ended true h = absurd (true≢false (sym h))
    ended false h = refl

    go : (load : Load) → not o.has_end ≡ true → parcel.place ≡ record { dest = o.dest; number = expected o } → Adds o (record { place = parcel.place; load = load }) (with_load o load)
    go (Event event) not_ended place =
        let e = one_more o.settled (unanswered_pdus o.unanswered) o.waiting event in
        let longer : length (accepted (with_load o (Event event))) ≡ length (accepted o) + 1 = ap length e ∙ length-append (accepted o) (event ∷ []) in
        record { events = e; edus = sym (append-nil (accepted_edus o)); number = omega arith; dest = refl; place = place }
    go (Edu edu) not_ended place =
        let e = one_more o.settled_edus (unanswered_edus o.unanswered) o.waiting_edus edu in
        let longer : length (accepted_edus (with_load o (Edu edu))) ≡ length (accepted_edus o) + 1 = ap length e ∙ length-append (accepted_edus o) (edu ∷ []) in
        record { events = sym (append-nil (accepted o)); edus = e; number = omega arith; dest = refl; place = place }
    go End not_ended place =
        let none = ended o.has_end not_ended in
        record { events = sym (append-nil (accepted o)); edus = sym (append-nil (accepted_edus o)); number = omega arith; dest = refl; place = place }

-- ---- one call

abbrev pub Does : OutboxState → Option Parcel → OutboxState → Type 0
Does o None next = Same o next
Does o (Some parcel) next = Adds o parcel next

pub call_does : (o : OutboxState) (call : Call) → Does o (accepted_by o call) (after_call o call)
call_does o (Accept parcel has_memory) = go (fits o parcel.place) has_memory refl
  where
    go : (b c : Bool) → fits o parcel.place ≡ b → Does o (if b && c then Some parcel else None) (if b && c then with_load o parcel.load else o)
    go true true fit = with_load_adds o parcel fit
    go true false fit = same o
    go false c fit = same o
call_does o (Cut now) = cut_same o now
call_does o (Failed n now) = failed_same o n now
call_does o (Settle n status now) = settle_same o n status now

pub call_adds : (o : OutboxState) (call : Call) (parcel : Parcel) → accepted_by o call ≡ Some parcel → Adds o parcel (after_call o call)
call_adds o call parcel e = subst (λ p. Does o p (after_call o call)) e (call_does o call)

pub call_keeps : (o : OutboxState) (call : Call) → accepted_by o call ≡ None → Same o (after_call o call)
call_keeps o call e = subst (λ p. Does o p (after_call o call)) e (call_does o call)
