-- What a list has in its front, in the part that was sent, and behind that, each named by a count.
use Rattle.std.proofs.Common.{◌≡◌, ℕ, ◌+◌, ◌-◌, ◌≤◌, min, Bool, true, not, ◌&&◌, ◌==◌, if◌then◌else◌, List, [], ◌∷◌, ◌++◌, length, take, drop, Vec, Option, Some, None, option_map, refl, sym, ap, ◌∙◌, subst, arith, length-append, length-drop, ◌^◌, eq-eqb, true≢false}
use Rattle.std.proofs.Math.Seq.{take-add}
use Rattle.std.proofs.lemmas.List.{take-append-le, drop-append-le, take-append-drop, drop-drop, take_min, drop_min}
use Rattle.std.specs.declared.alloc.Global.{Global}
use Rattle.serde_json.specs.Data.{Data}
use Rattle.fed_event.specs.Checked.{CheckedEvent}
use Rattle.fed_journal.specs.declared.parcel.Load.TheVariants.{Event, Edu}
use Rattle.fed_outbox.specs.declared.sent.Sent.{Sent}
use Rattle.fed_outbox.specs.declared.outbox.Outbox.TheInside.{Inside}
use Rattle.fed_outbox.specs.Transaction.{TransactionValue}
use Rattle.fed_outbox.specs.Outbox.{OutboxState, settle, expected, unanswered_pdus, unanswered_edus, accepted, accepted_edus, with_load, can_cut, cut, is_unanswered, taken, next_transaction}
use Rattle.fed_outbox.specs.Together.{HoldsTogether}
use Rattle.fed_outbox.specs.Parts.{outbox_of, IsKept, pdus_sent, edus_sent, transaction_of}

-- ---- all that was accepted

pub accepted_is : (o : Inside) → accepted (outbox_of o) ≡ o.pdus.items
accepted_is o = go o.unanswered ∙ take-append-drop o.acked o.pdus.items
  where
    go : (u : Option Sent) → take o.acked o.pdus.items ++ (unanswered_pdus (option_map (transaction_of (drop o.acked o.pdus.items) (drop o.acked_edus o.edus.items)) u) ++ drop (pdus_sent u) (drop o.acked o.pdus.items))
        ≡ take o.acked o.pdus.items ++ drop o.acked o.pdus.items
    go None = refl
    go (Some s) = ap (λ l. take o.acked o.pdus.items ++ l) (take-append-drop s.pdus (drop o.acked o.pdus.items))

pub accepted_edus_is : (o : Inside) → accepted_edus (outbox_of o) ≡ o.edus.items
accepted_edus_is o = go o.unanswered ∙ take-append-drop o.acked_edus o.edus.items
  where
    go : (u : Option Sent) → take o.acked_edus o.edus.items ++ (unanswered_edus (option_map (transaction_of (drop o.acked o.pdus.items) (drop o.acked_edus o.edus.items)) u) ++ drop (edus_sent u) (drop o.acked_edus o.edus.items))
        ≡ take o.acked_edus o.edus.items ++ drop o.acked_edus o.edus.items
    go None = refl
    go (Some s) = ap (λ l. take o.acked_edus o.edus.items ++ l) (take-append-drop s.edus (drop o.acked_edus o.edus.items))

pub expected_is : (o : Inside) → expected (outbox_of o) ≡ length o.pdus.items + length o.edus.items + (if o.has_end then 1 else 0) + 1
expected_is o = ap (λ (l : List CheckedEvent). length l + length (accepted_edus (outbox_of o)) + (if o.has_end then 1 else 0) + 1) (accepted_is o)
    ∙ ap (λ (l : List Data). length o.pdus.items + length l + (if o.has_end then 1 else 0) + 1) (accepted_edus_is o)

-- ---- one more at the end

pub sent_push : {A : Type 0} (a n : ℕ) (xs : List A) (x : A) → a + n ≤ length xs → take n (drop a (xs ++ x ∷ [])) ≡ take n (drop a xs)
sent_push a n xs x h =
    ap (take n) (drop-append-le a xs (x ∷ []) (omega arith)) ∙ take-append-le n (drop a xs) (x ∷ []) (rw (length-drop a xs) (omega arith))

pub waiting_push : {A : Type 0} (a n : ℕ) (xs : List A) (x : A) → a + n ≤ length xs → drop n (drop a (xs ++ x ∷ [])) ≡ drop n (drop a xs) ++ x ∷ []
waiting_push a n xs x h =
    ap (drop n) (drop-append-le a xs (x ∷ []) (omega arith)) ∙ drop-append-le n (drop a xs) (x ∷ []) (rw (length-drop a xs) (omega arith))

pub event_waits : (o : Inside) (v : Vec CheckedEvent Global) (event : CheckedEvent) → o.acked + pdus_sent o.unanswered ≤ length o.pdus.items → v.items ≡ o.pdus.items ++ event ∷ []
    → outbox_of (record o { pdus = v }) ≡ with_load (outbox_of o) (Event event)
event_waits o v event h e =
    let settled = take-append-le o.acked o.pdus.items (event ∷ []) (omega arith) in
    let waits = waiting_push o.acked (pdus_sent o.unanswered) o.pdus.items event h in
    let sent = unanswered o.unanswered h in
    rw (e, settled, waits, sent) refl
  where
    unanswered : (u : Option Sent) → o.acked + pdus_sent u ≤ length o.pdus.items
        → option_map (transaction_of (drop o.acked (o.pdus.items ++ event ∷ [])) (drop o.acked_edus o.edus.items)) u
        ≡ option_map (transaction_of (drop o.acked o.pdus.items) (drop o.acked_edus o.edus.items)) u
    unanswered None h = refl
    unanswered (Some s) h = rw (sent_push o.acked s.pdus o.pdus.items event h) refl

pub edu_waits : (o : Inside) (v : Vec Data Global) (edu : Data) → o.acked_edus + edus_sent o.unanswered ≤ length o.edus.items → v.items ≡ o.edus.items ++ edu ∷ []
    → outbox_of (record o { edus = v }) ≡ with_load (outbox_of o) (Edu edu)
edu_waits o v edu h e =
    let settled = take-append-le o.acked_edus o.edus.items (edu ∷ []) (omega arith) in
    let waits = waiting_push o.acked_edus (edus_sent o.unanswered) o.edus.items edu h in
    let sent = unanswered o.unanswered h in
    rw (e, settled, waits, sent) refl
  where
    unanswered : (u : Option Sent) → o.acked_edus + edus_sent u ≤ length o.edus.items
        → option_map (transaction_of (drop o.acked o.pdus.items) (drop o.acked_edus (o.edus.items ++ edu ∷ []))) u
        ≡ option_map (transaction_of (drop o.acked o.pdus.items) (drop o.acked_edus o.edus.items)) u
    unanswered None h = refl
    unanswered (Some s) h = rw (sent_push o.acked_edus s.edus o.edus.items edu h) refl

pub event_kept : (o : Inside) (v : Vec CheckedEvent Global) (event : CheckedEvent) → IsKept o → v.items ≡ o.pdus.items ++ event ∷ [] → expected (outbox_of o) ≤ 2 ^ 53 + 1 → IsKept (record o { pdus = v })
event_kept o v event kept e next =
    let longer : length v.items ≡ length o.pdus.items + 1 = ap length e ∙ length-append o.pdus.items (event ∷ []) in
    let count = expected_is o in
    record {
      pdus = omega (arith, kept.pdus);
      edus = kept.edus;
      few = omega arith;
      together = subst HoldsTogether (sym (event_waits o v event kept.pdus e)) (record { newest = kept.together.newest; failures = kept.together.failures; last = kept.together.last });
    }

pub edu_kept : (o : Inside) (v : Vec Data Global) (edu : Data) → IsKept o → v.items ≡ o.edus.items ++ edu ∷ [] → expected (outbox_of o) ≤ 2 ^ 53 + 1 → IsKept (record o { edus = v })
edu_kept o v edu kept e next =
    let longer : length v.items ≡ length o.edus.items + 1 = ap length e ∙ length-append o.edus.items (edu ∷ []) in
    let count = expected_is o in
    record {
      pdus = kept.pdus;
      edus = omega (arith, kept.edus);
      few = omega arith;
      together = subst HoldsTogether (sym (edu_waits o v edu kept.edus e)) (record { newest = kept.together.newest; failures = kept.together.failures; last = kept.together.last });
    }

-- ---- a cut

first_of_rest : {A : Type 0} (a n : ℕ) (xs : List A) → take (min (length xs - a) n) (drop a xs) ≡ take n (drop a xs)
first_of_rest a n xs = let e : min (length xs - a) n ≡ min n (length (drop a xs)) = rw (length-drop a xs) (omega arith) in rw e (take_min n (drop a xs))

rest_of_rest : {A : Type 0} (a n : ℕ) (xs : List A) → drop (min (length xs - a) n) (drop a xs) ≡ drop n (drop a xs)
rest_of_rest a n xs = let e : min (length xs - a) n ≡ min n (length (drop a xs)) = rw (length-drop a xs) (omega arith) in rw e (drop_min n (drop a xs))

pub none_unanswered : (o : OutboxState) → can_cut o ≡ true → o.unanswered ≡ None
none_unanswered o can = go o.unanswered _ can
  where
    go : (u : Option TransactionValue) (b : Bool) → (not (is_unanswered u) && b) ≡ true → u ≡ None
    go None b h = refl
    go (Some t) b h = absurd (true≢false (sym h))

pub none_sent : (o : Inside) → can_cut (outbox_of o) ≡ true → o.unanswered ≡ None
none_sent o can = go o.unanswered (none_unanswered (outbox_of o) can)
  where
    go : (u : Option Sent) → option_map (transaction_of (drop o.acked o.pdus.items) (drop o.acked_edus o.edus.items)) u ≡ None → u ≡ None
    go None h = refl
    go (Some s) h = cc

pub cut_where : (o : OutboxState) (now : ℕ) → can_cut o ≡ true
    → cut o now ≡ record o { unanswered = Some (next_transaction o now); waiting = drop 50 o.waiting; waiting_edus = drop 100 o.waiting_edus; last = o.last + 1; due_at = now }
cut_where o now can = rw can refl

pub cut_is : (o : Inside) (now n m : ℕ) → can_cut (outbox_of o) ≡ true → n ≡ min (length o.pdus.items - o.acked) 50 → m ≡ min (length o.edus.items - o.acked_edus) 100
    → outbox_of (record o { unanswered = Some (record { number = o.last + 1; at_ms = now; pdus = n; edus = m }); last = o.last + 1; due_at = now }) ≡ cut (outbox_of o) now
cut_is o now n m can en em =
    let none = none_sent o can in
    let first = first_of_rest o.acked 50 o.pdus.items in
    let first_edus = first_of_rest o.acked_edus 100 o.edus.items in
    let rest = rest_of_rest o.acked 50 o.pdus.items in
    let rest_edus = rest_of_rest o.acked_edus 100 o.edus.items in
    rw (cut_where (outbox_of o) now can, en, em, none, first, first_edus, rest, rest_edus) refl

-- ---- a settled transaction

pub taken_is : (o : Inside) (s : Sent) → o.unanswered ≡ Some s
    → outbox_of (record o { acked = o.acked + s.pdus; acked_edus = o.acked_edus + s.edus; unanswered = None; failures = 0; due_at = 0 }) ≡ taken (outbox_of o)
taken_is o s e =
    let settled = take-add o.acked s.pdus o.pdus.items in
    let settled_edus = take-add o.acked_edus s.edus o.edus.items in
    let rest = drop-drop s.pdus o.acked o.pdus.items in
    let rest_edus = drop-drop s.edus o.acked_edus o.edus.items in
    rw (e, settled, settled_edus, rest, rest_edus) refl

pub settle_is : (o : Inside) (s : Sent) (n status now : ℕ) → o.unanswered ≡ Some s → s.number ≡ n → status ≡ 200
    → outbox_of (record o { acked = o.acked + s.pdus; acked_edus = o.acked_edus + s.edus; unanswered = None; failures = 0; due_at = 0 }) ≡ settle (outbox_of o) n status now
settle_is o s n status now e number taken =
    let same : (s.number == n) ≡ true = eq-eqb s.number n number in
    taken_is o s e ∙ rw (e, same, taken) refl
