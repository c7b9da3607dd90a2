-- What requests in turn leave of an inbox: the lists that only grow, and the replies that are kept.
use Rattle.std.proofs.Common.{arith, ◌≡◌, ◌≢◌, ℕ, List, [], ◌∷◌, ◌++◌, Bool, true, false, cond, Option, Some, None, bytes_eq, refl, sym, ap, ◌∙◌, append_assoc, ◌⊎◌, inl, inr}
use Rattle.std.proofs.lemmas.Bool.{cases_Bool}
use Rattle.std.proofs.lemmas.List.{append-nil}
use Rattle.std.proofs.lemmas.Slice.Eq.{bytes_eq-Decides}
use Rattle.std.specs.FinMap as finite
use Rattle.std.specs.Cmp.Lexicographic.{nat_list_cmp_total}
use Rattle.std.proofs.lemmas.Map.Text.{is_eq-slice_cmp}
use Rattle.fed_json.specs.TextMap.{TextMap}
use Rattle.fed_event.specs.Keys.{Checks}
use Rattle.fed_event.specs.Checked.{CheckedEvent}
use Rattle.fed_inbox.specs.declared.refusal.Refusal.{Refusal}
use Rattle.fed_inbox.specs.declared.refusal.Refusal.TheVariants.{NoSuchPath, MethodNotAllowed, BadAuthorization, WrongDestination, ServerNotListed, BodyTooLarge, NotJson, NotCanonical, BadSignature, OriginDiffers, BadField, TooManyPdus, TooManyEdus, OutOfMemory}
use Rattle.fed_inbox.specs.Reply.{Answer, accepted, refused}
use Rattle.fed_inbox.specs.Log.{LogState}
use Rattle.fed_inbox.specs.Taking.{taking_of}
use Rattle.fed_inbox.specs.Inbox.{InboxState, log_at, pdus_by, edus_by}
use Rattle.fed_inbox.specs.Answer.{SendRequest, with_taking, marked_answer, marked_after, marked_fresh}
use Rattle.fed_inbox.specs.Runs.{MarkedRequest, answers, after_all, fresh_all, reply_by, kept_reply, comes_first, WasAnswered, Takes, IsRepeatAnswer}
use Rattle.fed_inbox.proofs.FoundLogs.{same_or_not}
use Rattle.fed_inbox.proofs.Cases.{First, RequestCases, cases, other_stays}

-- ---- look-ups

no_some : (reply : List ℕ) → None ≡ Some reply → ⊥
no_some reply e = absurd (cc)

pub not_both : (o : Option (List ℕ)) (reply : List ℕ) → o ≡ None → o ≡ Some reply → ⊥
not_both o reply none some = no_some reply (sym none ∙ some)

pub one_reply : (a b : List ℕ) → Some a ≡ Some b → a ≡ b
one_reply a b e = cc

pub not_refused : (refusal : Refusal) → (refused refusal).status ≡ 200 → ⊥
not_refused NoSuchPath e = absurd (omega arith)
not_refused MethodNotAllowed e = absurd (omega arith)
not_refused BadAuthorization e = absurd (omega arith)
not_refused WrongDestination e = absurd (omega arith)
not_refused ServerNotListed e = absurd (omega arith)
not_refused BodyTooLarge e = absurd (omega arith)
not_refused NotJson e = absurd (omega arith)
not_refused NotCanonical e = absurd (omega arith)
not_refused BadSignature e = absurd (omega arith)
not_refused OriginDiffers e = absurd (omega arith)
not_refused (BadField field) e = absurd (omega arith)
not_refused TooManyPdus e = absurd (omega arith)
not_refused TooManyEdus e = absurd (omega arith)
not_refused OutOfMemory e = absurd (omega arith)

pub get-insert_same : (m : TextMap (List ℕ)) (k v : List ℕ) → finite.get (finite.insert m k v) k ≡ Some v
get-insert_same m k v = finite.get-insert nat_list_cmp_total m k v k ∙ ap (λ b. cond b (Some v) (finite.get m k)) (is_eq-slice_cmp k k ∙ (bytes_eq-Decides k k).1 refl)

pub get-insert_other : (m : TextMap (List ℕ)) (k v q : List ℕ) → q ≢ k → finite.get (finite.insert m k v) q ≡ finite.get m q
get-insert_other m k v q apart = finite.get-insert nat_list_cmp_total m k v q ∙ ap (λ b. cond b (Some v) (finite.get m q)) (is_eq-slice_cmp q k ∙ by (cases_Bool (bytes_eq q k)))
  where
    by : (bytes_eq q k ≡ true) ⊎ (bytes_eq q k ≡ false) → bytes_eq q k ≡ false
    by (inl t) = absurd (apart ((bytes_eq-Decides q k).0 t))
    by (inr f) = f

module _ (checks : Checks) where
  -- ---- one more request

  pub answers_one_more : (s : InboxState) (asked : List MarkedRequest) (one : MarkedRequest) → answers checks s (asked ++ one ∷ []) ≡ answers checks s asked ++ marked_answer checks (after_all checks s asked) one.0 one.1 ∷ []
  answers_one_more s [] one = refl
  answers_one_more s (a ∷ later) one = ap (λ l. marked_answer checks s a.0 a.1 ∷ l) (answers_one_more (marked_after checks s a.0 a.1) later one)

  pub state_one_more : (s : InboxState) (asked : List MarkedRequest) (one : MarkedRequest) → after_all checks s (asked ++ one ∷ []) ≡ marked_after checks (after_all checks s asked) one.0 one.1
  state_one_more s [] one = refl
  state_one_more s (a ∷ later) one = state_one_more (marked_after checks s a.0 a.1) later one

  pub fresh_one_more : (s : InboxState) (asked : List MarkedRequest) (one : MarkedRequest) → fresh_all checks s (asked ++ one ∷ []) ≡ fresh_all checks s asked ++ marked_fresh checks (after_all checks s asked) one.0 one.1
  fresh_one_more s [] one = append-nil (marked_fresh checks s one.0 one.1)
  fresh_one_more s (a ∷ later) one =
      ap (λ l. marked_fresh checks s a.0 a.1 ++ l) (fresh_one_more (marked_after checks s a.0 a.1) later one)
      ∙ sym (append_assoc (marked_fresh checks s a.0 a.1) (fresh_all checks (marked_after checks s a.0 a.1) later) (marked_fresh checks (after_all checks s (a ∷ later)) one.0 one.1))

  -- ---- what grows

  -- a reading of a log that gains at a first 200
  module _ (part : LogState → List (List ℕ)) (grows : (l : LogState) (rooms txn : _) (t : _) → (more : List (List ℕ)) × (part (with_taking l txn (taking_of checks rooms t)) ≡ part l ++ more)) where
    abbrev by_part : Option LogState → List (List ℕ)
    by_part None = []
    by_part (Some l) = part l

    one_grows : (s : InboxState) (one : MarkedRequest) (o : List ℕ) → (more : List (List ℕ)) × (by_part (log_at o (marked_after checks s one.0 one.1).logs) ≡ by_part (log_at o s.logs) ++ more)
    one_grows s (r, found) o = by (same_or_not o r.origin) (cases checks s r found)
      where
        new : InboxState
        new = marked_after checks s r found

        by : (o ≡ r.origin) ⊎ (o ≢ r.origin) → RequestCases checks s r (marked_answer checks s r found) new (marked_fresh checks s r found)
            → (more : List (List ℕ)) × (by_part (log_at o new.logs) ≡ by_part (log_at o s.logs) ++ more)
        by (inr apart) request = ([], ap by_part (other_stays checks s r found o apart) ∙ sym (append-nil (by_part (log_at o s.logs))))
        by (inl is) (inl nothing) = ([], ap (λ (i : InboxState). by_part (log_at o i.logs)) nothing.new_is ∙ sym (append-nil (by_part (log_at o s.logs))))
        by (inl is) (inr (inl again)) = ([], ap (λ (i : InboxState). by_part (log_at o i.logs)) again.new_is ∙ sym (append-nil (by_part (log_at o s.logs))))
        by (inl is) (inr (inr first)) =
            let gain = grows first.log s.rooms r.txn first.transaction in (
              gain.0,
              ap (λ p. by_part (log_at p new.logs)) is ∙ ap by_part first.now ∙ gain.1
                  ∙ ap (λ found. by_part found ++ gain.0) (sym first.there) ∙ ap (λ p. by_part (log_at p s.logs) ++ gain.0) (sym is),
            )

    -- one request's gain, and then the others'
    joined : (a b d first rest : List (List ℕ)) → b ≡ a ++ first → d ≡ b ++ rest → d ≡ a ++ (first ++ rest)
    joined a b d first rest e f = f ∙ ap (λ t. t ++ rest) e ∙ append_assoc a first rest

    pub all_grow : (s : InboxState) (asked : List MarkedRequest) (o : List ℕ) → (more : List (List ℕ)) × (by_part (log_at o (after_all checks s asked).logs) ≡ by_part (log_at o s.logs) ++ more)
    all_grow s [] o = ([], sym (append-nil (by_part (log_at o s.logs))))
    all_grow s (one ∷ later) o =
        let first = one_grows s one o in
        let rest = all_grow (marked_after checks s one.0 one.1) later o in
        (first.0 ++ rest.0, joined _ _ _ first.0 rest.0 first.1 rest.1)

  -- ---- kept replies

  -- what is kept after a first 200
  kept_now : (s : InboxState) (r : SendRequest) (answer : Answer) (new : InboxState) (fresh : List CheckedEvent) (first : First checks s r answer new fresh) (q : List ℕ)
      → kept_reply new r.origin q ≡ finite.get (finite.insert first.log.replies r.txn (taking_of checks s.rooms first.transaction).reply) q
  kept_now s r answer new fresh first q = ap (λ l. reply_by l q) first.now

  kept_before : (s : InboxState) (r : SendRequest) (answer : Answer) (new : InboxState) (fresh : List CheckedEvent) (first : First checks s r answer new fresh) (q : List ℕ)
      → kept_reply s r.origin q ≡ finite.get first.log.replies q
  kept_before s r answer new fresh first q = ap (λ l. reply_by l q) first.there

  -- a number whose reply is not new
  kept_same : (s : InboxState) (r : SendRequest) (answer : Answer) (new : InboxState) (fresh : List CheckedEvent) (first : First checks s r answer new fresh) (q : List ℕ) → q ≢ r.txn
      → kept_reply new r.origin q ≡ kept_reply s r.origin q
  kept_same s r answer new fresh first q apart =
      kept_now s r answer new fresh first q
      ∙ get-insert_other first.log.replies r.txn (taking_of checks s.rooms first.transaction).reply q apart
      ∙ sym (kept_before s r answer new fresh first q)

  one_keeps : (s : InboxState) (one : MarkedRequest) (o q reply : List ℕ) → kept_reply s o q ≡ Some reply → kept_reply (marked_after checks s one.0 one.1) o q ≡ Some reply
  one_keeps s (r, found) o q reply kept = by (same_or_not o r.origin) (cases checks s r found) (same_or_not q r.txn)
    where
      by : (o ≡ r.origin) ⊎ (o ≢ r.origin) → RequestCases checks s r (marked_answer checks s r found) (marked_after checks s r found) (marked_fresh checks s r found)
          → (q ≡ r.txn) ⊎ (q ≢ r.txn) → kept_reply (marked_after checks s r found) o q ≡ Some reply
      by (inr apart) request number = ap (λ l. reply_by l q) (other_stays checks s r found o apart) ∙ kept
      by (inl is) (inl nothing) number = ap (λ i. kept_reply i o q) nothing.new_is ∙ kept
      by (inl is) (inr (inl again)) number = ap (λ i. kept_reply i o q) again.new_is ∙ kept
      by (inl is) (inr (inr first)) (inl same) =
          let here : finite.get first.log.replies r.txn ≡ Some reply = sym (kept_before s r _ _ _ first r.txn) ∙ ap (λ p. kept_reply s p r.txn) (sym is) ∙ ap (kept_reply s o) (sym same) ∙ kept in
          absurd (not_both _ reply first.none here)
      by (inl is) (inr (inr first)) (inr other) =
          ap (λ p. kept_reply (marked_after checks s r found) p q) is ∙ kept_same s r _ _ _ first q other ∙ ap (λ p. kept_reply s p q) (sym is) ∙ kept

  pub all_keep : (s : InboxState) (asked : List MarkedRequest) (o q reply : List ℕ) → kept_reply s o q ≡ Some reply → kept_reply (after_all checks s asked) o q ≡ Some reply
  all_keep s [] o q reply kept = kept
  all_keep s (one ∷ later) o q reply kept = all_keep (marked_after checks s one.0 one.1) later o q reply (one_keeps s one o q reply kept)

  module _ (s : InboxState) (r : SendRequest) (found : Bool) where
    abbrev answer : Answer
    answer = marked_answer checks s r found

    abbrev new : InboxState
    new = marked_after checks s r found

    abbrev fresh : List CheckedEvent
    fresh = marked_fresh checks s r found

    pub ok_is_kept : answer.status ≡ 200 → kept_reply new r.origin r.txn ≡ Some answer.body
    ok_is_kept ok = by (cases checks s r found)
      where
        by : RequestCases checks s r answer new fresh → kept_reply new r.origin r.txn ≡ Some answer.body
        by (inl nothing) = absurd (not_refused nothing.refusal (ap (λ (a : Answer). a.status) (sym nothing.answer_is) ∙ ok))
        by (inr (inl again)) = ap (λ i. kept_reply i r.origin r.txn) again.new_is ∙ again.kept ∙ ap (λ (a : Answer). Some a.body) (sym again.answer_is)
        by (inr (inr first)) =
            kept_now s r answer new fresh first r.txn ∙ get-insert_same first.log.replies r.txn (taking_of checks s.rooms first.transaction).reply
            ∙ ap (λ (a : Answer). Some a.body) (sym first.answer_is)

    pub first_takes : answer.status ≡ 200 → kept_reply s r.origin r.txn ≡ None → Takes checks s r found
    first_takes ok none = by (cases checks s r found)
      where
        by : RequestCases checks s r answer new fresh → Takes checks s r found
        by (inl nothing) = absurd (not_refused nothing.refusal (ap (λ (a : Answer). a.status) (sym nothing.answer_is) ∙ ok))
        by (inr (inl again)) = absurd (not_both _ again.reply none again.kept)
        by (inr (inr first)) =
            let taking = taking_of checks s.rooms first.transaction in
            record {
              transaction = first.transaction;
              body = first.read;
              answer = first.answer_is;
              pdus = ap pdus_by first.now ∙ ap (λ o. pdus_by o ++ taking.pdus) (sym first.there);
              edus = ap edus_by first.now ∙ ap (λ o. edus_by o ++ taking.edus) (sym first.there);
              fresh = first.fresh_is;
            }

    pub repeats : (reply : List ℕ) → kept_reply s r.origin r.txn ≡ Some reply → IsRepeatAnswer reply answer
    repeats reply kept = by (cases checks s r found)
      where
        by : RequestCases checks s r answer new fresh → IsRepeatAnswer reply answer
        by (inl nothing) = told nothing.first
          where
            told : (comes_first nothing.refusal ≡ true) ⊎ (kept_reply s r.origin r.txn ≡ None) → IsRepeatAnswer reply answer
            told (inl first) = inr (nothing.refusal, first, nothing.answer_is)
            told (inr none) = absurd (not_both _ reply none kept)
        by (inr (inl again)) = inl (again.answer_is ∙ ap accepted (one_reply again.reply reply (sym again.kept ∙ kept)))
        by (inr (inr first)) = absurd (not_both _ reply first.none (sym (kept_before s r answer new fresh first r.txn) ∙ kept))

    abbrev Stays : Type 0
    Stays = (new ≡ s) × (fresh ≡ [])

    pub refused_stays : answer.status ≢ 200 → Stays
    refused_stays no_ok = by (cases checks s r found)
      where
        by : RequestCases checks s r answer new fresh → Stays
        by (inl nothing) = (nothing.new_is, nothing.fresh_is)
        by (inr (inl again)) = (again.new_is, again.fresh_is)
        by (inr (inr first)) = absurd (no_ok (ap (λ (a : Answer). a.status) first.answer_is))

    pub repeat_stays : (reply : List ℕ) → kept_reply s r.origin r.txn ≡ Some reply → Stays
    repeat_stays reply kept = by (cases checks s r found)
      where
        by : RequestCases checks s r answer new fresh → Stays
        by (inl nothing) = (nothing.new_is, nothing.fresh_is)
        by (inr (inl again)) = (again.new_is, again.fresh_is)
        by (inr (inr first)) = absurd (not_both _ reply first.none (sym (kept_before s r answer new fresh first r.txn) ∙ kept))

    -- a reply that is kept from this request on is its answer
    pub newly_kept : (o q reply : List ℕ) → kept_reply s o q ≡ None → kept_reply new o q ≡ Some reply → (r.origin ≡ o) × (r.txn ≡ q) × (answer ≡ accepted reply)
    newly_kept o q reply none kept = by (same_or_not o r.origin) (cases checks s r found) (same_or_not q r.txn)
      where
        by : (o ≡ r.origin) ⊎ (o ≢ r.origin) → RequestCases checks s r answer new fresh → (q ≡ r.txn) ⊎ (q ≢ r.txn) → (r.origin ≡ o) × (r.txn ≡ q) × (answer ≡ accepted reply)
        by (inr apart) request number = absurd (not_both _ reply none (ap (λ l. reply_by l q) (sym (other_stays checks s r found o apart)) ∙ kept))
        by (inl is) (inl nothing) number = absurd (not_both _ reply none (ap (λ i. kept_reply i o q) (sym nothing.new_is) ∙ kept))
        by (inl is) (inr (inl again)) number = absurd (not_both _ reply none (ap (λ i. kept_reply i o q) (sym again.new_is) ∙ kept))
        by (inl is) (inr (inr first)) (inr other) =
            absurd (not_both _ reply none (ap (λ p. kept_reply s p q) is ∙ sym (kept_same s r answer new fresh first q other) ∙ ap (λ p. kept_reply new p q) (sym is) ∙ kept))
        by (inl is) (inr (inr first)) (inl same) =
            let mine = (taking_of checks s.rooms first.transaction).reply in
            let here : Some mine ≡ Some reply =
            sym (get-insert_same first.log.replies r.txn mine) ∙ sym (kept_now s r answer new fresh first r.txn)
            ∙ ap (λ p. kept_reply new p r.txn) (sym is) ∙ ap (kept_reply new o) (sym same) ∙ kept in
            (sym is, sym same, first.answer_is ∙ ap accepted (one_reply mine reply here))

  pub kept_was_answered : (s : InboxState) (asked : List MarkedRequest) (o q reply : List ℕ) → kept_reply s o q ≡ None → kept_reply (after_all checks s asked) o q ≡ Some reply
      → WasAnswered checks s asked o q (accepted reply)
  kept_was_answered s [] o q reply none kept = absurd (not_both _ reply none kept)
  kept_was_answered s (one ∷ later) o q reply none kept = by (kept_reply now o q) refl (λ still. kept_was_answered now later o q reply still kept)
    where
      now : InboxState
      now = marked_after checks s one.0 one.1

      by : (k : Option (List ℕ)) → kept_reply now o q ≡ k → (kept_reply now o q ≡ None → WasAnswered checks now later o q (accepted reply)) → WasAnswered checks s (one ∷ later) o q (accepted reply)
      by None still rest =
          let further = rest still in
          record {
            earlier = one ∷ further.earlier;
            one = further.one;
            later = further.later;
            among = ap (λ l. one ∷ l) further.among;
            origin_is = further.origin_is;
            txn_is = further.txn_is;
            answer_is = further.answer_is;
          }
      by (Some mine) here rest =
          let same = one_reply mine reply (sym (all_keep now later o q mine here) ∙ kept) in
          let (origin_is, txn_is, answer_is) = newly_kept s one.0 one.1 o q mine none here in
          record { earlier = []; one = one; later = later; among = refl; origin_is = origin_is; txn_is = txn_is; answer_is = answer_is ∙ ap accepted same }
