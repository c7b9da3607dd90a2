-- What whole requests leave of an inbox that are answered one after another.
use Rattle.std.proofs.Common.{arith, ◌≡◌, ◌≢◌, ℕ, ◌≤◌, List, [], ◌∷◌, ◌++◌, length, Bool, true, false, if◌then◌else◌, Option, Some, None, Result, Ok, Err, refl, sym, ap, subst, ◌∙◌, append_assoc, ◌⊎◌, inl, inr}
use Rattle.std.proofs.lemmas.List.{append-nil}
use Rattle.std.proofs.lemmas.List.Concat.{flat_map-append}
use Rattle.std.proofs.lemmas.List.Elements.{All-nil, All-append, Contains-push, Contains-push_cases, Contains-append_left}
use Rattle.std.specs.List.{All, AllPairs, Contains}
use Rattle.fed_event.specs.EventId.{event_id_of}
use Rattle.fed_event.specs.Keys.{Checks}
use Rattle.fed_event.specs.Checked.{CheckedEvent}
use Rattle.fed_http.specs.Message.{RequestValue}
use Rattle.fed_inbox.specs.declared.refusal.Refusal.{Refusal}
use Rattle.fed_inbox.specs.Reply.{Answer, accepted, refused}
use Rattle.fed_inbox.specs.Log.{LogState}
use Rattle.fed_inbox.specs.Taking.{taking_of}
use Rattle.fed_inbox.specs.Inbox.{InboxState, log_at, taken_of, taken_edus_of}
use Rattle.fed_inbox.specs.Answer.{SendRequest, after, marked_answer, marked_after, marked_fresh, IsAnswered}
use Rattle.fed_inbox.specs.Runs.{kept_reply, IsForRooms, IsRepeatAnswer, Takes}
use Rattle.fed_inbox.specs.WholeRequest.{Heading, IsReadAs, IsRefused, asked, IsAnsweredWhole, no_memory, not_read, read}
use Rattle.fed_inbox.specs.History.{Point, IsHistory, begun, one_more, brought, IsFirst, IsAmong, WasAnsweredWhole}
use Rattle.fed_inbox.proofs.Cases.{other_stays}
use Rattle.fed_inbox.proofs.ForRooms.{one_for_rooms, one_apart, rooms_stay}
use Rattle.fed_inbox.proofs.Incomings.{one_reading}
use Rattle.fed_inbox.proofs.Queues.{few_for_rooms}
use Rattle.fed_inbox.proofs.Runs.{all_grow, all_keep, ok_is_kept, first_takes, repeats, refused_stays, repeat_stays, not_refused, not_both, one_reply, newly_kept}

same_heading : (g h : Heading) → ◌≡◌ {A = Result Heading Refusal} (Ok g) (Ok h) → g ≡ h
same_heading g h e = cc e

no_heading : (refusal : Refusal) (h : Heading) → ◌≡◌ {A = Result Heading Refusal} (Err refusal) (Ok h) → ⊥
no_heading refusal h e = absurd (cc e)

-- what holds of an answer, a state and events holds of what is the same
pub of_same : (P : Answer → InboxState → List CheckedEvent → Type 0) (a b : Answer) (n m : InboxState) (f g : List CheckedEvent) → a ≡ b → n ≡ m → f ≡ g → P b m g → P a n f
of_same P a b n m f g e h k p = subst (λ x. P x n f) (sym e) (subst (λ y. P b y f) (sym h) (subst (λ z. P b m z) (sym k) p))

own_stays : (checks : Checks) (s : InboxState) (q : SendRequest) (found : Bool) → (marked_after checks s q found).own ≡ s.own
own_stays checks s q found = elim found as (λ (b : Bool). (if b then after checks s q else s).own ≡ s.own) [ true ↦ refl | false ↦ refl ]

-- ---- one request

module _ (checks : Checks) (old : InboxState) (r : RequestValue) (answer : Answer) (new : InboxState) (fresh : List CheckedEvent) (is : IsAnsweredWhole checks old r answer new fresh) where
  -- a refusal that changes nothing, or what the request asks is answered
  of_whole : (P : Answer → InboxState → List CheckedEvent → Type 0) → ((refusal : Refusal) → P (refused refusal) old [])
      → ((h : Heading) → IsReadAs old.own r (Ok h) → (found : Bool) → let q = asked checks old.own r h in P (marked_answer checks old q found) (marked_after checks old q found) (marked_fresh checks old q found))
      → P answer new fresh
  of_whole P if_refused if_read = by is
    where
      refuses : (refusal : Refusal) → IsRefused old refusal answer new fresh → P answer new fresh
      refuses refusal so = of_same P answer (refused refusal) new old fresh [] so.answer_is so.new_is so.fresh_is (if_refused refusal)

      by : IsAnsweredWhole checks old r answer new fresh → P answer new fresh
      by (no_memory so) = refuses _ so
      by (not_read refusal reads so) = refuses refusal so
      by (read h reads so) =
          let q = asked checks old.own r h in
          of_same P answer (marked_answer checks old q so.found) new (marked_after checks old q so.found) fresh (marked_fresh checks old q so.found) so.answer_is so.new_is so.fresh_is (if_read h reads so.found)

  -- where it is read, what it asks is answered
  answered_as : (h : Heading) → IsReadAs old.own r (Ok h) → IsAnswered checks old (asked checks old.own r h) answer new fresh
  answered_as h reads = by is
    where
      by : IsAnsweredWhole checks old r answer new fresh → IsAnswered checks old (asked checks old.own r h) answer new fresh
      by (no_memory so) = record { found = false; answer_is = so.answer_is; new_is = so.new_is; fresh_is = so.fresh_is }
      by (not_read refusal other so) = absurd (no_heading refusal h (one_reading old.own r (Err refusal) (Ok h) other reads))
      by (read g other so) = subst (λ x. IsAnswered checks old (asked checks old.own r x) answer new fresh) (same_heading g h (one_reading old.own r (Ok g) (Ok h) other reads)) so

  of_read : (h : Heading) → IsReadAs old.own r (Ok h) → (P : Answer → InboxState → List CheckedEvent → Type 0)
      → ((found : Bool) → let q = asked checks old.own r h in P (marked_answer checks old q found) (marked_after checks old q found) (marked_fresh checks old q found)) → P answer new fresh
  of_read h reads P each =
      let q = asked checks old.own r h in
      let so = answered_as h reads in
      of_same P answer (marked_answer checks old q so.found) new (marked_after checks old q so.found) fresh (marked_fresh checks old q so.found) so.answer_is so.new_is so.fresh_is (each so.found)

  whole_own : new.own ≡ old.own
  whole_own = of_whole (λ a n f. n.own ≡ old.own) (λ refusal. refl) (λ h reads found. own_stays checks old (asked checks old.own r h) found)

  whole_rooms : new.rooms ≡ old.rooms
  whole_rooms = of_whole (λ a n f. n.rooms ≡ old.rooms) (λ refusal. refl) (λ h reads found. rooms_stay checks old (asked checks old.own r h) found)

  whole_keeps : (o q reply : List ℕ) → kept_reply old o q ≡ Some reply → kept_reply new o q ≡ Some reply
  whole_keeps o q reply kept =
      of_whole (λ a n f. kept_reply n o q ≡ Some reply) (λ refusal. kept) (λ h reads found. all_keep checks old ((asked checks old.own r h, found) ∷ []) o q reply kept)

  whole_pdus : (o : List ℕ) → (more : List (List ℕ)) × (taken_of new o ≡ taken_of old o ++ more)
  whole_pdus o =
      of_whole (λ a n f. (more : List (List ℕ)) × (taken_of n o ≡ taken_of old o ++ more)) (λ refusal. ([], sym (append-nil (taken_of old o))))
      (λ h reads found. all_grow checks (λ (l : LogState). l.pdus) (λ l rooms txn t. ((taking_of checks rooms t).pdus, refl)) old ((asked checks old.own r h, found) ∷ []) o)

  whole_edus : (o : List ℕ) → (more : List (List ℕ)) × (taken_edus_of new o ≡ taken_edus_of old o ++ more)
  whole_edus o =
      of_whole (λ a n f. (more : List (List ℕ)) × (taken_edus_of n o ≡ taken_edus_of old o ++ more)) (λ refusal. ([], sym (append-nil (taken_edus_of old o))))
      (λ h reads found. all_grow checks (λ (l : LogState). l.edus) (λ l rooms txn t. ((taking_of checks rooms t).edus, refl)) old ((asked checks old.own r h, found) ∷ []) o)

  whole_for_rooms : All (IsForRooms checks old.rooms) fresh
  whole_for_rooms = of_whole (λ a n f. All (IsForRooms checks old.rooms) f) (λ refusal. All-nil (IsForRooms checks old.rooms)) (λ h reads found. one_for_rooms checks old (asked checks old.own r h) found)

  -- ---- a 200

  pub whole_ok_is_read : answer.status ≡ 200 → (h : Heading) × IsReadAs old.own r (Ok h)
  whole_ok_is_read = of_whole (λ a n f. a.status ≡ 200 → (h : Heading) × IsReadAs old.own r (Ok h)) (λ refusal ok. absurd (not_refused refusal ok)) (λ h reads found ok. (h, reads))

  whole_ok_is_kept : (h : Heading) → IsReadAs old.own r (Ok h) → answer.status ≡ 200 → kept_reply new h.header.origin h.txn ≡ Some answer.body
  whole_ok_is_kept h reads =
      of_read h reads (λ a n f. a.status ≡ 200 → kept_reply n h.header.origin h.txn ≡ Some a.body) (λ found ok. ok_is_kept checks old (asked checks old.own r h) found ok)

  first_of_takes : (h : Heading) (found : Bool) → let q = asked checks old.own r h in Takes checks old q found
      → IsFirst checks old h.header.origin r.body (marked_answer checks old q found) (marked_after checks old q found) (marked_fresh checks old q found)
  first_of_takes h found takes = record { transaction = takes.transaction; body = takes.body; answer = takes.answer; pdus = takes.pdus; edus = takes.edus; rooms = takes.fresh }

  pub whole_first : (h : Heading) → IsReadAs old.own r (Ok h) → answer.status ≡ 200 → kept_reply old h.header.origin h.txn ≡ None → IsFirst checks old h.header.origin r.body answer new fresh
  whole_first h reads =
      of_read h reads (λ a n f. a.status ≡ 200 → kept_reply old h.header.origin h.txn ≡ None → IsFirst checks old h.header.origin r.body a n f)
      (λ found ok none. first_of_takes h found (first_takes checks old (asked checks old.own r h) found ok none))

  -- a reply that is kept from this request on is its answer
  whole_newly : (o q reply : List ℕ) → kept_reply old o q ≡ None → kept_reply new o q ≡ Some reply
      → (h : Heading) × IsReadAs old.own r (Ok h) × (h.header.origin ≡ o) × (h.txn ≡ q) × (answer ≡ accepted reply)
  whole_newly o q reply none =
      of_whole (λ a n f. kept_reply n o q ≡ Some reply → (h : Heading) × IsReadAs old.own r (Ok h) × (h.header.origin ≡ o) × (h.txn ≡ q) × (a ≡ accepted reply))
      (λ refusal kept. absurd (not_both (kept_reply old o q) reply none kept))
      (λ h reads found kept. let (origin_is, txn_is, answer_is) = newly_kept checks old (asked checks old.own r h) found o q reply none kept in (h, reads, origin_is, txn_is, answer_is))

  -- ---- what changes nothing

  pub whole_refused_stays : answer.status ≢ 200 → (new ≡ old) × (fresh ≡ [])
  whole_refused_stays =
      of_whole (λ a n f. a.status ≢ 200 → (n ≡ old) × (f ≡ [])) (λ refusal no_ok. (refl, refl)) (λ h reads found no_ok. refused_stays checks old (asked checks old.own r h) found no_ok)

  module _ (h : Heading) (reads : IsReadAs old.own r (Ok h)) (reply : List ℕ) (kept : kept_reply old h.header.origin h.txn ≡ Some reply) where
    pub whole_repeats : IsRepeatAnswer reply answer
    whole_repeats = of_read h reads (λ a n f. IsRepeatAnswer reply a) (λ found. repeats checks old (asked checks old.own r h) found reply kept)

    pub whole_repeat_stays : (new ≡ old) × (fresh ≡ [])
    whole_repeat_stays = of_read h reads (λ a n f. (n ≡ old) × (f ≡ [])) (λ found. repeat_stays checks old (asked checks old.own r h) found reply kept)

  -- ---- other origins, and the events of one request

  pub whole_apart : (h : Heading) → IsReadAs old.own r (Ok h) → (other : List ℕ) → other ≢ h.header.origin → log_at other new.logs ≡ log_at other old.logs
  whole_apart h reads other apart = of_read h reads (λ a n f. log_at other n.logs ≡ log_at other old.logs) (λ found. other_stays checks old (asked checks old.own r h) found other apart)

  pub whole_few : length fresh ≤ 50
  whole_few = of_whole (λ a n f. length f ≤ 50) (λ refusal. omega arith) (λ h reads found. few_for_rooms checks old (asked checks old.own r h) found)

  pub whole_ids_apart : AllPairs (λ one other. event_id_of one.event ≢ event_id_of other.event) fresh
  whole_ids_apart =
      of_whole (λ a n f. AllPairs (λ one other. event_id_of one.event ≢ event_id_of other.event) f) (λ refusal. λ i j d lt within. absurd (omega arith))
      (λ h reads found. one_apart checks old (asked checks old.own r h) found)

-- ---- many requests

module _ (checks : Checks) where
  pub joined_histories : (begin now end : InboxState) (points later : List Point) → IsHistory checks begin points now → IsHistory checks now later end → IsHistory checks begin (points ++ later) end
  joined_histories begin now _ points _ first begun = subst (λ ps. IsHistory checks begin ps now) (sym (append-nil points)) first
  joined_histories begin now _ points _ first (one_more later old point new h is) =
      subst (λ ps. IsHistory checks begin ps new) (append_assoc points later (point ∷ []))
      (one_more (points ++ later) old point new (joined_histories begin now old points later first h) is)

  pub histories_own : (begin end : InboxState) (points : List Point) → IsHistory checks begin points end → end.own ≡ begin.own
  histories_own begin _ _ begun = refl
  histories_own begin _ _ (one_more points old point new h is) = whole_own checks old point.request point.reply new point.fresh is ∙ histories_own begin old points h

  pub histories_rooms : (begin end : InboxState) (points : List Point) → IsHistory checks begin points end → end.rooms ≡ begin.rooms
  histories_rooms begin _ _ begun = refl
  histories_rooms begin _ _ (one_more points old point new h is) = whole_rooms checks old point.request point.reply new point.fresh is ∙ histories_rooms begin old points h

  pub histories_keep : (begin end : InboxState) (points : List Point) (o q reply : List ℕ) → IsHistory checks begin points end → kept_reply begin o q ≡ Some reply → kept_reply end o q ≡ Some reply
  histories_keep begin _ _ o q reply begun kept = kept
  histories_keep begin _ _ o q reply (one_more points old point new h is) kept =
      whole_keeps checks old point.request point.reply new point.fresh is o q reply (histories_keep begin old points o q reply h kept)

  -- one request's gain behind that of those before it
  joined_gain : (a b d first more : List (List ℕ)) → b ≡ a ++ first → d ≡ b ++ more → d ≡ a ++ (first ++ more)
  joined_gain a b d first more e f = f ∙ ap (λ t. t ++ more) e ∙ append_assoc a first more

  pub histories_pdus : (begin end : InboxState) (points : List Point) (o : List ℕ) → IsHistory checks begin points end → (more : List (List ℕ)) × (taken_of end o ≡ taken_of begin o ++ more)
  histories_pdus begin _ _ o begun = ([], sym (append-nil (taken_of begin o)))
  histories_pdus begin _ _ o (one_more points old point new h is) =
      let first = histories_pdus begin old points o h in
      let last = whole_pdus checks old point.request point.reply new point.fresh is o in
      (first.0 ++ last.0, joined_gain (taken_of begin o) (taken_of old o) (taken_of new o) first.0 last.0 first.1 last.1)

  pub histories_edus : (begin end : InboxState) (points : List Point) (o : List ℕ) → IsHistory checks begin points end → (more : List (List ℕ)) × (taken_edus_of end o ≡ taken_edus_of begin o ++ more)
  histories_edus begin _ _ o begun = ([], sym (append-nil (taken_edus_of begin o)))
  histories_edus begin _ _ o (one_more points old point new h is) =
      let first = histories_edus begin old points o h in
      let last = whole_edus checks old point.request point.reply new point.fresh is o in
      (first.0 ++ last.0, joined_gain (taken_edus_of begin o) (taken_edus_of old o) (taken_edus_of new o) first.0 last.0 first.1 last.1)

  pub histories_bring : (begin end : InboxState) (points : List Point) → IsHistory checks begin points end → All (IsForRooms checks begin.rooms) (brought points)
  histories_bring begin _ _ begun = All-nil (IsForRooms checks begin.rooms)
  histories_bring begin _ _ (one_more points old point new h is) =
      let P = IsForRooms checks begin.rooms in
      let mine : All P point.fresh = subst (λ rooms. All (IsForRooms checks rooms) point.fresh) (histories_rooms begin old points h) (whole_for_rooms checks old point.request point.reply new point.fresh is) in
      let whole : brought (points ++ point ∷ []) ≡ brought points ++ point.fresh = flat_map-append (λ (p : Point). p.fresh) points (point ∷ []) ∙ ap (λ l. brought points ++ l) (append-nil point.fresh) in
      subst (All P) (sym whole) (All-append P (brought points) point.fresh (histories_bring begin old points h) mine)

  -- ---- one of them

  nothing_among : (point : Point) → Contains {X = Point} [] point → ⊥
  nothing_among point (k, within, same) = absurd (omega (arith, within))

  pub placed : (begin end : InboxState) (points : List Point) (point : Point) → IsHistory checks begin points end → Contains points point → IsAmong checks begin points end point
  placed begin _ _ point begun among = absurd (nothing_among point among)
  placed begin _ _ point (one_more points old p new h is) among = by (Contains-push_cases points p point among) (placed begin old points point h)
    where
      by : Contains points point ⊎ (p ≡ point) → (Contains points point → IsAmong checks begin points old point) → IsAmong checks begin (points ++ p ∷ []) new point
      by (inl earlier) rest =
          let found = rest earlier in
          record {
            earlier = found.earlier;
            later = found.later ++ p ∷ [];
            old = found.old;
            new = found.new;
            among = ap (λ ps. ps ++ p ∷ []) found.among ∙ append_assoc found.earlier (point ∷ found.later) (p ∷ []);
            before = found.before;
            here = found.here;
            after = one_more found.later old p new found.after is;
          }
      by (inr same) rest = record {
        earlier = points;
        later = [];
        old = old;
        new = new;
        among = ap (λ x. points ++ x ∷ []) same;
        before = h;
        here = subst (λ (x : Point). IsAnsweredWhole checks old x.request x.reply new x.fresh) same is;
        after = begun;
      }

  module _ (begin end : InboxState) (points : List Point) (point : Point) (history : IsHistory checks begin points end) (among : Contains points point) where
    found : IsAmong checks begin points end point
    found = placed begin end points point history among

    same_own : found.old.own ≡ begin.own
    same_own = histories_own begin found.old found.earlier found.before

    read_there : (h : Heading) → IsReadAs begin.own point.request (Ok h) → IsReadAs found.old.own point.request (Ok h)
    read_there h reads = subst (λ own. IsReadAs own point.request (Ok h)) (sym same_own) reads

    pub ok_was_read : point.reply.status ≡ 200 → (h : Heading) × IsReadAs begin.own point.request (Ok h)
    ok_was_read ok =
        let (h, reads) = whole_ok_is_read checks found.old point.request point.reply found.new point.fresh found.here ok in
        (h, subst (λ own. IsReadAs own point.request (Ok h)) same_own reads)

    module _ (h : Heading) (reads : IsReadAs begin.own point.request (Ok h)) where
      pub ok_stays_kept : point.reply.status ≡ 200 → kept_reply end h.header.origin h.txn ≡ Some point.reply.body
      ok_stays_kept ok =
          histories_keep found.new end found.later h.header.origin h.txn point.reply.body found.after
          (whole_ok_is_kept checks found.old point.request point.reply found.new point.fresh found.here h (read_there h reads) ok)

      module _ (reply : List ℕ) (kept : kept_reply begin h.header.origin h.txn ≡ Some reply) where
        kept_there : kept_reply found.old h.header.origin h.txn ≡ Some reply
        kept_there = histories_keep begin found.old found.earlier h.header.origin h.txn reply found.before kept

        pub later_repeats : IsRepeatAnswer reply point.reply
        later_repeats = whole_repeats checks found.old point.request point.reply found.new point.fresh found.here h (read_there h reads) reply kept_there

        pub later_brings_nothing : point.fresh ≡ []
        later_brings_nothing = (whole_repeat_stays checks found.old point.request point.reply found.new point.fresh found.here h (read_there h reads) reply kept_there).1

  -- ---- where a kept reply comes from

  pub histories_answered : (begin end : InboxState) (points : List Point) (o q reply : List ℕ) → IsHistory checks begin points end → kept_reply begin o q ≡ None → kept_reply end o q ≡ Some reply
      → WasAnsweredWhole begin.own points o q (accepted reply)
  histories_answered begin _ _ o q reply begun none kept = absurd (not_both (kept_reply begin o q) reply none kept)
  histories_answered begin _ _ o q reply (one_more points old point new h is) none kept = by (kept_reply old o q) refl (λ already. histories_answered begin old points o q reply h none already)
    where
      by : (k : Option (List ℕ)) → kept_reply old o q ≡ k → (kept_reply old o q ≡ Some reply → WasAnsweredWhole begin.own points o q (accepted reply))
          → WasAnsweredWhole begin.own (points ++ point ∷ []) o q (accepted reply)
      by None still rest =
          let mine = whole_newly checks old point.request point.reply new point.fresh is o q reply still kept in
          record {
            point = point;
            among = Contains-push points point;
            heading = mine.0;
            reads = subst (λ own. IsReadAs own point.request (Ok mine.0)) (histories_own begin old points h) mine.1;
            origin_is = mine.2;
            txn_is = mine.3;
            answer_is = mine.4;
          }
      by (Some mine) already rest =
          let same = one_reply mine reply (sym (whole_keeps checks old point.request point.reply new point.fresh is o q mine already) ∙ kept) in
          let found = rest (already ∙ ap Some same) in
          record {
            point = found.point;
            among = Contains-append_left points (point ∷ []) found.point found.among;
            heading = found.heading;
            reads = found.reads;
            origin_is = found.origin_is;
            txn_is = found.txn_is;
            answer_is = found.answer_is;
          }
