-- What is so, at all times, of the transactions from one server to another: of what was settled and what is unanswered, of what the receiver took,
-- and of the requests and answers on their way.
use Rattle.std.proofs.Common.{◌≡◌, ◌≢◌, ℕ, zero, suc, ◌+◌, ◌≤◌, ◌<◌, ◌^◌, nat_lt, if◌then◌else◌, List, [], ◌∷◌, ◌++◌, map, length, codes, decimal, Option, Some, None, refl, sym, ap, subst, ◌∙◌, ◌⊎◌, inl, inr, arith}
use Rattle.std.specs.Prelude.{slice_get, filter}
use Rattle.std.proofs.lemmas.Bool.{lt-ltb, cases_lt, cases_eq, le-ltb}
use Rattle.std.proofs.lemmas.Fmt.{decimal_injective}
use Rattle.std.proofs.lemmas.List.{append-nil, map-append, length-map}
use Rattle.std.specs.FinMap as finite
use Rattle.serde_json.specs.Data.{Data}
use Rattle.fed_keys.specs.StandIn.{stand_in_key, stand_in_signature, stand_in_checks}
use Rattle.fed_json.specs.CanonicalText.{canonical_text}
use Rattle.fed_event.specs.Checked.{CheckedEvent}
use Rattle.fed_outbox.specs.Transaction.{TransactionValue}
use Rattle.fed_txn.specs.Writing.{event_of, received, IsWithinLimits}
use Rattle.fed_inbox.specs.declared.refusal.Refusal.TheVariants.{OutOfMemory}
use Rattle.fed_inbox.specs.Reply.{Answer, accepted, refused}
use Rattle.fed_inbox.specs.Log.{LogState}
use Rattle.fed_journal.specs.Edu.{is_edu}
use Rattle.fed_inbox.specs.Taking.{Taking, taking_of}
use Rattle.fed_inbox.specs.Answer.{with_taking}
use Rattle.fed_inbox.proofs.Runs.{get-insert_same, get-insert_other}
use Rattle.fed_exchange.specs.Messages.{asked_of, bytes_sent, IsReadable}
use Rattle.fed_sim.specs.Packets.{packet_at}
use Rattle.fed_sim.specs.World.{PacketState, request, answer}
use Rattle.fed_sim.proofs.Ids.{txn_id}
use Rattle.fed_sim.proofs.ReplySizes.{reply_fits}

-- ---- the parts

-- what is settled of what was sent, what is unanswered, and the number of the newest transaction
pub record SentState : Type 0 where
  pub settled : List CheckedEvent
  pub settled_edus : List Data
  pub unanswered : Option TransactionValue
  pub last : ℕ

abbrev pub texts : List CheckedEvent → List (List ℕ)
texts events = map canonical_text (map event_of events)

-- the reply that is kept for transaction n
abbrev pub kept_for : LogState → ℕ → ℕ → Option (List ℕ)
kept_for log epoch n = if nat_lt n (2 ^ 64) then finite.get log.replies (txn_id epoch n) else None

-- what was taken of a transaction, by the reply that is kept for it
abbrev pub by_reply : {A : Type 0} → Option (List ℕ) → List A → List A
by_reply None xs = []
by_reply (Some reply) xs = xs

abbrev pub landed : LogState → ℕ → Option TransactionValue → List CheckedEvent
landed log epoch None = []
landed log epoch (Some t) = by_reply (kept_for log epoch t.number) t.pdus

abbrev pub landed_edus : LogState → ℕ → Option TransactionValue → List Data
landed_edus log epoch None = []
landed_edus log epoch (Some t) = by_reply (kept_for log epoch t.number) t.edus

-- a transaction that its receiver can read and take whole
pub record IsTakable (t : TransactionValue) : Type 0 where
  pub limits : IsWithinLimits t
  pub edus : filter is_edu t.edus ≡ t.edus

-- a transaction that has this request was answered, or is the unanswered one
pub record IsRequestOf (name other : List ℕ) (epoch : ℕ) (sent : SentState) (log : LogState) (n : ℕ) (bytes : List ℕ) : Type 0 where
  pub t : TransactionValue
  pub number_is : t.number ≡ n
  pub bytes_are : bytes ≡ bytes_sent (asked_of name other epoch t) stand_in_key (stand_in_signature name)
  pub readable : IsReadable name epoch t
  pub takable : IsTakable t
  pub alive : ((reply : List ℕ) × (kept_for log epoch n ≡ Some reply)) ⊎ (sent.unanswered ≡ Some t)

abbrev pub IsAnswerOf : Option (List ℕ) → Answer → Type 0
IsAnswerOf kept reply = (reply ≡ refused OutOfMemory) ⊎ ((body : List ℕ) × (reply ≡ accepted body) × (kept ≡ Some body))

pub record Lands (o d epoch : ℕ) (name other : List ℕ) (sent : SentState) (log : LogState) (packets : List PacketState) : Type 0 where
  pub pdus : log.pdus ≡ texts (sent.settled ++ landed log epoch sent.unanswered)
  pub edus : log.edus ≡ map canonical_text (sent.settled_edus ++ landed_edus log epoch sent.unanswered)
  pub newest : (t : TransactionValue) → sent.unanswered ≡ Some t → (t.number ≡ sent.last) × IsTakable t
  pub range : (n : ℕ) (reply : List ℕ) → kept_for log epoch n ≡ Some reply → n ≤ sent.last
  -- a reply that is kept fits into a message
  pub short : (n : ℕ) (reply : List ℕ) → kept_for log epoch n ≡ Some reply → length reply ≤ 16777216
  pub requests : (k n : ℕ) (bytes : List ℕ) → packet_at packets k ≡ Some (request o d n bytes) → IsRequestOf name other epoch sent log n bytes
  pub answers : (k n : ℕ) (reply : Answer) → packet_at packets k ≡ Some (answer o d n reply) → IsAnswerOf (kept_for log epoch n) reply
  pub replied : (n : ℕ) (body : List ℕ) → kept_for log epoch n ≡ Some body → (k : ℕ) × (packet_at packets k ≡ Some (answer o d n (accepted body)))

-- ---- one packet more

pub same_some : {A : Type 0} (a b : A) → Some a ≡ Some b → a ≡ b
same_some a b e = cc

pub not_none : {A : Type 0} (a : A) → ◌≡◌ {A = Option A} None (Some a) → ⊥
not_none a e = absurd (cc)

-- a packet of the longer list is one of the shorter list, or the last
pub last_or_before : (packets : List PacketState) (new : PacketState) (k : ℕ) (p : PacketState) → packet_at (packets ++ new ∷ []) k ≡ Some p → (packet_at packets k ≡ Some p) ⊎ (new ≡ p)
last_or_before packets new zero p e = absurd (not_none p e)
last_or_before [] new (suc zero) p e = inr (same_some new p e)
last_or_before [] new (suc (suc k)) p e = absurd (not_none p e)
last_or_before (q ∷ packets) new (suc zero) p e = inl e
last_or_before (q ∷ packets) new (suc (suc k)) p e = last_or_before packets new (suc k) p e

pub still_there : (packets : List PacketState) (new : PacketState) (k : ℕ) (p : PacketState) → packet_at packets k ≡ Some p → packet_at (packets ++ new ∷ []) k ≡ Some p
still_there packets new zero p e = absurd (not_none p e)
still_there [] new (suc k) p e = absurd (not_none p e)
still_there (q ∷ packets) new (suc zero) p e = e
still_there (q ∷ packets) new (suc (suc k)) p e = still_there packets new (suc k) p e

pub at_the_end : (packets : List PacketState) (new : PacketState) → packet_at (packets ++ new ∷ []) (length packets + 1) ≡ Some new
at_the_end packets new = ap (packet_at (packets ++ new ∷ [])) (one_more (length packets)) ∙ there packets
  where
    one_more : (n : ℕ) → n + 1 ≡ suc n
    one_more n = omega arith

    there : (xs : List PacketState) → slice_get (xs ++ new ∷ []) (length xs) ≡ Some new
    there [] = refl
    there (x ∷ xs) = there xs

-- ---- packets

-- a packet between other servers
pub record IsForeign (o d : ℕ) (p : PacketState) : Type 0 where
  pub no_request : (n : ℕ) (bytes : List ℕ) → p ≢ request o d n bytes
  pub no_answer : (n : ℕ) (reply : Answer) → p ≢ answer o d n reply

same_request : (o d m n : ℕ) (a b : List ℕ) → request o d m a ≡ request o d n b → (m ≡ n) × (a ≡ b)
same_request o d m n a b e = (cc, cc)

same_answer : (o d m n : ℕ) (a b : Answer) → answer o d m a ≡ answer o d n b → (m ≡ n) × (a ≡ b)
same_answer o d m n a b e = (cc, cc)

apart : (o d m n : ℕ) (bytes : List ℕ) (reply : Answer) → request o d m bytes ≡ answer o d n reply → ⊥
apart o d m n bytes reply e = absurd (cc)

module _ (o d epoch : ℕ) (name other : List ℕ) where
  pub lands_other : (sent : SentState) (log : LogState) (packets : List PacketState) (p : PacketState) → IsForeign o d p → Lands o d epoch name other sent log packets
      → Lands o d epoch name other sent log (packets ++ p ∷ [])
  lands_other sent log packets p foreign h = record {
    pdus = h.pdus;
    edus = h.edus;
    newest = h.newest;
    range = h.range;
    short = h.short;
    requests = λ k n bytes e. by_request k n bytes (last_or_before packets p k (request o d n bytes) e);
    answers = λ k n reply e. by_answer k n reply (last_or_before packets p k (answer o d n reply) e);
    replied = λ n body e. let there = h.replied n body e in (there.0, still_there packets p there.0 (answer o d n (accepted body)) there.1);
  }
    where
      by_request : (k n : ℕ) (bytes : List ℕ) → (packet_at packets k ≡ Some (request o d n bytes)) ⊎ (p ≡ request o d n bytes) → IsRequestOf name other epoch sent log n bytes
      by_request k n bytes (inl before) = h.requests k n bytes before
      by_request k n bytes (inr last) = absurd (foreign.no_request n bytes last)

      by_answer : (k n : ℕ) (reply : Answer) → (packet_at packets k ≡ Some (answer o d n reply)) ⊎ (p ≡ answer o d n reply) → IsAnswerOf (kept_for log epoch n) reply
      by_answer k n reply (inl before) = h.answers k n reply before
      by_answer k n reply (inr last) = absurd (foreign.no_answer n reply last)

  -- a request is posted
  pub lands_posted : (sent : SentState) (log : LogState) (packets : List PacketState) (m : ℕ) (posted : List ℕ) → IsRequestOf name other epoch sent log m posted → Lands o d epoch name other sent log packets
      → Lands o d epoch name other sent log (packets ++ request o d m posted ∷ [])
  lands_posted sent log packets m posted is h = record {
    pdus = h.pdus;
    edus = h.edus;
    newest = h.newest;
    range = h.range;
    short = h.short;
    requests = λ k n bytes e. by_request k n bytes (last_or_before packets (request o d m posted) k (request o d n bytes) e);
    answers = λ k n reply e. by_answer k n reply (last_or_before packets (request o d m posted) k (answer o d n reply) e);
    replied = λ n body e. let there = h.replied n body e in (there.0, still_there packets (request o d m posted) there.0 (answer o d n (accepted body)) there.1);
  }
    where
      by_request : (k n : ℕ) (bytes : List ℕ) → (packet_at packets k ≡ Some (request o d n bytes)) ⊎ (request o d m posted ≡ request o d n bytes) → IsRequestOf name other epoch sent log n bytes
      by_request k n bytes (inl before) = h.requests k n bytes before
      by_request k n bytes (inr last) =
          let same = same_request o d m n posted bytes last in
          subst (λ x. IsRequestOf name other epoch sent log x bytes) same.0 (subst (λ x. IsRequestOf name other epoch sent log m x) same.1 is)

      by_answer : (k n : ℕ) (reply : Answer) → (packet_at packets k ≡ Some (answer o d n reply)) ⊎ (request o d m posted ≡ answer o d n reply) → IsAnswerOf (kept_for log epoch n) reply
      by_answer k n reply (inl before) = h.answers k n reply before
      by_answer k n reply (inr last) = absurd (apart o d m n posted reply last)

  -- a request is answered, and nothing is taken
  pub lands_answered : (sent : SentState) (log : LogState) (packets : List PacketState) (m : ℕ) (given : Answer) → IsAnswerOf (kept_for log epoch m) given → Lands o d epoch name other sent log packets
      → Lands o d epoch name other sent log (packets ++ answer o d m given ∷ [])
  lands_answered sent log packets m given is h = record {
    pdus = h.pdus;
    edus = h.edus;
    newest = h.newest;
    range = h.range;
    short = h.short;
    requests = λ k n bytes e. by_request k n bytes (last_or_before packets (answer o d m given) k (request o d n bytes) e);
    answers = λ k n reply e. by_answer k n reply (last_or_before packets (answer o d m given) k (answer o d n reply) e);
    replied = λ n body e. let there = h.replied n body e in (there.0, still_there packets (answer o d m given) there.0 (answer o d n (accepted body)) there.1);
  }
    where
      by_request : (k n : ℕ) (bytes : List ℕ) → (packet_at packets k ≡ Some (request o d n bytes)) ⊎ (answer o d m given ≡ request o d n bytes) → IsRequestOf name other epoch sent log n bytes
      by_request k n bytes (inl before) = h.requests k n bytes before
      by_request k n bytes (inr last) = absurd (apart o d n m bytes given (sym last))

      by_answer : (k n : ℕ) (reply : Answer) → (packet_at packets k ≡ Some (answer o d n reply)) ⊎ (answer o d m given ≡ answer o d n reply) → IsAnswerOf (kept_for log epoch n) reply
      by_answer k n reply (inl before) = h.answers k n reply before
      by_answer k n reply (inr last) =
          let same = same_answer o d m n given reply last in
          subst (λ x. IsAnswerOf (kept_for log epoch x) reply) same.0 (subst (IsAnswerOf (kept_for log epoch m)) same.1 is)

  -- ---- a transaction is made, or settled

  pub lands_cut : (settled : List CheckedEvent) (settled_edus : List Data) (last : ℕ) (log : LogState) (packets : List PacketState) (t : TransactionValue) → t.number ≡ last + 1 → IsTakable t
      → Lands o d epoch name other (record { settled = settled; settled_edus = settled_edus; unanswered = None; last = last }) log packets
      → Lands o d epoch name other (record { settled = settled; settled_edus = settled_edus; unanswered = Some t; last = last + 1 }) log packets
  lands_cut settled settled_edus last log packets t number takable h = record {
    pdus = h.pdus ∙ ap (λ (r : Option (List ℕ)). texts (settled ++ by_reply r t.pdus)) (sym none);
    edus = h.edus ∙ ap (λ (r : Option (List ℕ)). map canonical_text (settled_edus ++ by_reply r t.edus)) (sym none);
    newest = λ u e. let same : t ≡ u = same_some t u e in (ap (λ (v : TransactionValue). v.number) (sym same) ∙ number, subst IsTakable same takable);
    range = λ n reply e. let below = h.range n reply e in omega (arith, below);
    short = h.short;
    requests = λ k n bytes e. again n bytes (h.requests k n bytes e);
    answers = h.answers;
    replied = h.replied;
  }
    where
      fresh : (o : Option (List ℕ)) → kept_for log epoch t.number ≡ o → o ≡ None
      fresh None e = refl
      fresh (Some reply) e = absurd (let below = h.range t.number reply e in omega (arith, below, number))

      none : kept_for log epoch t.number ≡ None
      none = fresh (kept_for log epoch t.number) refl

      again : (n : ℕ) (bytes : List ℕ) → IsRequestOf name other epoch (record { settled = settled; settled_edus = settled_edus; unanswered = None; last = last }) log n bytes
          → IsRequestOf name other epoch (record { settled = settled; settled_edus = settled_edus; unanswered = Some t; last = last + 1 }) log n bytes
      again n bytes is = record { t = is.t; number_is = is.number_is; bytes_are = is.bytes_are; readable = is.readable; takable = is.takable; alive = alive is.alive }
        where
          alive : ((reply : List ℕ) × (kept_for log epoch n ≡ Some reply)) ⊎ (None ≡ Some is.t) → ((reply : List ℕ) × (kept_for log epoch n ≡ Some reply)) ⊎ (Some t ≡ Some is.t)
          alive (inl kept) = inl kept
          alive (inr e) = absurd (not_none is.t e)

  pub lands_settled : (settled : List CheckedEvent) (settled_edus : List Data) (last : ℕ) (log : LogState) (packets : List PacketState) (t : TransactionValue) (reply : List ℕ)
      → kept_for log epoch t.number ≡ Some reply
      → Lands o d epoch name other (record { settled = settled; settled_edus = settled_edus; unanswered = Some t; last = last }) log packets
      → Lands o d epoch name other (record { settled = settled ++ t.pdus; settled_edus = settled_edus ++ t.edus; unanswered = None; last = last }) log packets
  lands_settled settled settled_edus last log packets t reply kept h = record {
    pdus = h.pdus ∙ ap (λ (r : Option (List ℕ)). texts (settled ++ by_reply r t.pdus)) kept ∙ ap texts (sym (append-nil (settled ++ t.pdus)));
    edus = h.edus ∙ ap (λ (r : Option (List ℕ)). map canonical_text (settled_edus ++ by_reply r t.edus)) kept ∙ ap (map canonical_text) (sym (append-nil (settled_edus ++ t.edus)));
    newest = λ u e. absurd (not_none u e);
    range = h.range;
    short = h.short;
    requests = λ k n bytes e. again n bytes (h.requests k n bytes e);
    answers = h.answers;
    replied = h.replied;
  }
    where
      again : (n : ℕ) (bytes : List ℕ) → IsRequestOf name other epoch (record { settled = settled; settled_edus = settled_edus; unanswered = Some t; last = last }) log n bytes
          → IsRequestOf name other epoch (record { settled = settled ++ t.pdus; settled_edus = settled_edus ++ t.edus; unanswered = None; last = last }) log n bytes
      again n bytes is = record { t = is.t; number_is = is.number_is; bytes_are = is.bytes_are; readable = is.readable; takable = is.takable; alive = alive is.alive }
        where
          alive : ((given : List ℕ) × (kept_for log epoch n ≡ Some given)) ⊎ (Some t ≡ Some is.t) → ((given : List ℕ) × (kept_for log epoch n ≡ Some given)) ⊎ (None ≡ Some is.t)
          alive (inl given) = inl given
          alive (inr e) = inl (reply, ap (kept_for log epoch) (sym is.number_is ∙ ap (λ (v : TransactionValue). v.number) (sym (same_some t is.t e))) ∙ kept)

-- ---- a transaction is taken

cut_front : (a b c : List ℕ) → a ++ b ≡ a ++ c → b ≡ c
cut_front [] b c e = e
cut_front (x ∷ a) b c e = cut_front a b c (tail (a ++ b) (a ++ c) e)
  where
    tail : (s t : List ℕ) → x ∷ s ≡ x ∷ t → s ≡ t
    tail s t h = cc

same_id : (epoch m n : ℕ) → m < 2 ^ 64 → n < 2 ^ 64 → txn_id epoch m ≡ txn_id epoch n → m ≡ n
same_id epoch m n h k e = decimal_injective m n h k (cut_front (codes "-") (decimal m) (decimal n) (cut_front (decimal epoch) (codes "-" ++ decimal m) (codes "-" ++ decimal n) e))

kept_now : (log : LogState) (epoch n : ℕ) (taking : Taking) → n < 2 ^ 64 → kept_for (with_taking log (txn_id epoch n) taking) epoch n ≡ Some taking.reply
kept_now log epoch n taking fits = rw (lt-ltb n (2 ^ 64) fits) (get-insert_same log.replies (txn_id epoch n) taking.reply)

kept_before : (log : LogState) (epoch n m : ℕ) (taking : Taking) → n < 2 ^ 64 → m ≢ n → kept_for (with_taking log (txn_id epoch n) taking) epoch m ≡ kept_for log epoch m
kept_before log epoch n m taking fits other = by (cases_lt m (2 ^ 64))
  where
    by : (m < 2 ^ 64) ⊎ (2 ^ 64 ≤ m) → kept_for (with_taking log (txn_id epoch n) taking) epoch m ≡ kept_for log epoch m
    by (inl small) = rw (lt-ltb m (2 ^ 64) small) (get-insert_other log.replies (txn_id epoch n) taking.reply (txn_id epoch m) (λ e. other (same_id epoch m n small fits e)))
    by (inr large) = rw (le-ltb m (2 ^ 64) large) refl

module _ (o d epoch : ℕ) (name other : List ℕ) (sent : SentState) (log : LogState) (packets : List PacketState) (rooms : List (List ℕ)) (t : TransactionValue) (takable : IsTakable t) (fits : t.number < 2 ^ 64)
    (none : finite.get log.replies (txn_id epoch t.number) ≡ None) (unanswered : sent.unanswered ≡ Some t) (h : Lands o d epoch name other sent log packets) where
  abbrev taking : Taking
  taking = taking_of stand_in_checks rooms (received name t)

  abbrev pub log_then : LogState
  log_then = with_taking log (txn_id epoch t.number) taking

  abbrev given : PacketState
  given = answer o d t.number (accepted taking.reply)

  kept_none : kept_for log epoch t.number ≡ None
  kept_none = rw (lt-ltb t.number (2 ^ 64) fits) none

  here_or_not : (n : ℕ) → (n ≡ t.number) ⊎ (n ≢ t.number)
  here_or_not n = cases_eq n t.number

  more_landed : landed log epoch sent.unanswered ≡ []
  more_landed = ap (landed log epoch) unanswered ∙ ap (λ (r : Option (List ℕ)). by_reply r t.pdus) kept_none

  more_edus_landed : landed_edus log epoch sent.unanswered ≡ []
  more_edus_landed = ap (landed_edus log epoch) unanswered ∙ ap (λ (r : Option (List ℕ)). by_reply r t.edus) kept_none

  all_landed : landed log_then epoch sent.unanswered ≡ t.pdus
  all_landed = ap (landed log_then epoch) unanswered ∙ ap (λ (r : Option (List ℕ)). by_reply r t.pdus) (kept_now log epoch t.number taking fits)

  all_edus_landed : landed_edus log_then epoch sent.unanswered ≡ t.edus
  all_edus_landed = ap (landed_edus log_then epoch) unanswered ∙ ap (λ (r : Option (List ℕ)). by_reply r t.edus) (kept_now log epoch t.number taking fits)

  texts_joined : (xs ys : List CheckedEvent) → texts xs ++ texts ys ≡ texts (xs ++ ys)
  texts_joined xs ys = sym (ap (map canonical_text) (map-append event_of xs ys) ∙ map-append canonical_text (map event_of xs) (map event_of ys))

  still_kept : (n : ℕ) (body : List ℕ) → kept_for log epoch n ≡ Some body → kept_for log_then epoch n ≡ Some body
  still_kept n body kept = by (here_or_not n)
    where
      by : (n ≡ t.number) ⊎ (n ≢ t.number) → kept_for log_then epoch n ≡ Some body
      by (inl same) = absurd (not_none body (sym kept_none ∙ ap (kept_for log epoch) (sym same) ∙ kept))
      by (inr differs) = kept_before log epoch t.number n taking fits differs ∙ kept

  pub lands_taken : Lands o d epoch name other sent log_then (packets ++ given ∷ [])
  lands_taken = record {
    pdus =
        ap (λ taken. taken ++ texts t.pdus) (h.pdus ∙ ap (λ l. texts (sent.settled ++ l)) more_landed ∙ ap texts (append-nil sent.settled))
        ∙ texts_joined sent.settled t.pdus ∙ ap (λ l. texts (sent.settled ++ l)) (sym all_landed);
    edus =
        ap (λ taken. taken ++ map canonical_text (filter is_edu t.edus)) (h.edus ∙ ap (λ l. map canonical_text (sent.settled_edus ++ l)) more_edus_landed ∙ ap (map canonical_text) (append-nil sent.settled_edus))
        ∙ ap (λ l. map canonical_text sent.settled_edus ++ map canonical_text l) takable.edus
        ∙ sym (map-append canonical_text sent.settled_edus t.edus) ∙ ap (λ l. map canonical_text (sent.settled_edus ++ l)) (sym all_edus_landed);
    newest = h.newest;
    range = λ n reply e. in_range n reply e (here_or_not n);
    short = λ n reply e. is_short n reply e (here_or_not n);
    requests = λ k n bytes e. by_request k n bytes (last_or_before packets given k (request o d n bytes) e);
    answers = λ k n reply e. by_answer k n reply (last_or_before packets given k (answer o d n reply) e);
    replied = λ n body e. where_is n body e (here_or_not n);
  }
    where
      in_range : (n : ℕ) (reply : List ℕ) → kept_for log_then epoch n ≡ Some reply → (n ≡ t.number) ⊎ (n ≢ t.number) → n ≤ sent.last
      in_range n reply e (inl same) = let newest = (h.newest t unanswered).0 in omega (arith, same, newest)
      in_range n reply e (inr differs) = h.range n reply (sym (kept_before log epoch t.number n taking fits differs) ∙ e)

      is_short : (n : ℕ) (reply : List ℕ) → kept_for log_then epoch n ≡ Some reply → (n ≡ t.number) ⊎ (n ≢ t.number) → length reply ≤ 16777216
      is_short n reply e (inl same) =
          let few : length (map event_of t.pdus) ≤ 50 = omega (arith, length-map t.pdus event_of, takable.limits.pdus) in
          subst (λ (r : List ℕ). length r ≤ 16777216) (same_some taking.reply reply (sym (kept_now log epoch t.number taking fits) ∙ ap (kept_for log_then epoch) (sym same) ∙ e))
          (reply_fits stand_in_checks rooms (received name t) few)
      is_short n reply e (inr differs) = h.short n reply (sym (kept_before log epoch t.number n taking fits differs) ∙ e)

      alive_then : (n : ℕ) (u : TransactionValue) → ((reply : List ℕ) × (kept_for log epoch n ≡ Some reply)) ⊎ (sent.unanswered ≡ Some u)
          → ((reply : List ℕ) × (kept_for log_then epoch n ≡ Some reply)) ⊎ (sent.unanswered ≡ Some u)
      alive_then n u (inl (reply, kept)) = inl (reply, still_kept n reply kept)
      alive_then n u (inr is) = inr is

      by_request : (k n : ℕ) (bytes : List ℕ) → (packet_at packets k ≡ Some (request o d n bytes)) ⊎ (given ≡ request o d n bytes) → IsRequestOf name other epoch sent log_then n bytes
      by_request k n bytes (inl before) =
          let is = h.requests k n bytes before in
          record { t = is.t; number_is = is.number_is; bytes_are = is.bytes_are; readable = is.readable; takable = is.takable; alive = alive_then n is.t is.alive }
      by_request k n bytes (inr last) = absurd (apart o d n t.number bytes (accepted taking.reply) (sym last))

      answer_then : (n : ℕ) (reply : Answer) → IsAnswerOf (kept_for log epoch n) reply → IsAnswerOf (kept_for log_then epoch n) reply
      answer_then n reply (inl refused) = inl refused
      answer_then n reply (inr (body, is, kept)) = inr (body, is, still_kept n body kept)

      by_answer : (k n : ℕ) (reply : Answer) → (packet_at packets k ≡ Some (answer o d n reply)) ⊎ (given ≡ answer o d n reply) → IsAnswerOf (kept_for log_then epoch n) reply
      by_answer k n reply (inl before) = answer_then n reply (h.answers k n reply before)
      by_answer k n reply (inr last) =
          let same = same_answer o d t.number n (accepted taking.reply) reply last in
          inr (taking.reply, sym same.1, ap (kept_for log_then epoch) (sym same.0) ∙ kept_now log epoch t.number taking fits)

      where_is : (n : ℕ) (body : List ℕ) → kept_for log_then epoch n ≡ Some body → (n ≡ t.number) ⊎ (n ≢ t.number)
          → (k : ℕ) × (packet_at (packets ++ given ∷ []) k ≡ Some (answer o d n (accepted body)))
      where_is n body e (inl same) =
          let one : taking.reply ≡ body = same_some taking.reply body (sym (kept_now log epoch t.number taking fits) ∙ ap (kept_for log_then epoch) (sym same) ∙ e) in
          (length packets + 1, at_the_end packets given ∙ ap Some (λ i. answer o d (sym same i) (accepted (one i))))
      where_is n body e (inr differs) =
          let there = h.replied n body (sym (kept_before log epoch t.number n taking fits differs) ∙ e) in
          (there.0, still_there packets given there.0 (answer o d n (accepted body)) there.1)
