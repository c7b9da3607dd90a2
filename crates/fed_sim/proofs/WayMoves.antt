-- What the steps on the way from one server to another leave of what was so.
use Rattle.std.proofs.Common.{◌≡◌, ℕ, ◌≤◌, ◌==◌, Bool, true, false, not, cond, if◌then◌else◌, List, [], ◌∷◌, ◌++◌, length, take, All, Option, Some, None, refl, sym, ap, subst, ◌∙◌, ◌⊎◌, inl, inr, arith}
use Rattle.std.specs.Prelude.{filter}
use Rattle.std.specs.List.{filter_map, cons_option}
use Rattle.std.proofs.lemmas.Bool.{cases_Bool, eqb-true}
use Rattle.std.proofs.lemmas.List.Elements.{All-nil, All-cons, All-head, All-tail, All-take, All-weaker}
use Rattle.std.proofs.lemmas.List.{length-take}
use Rattle.fed_dest.specs.ServerSet.{is_among}
use Rattle.fed_journal.specs.declared.entry.Entry.TheVariants as entry
use Rattle.fed_journal.specs.Journal.{reaching, edu_for}
use Rattle.fed_outbox.specs.Outbox.{unanswered_pdus, unanswered_edus}
use Rattle.serde_json.specs.Data.{Data, depth}
use Rattle.fed_json.specs.CanonicalText.{canonical_text}
use Rattle.fed_event.specs.Checked.{CheckedEvent}
use Rattle.fed_journal.specs.declared.entry.Entry.{Entry}
use Rattle.fed_journal.specs.declared.parcel.Load.{Load}
use Rattle.fed_journal.specs.declared.parcel.Load.TheVariants.{Event, Edu, End}
use Rattle.fed_journal.specs.declared.parcel.Parcel.{Parcel}
use Rattle.fed_journal.specs.Journal.{parcels, addressed, addressed_edus, edus_of}
use Rattle.fed_journal.specs.Queues.{queue_after}
use Rattle.fed_outbox.specs.Outbox.{OutboxState, accepted, accepted_edus, can_cut, next_transaction, cut, fits, with_load, failed, one_failure_more, has_number, settle, taken}
use Rattle.fed_outbox.specs.Transaction.{TransactionValue}
use Rattle.fed_outbox.specs.Collecting.{Way, collected_of, collected}
use Rattle.fed_outbox.specs.Following.{Follows}
use Rattle.fed_outbox.specs.Runs.{Cut, Failed, Settle, events_of}
use Rattle.fed_outbox.specs.Runs as parcels_in
use Rattle.fed_outbox.proofs.Following.{call_follows}
use Rattle.fed_outbox.proofs.Counts.{none_unanswered, cut_where}
use Rattle.fed_inbox.specs.Log.{LogState}
use Rattle.fed_journal.specs.Edu.{is_edu}
use Rattle.fed_outbox.specs.Answering.{failed_once}
use Rattle.fed_sim.specs.Ways.{with_outbox, collecting, cutting, failing, settling}
use Rattle.fed_sim.specs.World.{PacketState}
use Rattle.fed_sim.proofs.Landing.{SentState, IsTakable, kept_for, Lands, lands_cut, lands_settled}

-- ---- what is known of all ways

pub record Laws : Type 0 where
  pub entered : (d : ℕ) (entries : List Entry) (entry : Entry) (way : Way) → Follows d (parcels entries d) way
      → Follows d (parcels (entries ++ entry ∷ []) d) (record { queue = queue_after entries entry d way.queue; outbox = way.outbox })
  pub collected : (d : ℕ) (entries : List Entry) (way : Way) → Follows d (parcels entries d) way → Follows d (parcels entries d) (collected way)
  pub events : (d : ℕ) (entries : List Entry) (way : Way) → Follows d (parcels entries d) way → addressed entries d ≡ accepted way.outbox ++ events_of way.queue
  pub edus : (d : ℕ) (entries : List Entry) (way : Way) → Follows d (parcels entries d) way → addressed_edus entries d ≡ accepted_edus way.outbox ++ parcels_in.edus_of way.queue

-- an ephemeral data unit that its receiver takes
pub record IsSoundEdu (edu : Data) : Type 0 where
  pub is : is_edu edu ≡ true
  pub levels : depth edu ≤ 100
  pub size : length (canonical_text edu) ≤ 65536

abbrev pub sent_of : OutboxState → SentState
sent_of o = record { settled = o.settled; settled_edus = o.settled_edus; unanswered = o.unanswered; last = o.last }

-- ---- a way, and what its receiver took

pub record IsHeld (o d epoch : ℕ) (name other : List ℕ) (journal : List Entry) (way : Way) (log : LogState) (packets : List PacketState) : Type 0 where
  pub sound : All IsSoundEdu (edus_of journal)
  pub follows : Follows d (parcels journal d) way
  pub lands : Lands o d epoch name other (sent_of way.outbox) log packets

module _ (laws : Laws) (o d epoch : ℕ) (name other : List ℕ) (log : LogState) (packets : List PacketState) where
  pub held_entered : (journal : List Entry) (entry : Entry) (way : Way) → All IsSoundEdu (edus_of (journal ++ entry ∷ [])) → IsHeld o d epoch name other journal way log packets
      → IsHeld o d epoch name other (journal ++ entry ∷ []) (record { queue = queue_after journal entry d way.queue; outbox = way.outbox }) log packets
  held_entered journal entry way sound h = record { sound = sound; follows = laws.entered d journal entry way h.follows; lands = h.lands }

  module _ (journal : List Entry) where
    abbrev Held : Way → Type 0
    Held way = IsHeld o d epoch name other journal way log packets

    -- as much is sent as before
    held_same : (way new : Way) → Follows d (parcels journal d) new → sent_of new.outbox ≡ sent_of way.outbox → Held way → Held new
    held_same way new follows same h = record { sound = h.sound; follows = follows; lands = subst (λ s. Lands o d epoch name other s log packets) (sym same) h.lands }

    -- ---- collecting

    loaded : (outbox : OutboxState) (load : Load) → sent_of (with_load outbox load) ≡ sent_of outbox
    loaded outbox (Event event) = refl
    loaded outbox (Edu edu) = refl
    loaded outbox End = refl

    collected_sends : (queue : List Parcel) (outbox : OutboxState) → sent_of (collected_of queue outbox).outbox ≡ sent_of outbox
    collected_sends [] outbox = refl
    collected_sends (parcel ∷ later) outbox = by (fits outbox parcel.place)
      where
        stays : Way
        stays = record { queue = parcel ∷ later; outbox = outbox }

        moves : Way
        moves = record { queue = later; outbox = with_load outbox parcel.load }

        by : (b : Bool) → sent_of (cond {A = Way} b moves stays).outbox ≡ sent_of outbox
        by true = loaded outbox parcel.load
        by false = refl

    pub held_collected : (way : Way) → Held way → Held (collecting way).1
    held_collected way h = held_same way (collected way) (laws.collected d journal way h.follows) (collected_sends way.queue way.outbox) h

    -- ---- failing

    failed_sends : (outbox : OutboxState) (n now : ℕ) → sent_of (failed outbox n now) ≡ sent_of outbox
    failed_sends outbox n now = by (has_number outbox.unanswered n)
      where
        by : (b : Bool) → sent_of (if b then one_failure_more outbox now else outbox) ≡ sent_of outbox
        by true = refl
        by false = refl

    held_after_failure : (way : Way) (n now : ℕ) → Held way → Held (with_outbox way (failed way.outbox n now))
    held_after_failure way n now h = held_same way (with_outbox way (failed way.outbox n now)) (call_follows d (parcels journal d) way (Failed n now) refl h.follows) (failed_sends way.outbox n now) h

    pub held_failed : (now : ℕ) (way : Way) → Held way → Held (failing now way).1
    held_failed now way h = by way.outbox.unanswered refl
      where
        by : (u : Option TransactionValue) → way.outbox.unanswered ≡ u → Held (with_outbox way (failed_once way.outbox now))
        by None e = subst (λ x. Held (with_outbox way x)) (sym (same e)) h
          where
            same : way.outbox.unanswered ≡ None → failed_once way.outbox now ≡ way.outbox
            same is = rw is refl
        by (Some t) e = subst (λ x. Held (with_outbox way x)) (sym (same e)) (held_after_failure way t.number now h)
          where
            same : way.outbox.unanswered ≡ Some t → failed_once way.outbox now ≡ failed way.outbox t.number now
            same is = rw is refl

-- what is settled, when the unanswered transaction is answered
abbrev sent_after : List CheckedEvent → List Data → Option TransactionValue → ℕ → SentState
sent_after settled settled_edus u last = record { settled = settled ++ unanswered_pdus u; settled_edus = settled_edus ++ unanswered_edus u; unanswered = None; last = last }

-- ---- the ephemeral data units of a transaction

all_right : {A : Type 0} (P : A → Type 0) (xs ys : List A) → All P (xs ++ ys) → All P ys
all_right P [] ys h = h
all_right P (x ∷ xs) ys h = all_right P xs ys (All-tail P x (xs ++ ys) h)

all_left : {A : Type 0} (P : A → Type 0) (xs ys : List A) → All P (xs ++ ys) → All P xs
all_left P [] ys h = All-nil P
all_left P (x ∷ xs) ys h = All-cons P x xs (All-head P x (xs ++ ys) h) (all_left P xs ys (All-tail P x (xs ++ ys) h))

-- what is addressed to one destination is among all that was offered
sound_from : (P : Data → Type 0) (d : ℕ) (was_open : Bool) (entries : List Entry) → All P (edus_of entries) → All P (filter_map (edu_for d) (reaching d was_open entries))
sound_from P d was_open [] h = All-nil P
sound_from P d false (x ∷ entries) h = sound_from P d false entries (rest_of x h)
  where
    rest_of : (y : Entry) → All P (edus_of (y ∷ entries)) → All P (edus_of entries)
    rest_of (entry.Event event dests) all = all
    rest_of (entry.Edu edu dests) all = All-tail P edu (edus_of entries) all
    rest_of (entry.Close dest cause) all = all
sound_from P d true (entry.Event event dests ∷ entries) h = sound_from P d true entries h
sound_from P d true (entry.Edu edu dests ∷ entries) h =
    by (is_among dests d) (All-head P edu (edus_of entries) h) (sound_from P d true entries (All-tail P edu (edus_of entries) h))
  where
    by : (b : Bool) → P edu → All P (filter_map (edu_for d) (reaching d true entries))
        → All P (cons_option (if b then Some edu else None) (filter_map (edu_for d) (reaching d true entries)))
    by true first later = All-cons P edu (filter_map (edu_for d) (reaching d true entries)) first later
    by false first later = later
sound_from P d true (entry.Close dest cause ∷ entries) h = sound_from P d (not (dest == d)) entries h

addressed_sound : (P : Data → Type 0) (d : ℕ) (entries : List Entry) → All P (edus_of entries) → All P (addressed_edus entries d)
addressed_sound P d entries h = sound_from P d true entries h

all_edus : (edus : List Data) → All IsSoundEdu edus → filter is_edu edus ≡ edus
all_edus [] h = refl
all_edus (edu ∷ edus) h = rw ((All-head IsSoundEdu edu edus h).is) (ap (λ rest. edu ∷ rest) (all_edus edus (All-tail IsSoundEdu edu edus h)))

takable : (outbox : OutboxState) (now : ℕ) → now ≤ 9007199254740991 → All IsSoundEdu outbox.waiting_edus → IsTakable (next_transaction outbox now)
takable outbox now early sound =
    let edus = All-take IsSoundEdu 100 outbox.waiting_edus sound in
    record {
      limits = record {
        time = omega (arith, early);
        pdus = omega (arith, length-take 50 outbox.waiting);
        edus = omega (arith, length-take 100 outbox.waiting_edus);
        levels = All-weaker IsSoundEdu (λ edu. depth edu ≤ 100) (λ edu is. is.levels) (take 100 outbox.waiting_edus) edus;
        sizes = All-weaker IsSoundEdu (λ edu. length (canonical_text edu) ≤ 65536) (λ edu is. is.size) (take 100 outbox.waiting_edus) edus;
      };
      edus = all_edus (take 100 outbox.waiting_edus) edus;
    }

module _ (laws : Laws) (o d epoch : ℕ) (name other : List ℕ) (log : LogState) (packets : List PacketState) (journal : List Entry) where
  abbrev HeldThen : Way → Type 0
  HeldThen way = IsHeld o d epoch name other journal way log packets

  abbrev LandsThen : SentState → Type 0
  LandsThen s = Lands o d epoch name other s log packets

  -- ---- cutting

  pub held_cut : (now : ℕ) → now ≤ 9007199254740991 → (way : Way) → HeldThen way → HeldThen (cutting now way).1
  held_cut now early way h = by (cases_Bool (can_cut way.outbox))
    where
      waiting_sound : All IsSoundEdu way.outbox.waiting_edus
      waiting_sound =
          let all = addressed_sound IsSoundEdu d journal h.sound in
          let split = subst (All IsSoundEdu) (laws.edus d journal way h.follows) all in
          let accepted = all_left IsSoundEdu (accepted_edus way.outbox) (parcels_in.edus_of way.queue) split in
          all_right IsSoundEdu (unanswered_edus way.outbox.unanswered) way.outbox.waiting_edus
          (all_right IsSoundEdu way.outbox.settled_edus (unanswered_edus way.outbox.unanswered ++ way.outbox.waiting_edus) accepted)

      by : (can_cut way.outbox ≡ true) ⊎ (can_cut way.outbox ≡ false) → HeldThen (with_outbox way (cut way.outbox now))
      by (inr nothing) = subst (λ x. HeldThen (with_outbox way x)) (sym same) h
        where
          same : cut way.outbox now ≡ way.outbox
          same = rw nothing refl
      by (inl can) =
          let t = next_transaction way.outbox now in
          let none = none_unanswered way.outbox can in
          record {
            sound = h.sound;
            follows = call_follows d (parcels journal d) way (Cut now) refl h.follows;
            lands =
                subst LandsThen (sym (ap sent_of (cut_where way.outbox now can)))
                (lands_cut o d epoch name other way.outbox.settled way.outbox.settled_edus way.outbox.last log packets t refl (takable way.outbox now early waiting_sound)
                (subst (λ u. LandsThen (record { settled = way.outbox.settled; settled_edus = way.outbox.settled_edus; unanswered = u; last = way.outbox.last })) none h.lands));
          }

  -- ---- settling

  -- transaction n is answered with a status; where that is 200 its reply is kept
  pub held_settled : (n now : ℕ) (status : Option ℕ) (way : Way) → (status ≡ Some 200 → (reply : List ℕ) × (kept_for log epoch n ≡ Some reply)) → HeldThen way → HeldThen (settling n status now way).1
  held_settled n now None way kept h = held_after_failure laws o d epoch name other log packets journal way n now h
  held_settled n now (Some status) way kept h = by (cases_Bool (has_number way.outbox.unanswered n)) (cases_Bool (status == 200))
    where
      follows : Follows d (parcels journal d) (with_outbox way (settle way.outbox n status now))
      follows = call_follows d (parcels journal d) way (Settle n status now) refl h.follows

      same : sent_of (settle way.outbox n status now) ≡ sent_of way.outbox → HeldThen (with_outbox way (settle way.outbox n status now))
      same is = held_same laws o d epoch name other log packets journal way (with_outbox way (settle way.outbox n status now)) follows is h

      numbered : (u : Option TransactionValue) → has_number u n ≡ true → (t : TransactionValue) × (u ≡ Some t) × (t.number ≡ n)
      numbered None e = absurd (cc)
      numbered (Some t) e = (t, refl, eqb-true t.number n e)

      by : (has_number way.outbox.unanswered n ≡ true) ⊎ (has_number way.outbox.unanswered n ≡ false) → ((status == 200) ≡ true) ⊎ ((status == 200) ≡ false)
          → HeldThen (with_outbox way (settle way.outbox n status now))
      by (inr other_one) good = same (rw other_one refl)
      by (inl this) (inr bad) = same (rw (this, bad) refl)
      by (inl this) (inl good) =
          let t = numbered way.outbox.unanswered this in
          let reply = kept (ap Some (eqb-true status 200 good)) in
          let settled_so : settle way.outbox n status now ≡ taken way.outbox = rw (this, good) refl in
          let sent_then : sent_of (taken way.outbox) ≡ record { settled = way.outbox.settled ++ t.0.pdus; settled_edus = way.outbox.settled_edus ++ t.0.edus; unanswered = None; last = way.outbox.last } =
          ap (λ u. sent_after way.outbox.settled way.outbox.settled_edus u way.outbox.last) t.1 in
          record {
            sound = h.sound;
            follows = follows;
            lands =
                subst LandsThen (sym (ap sent_of settled_so ∙ sent_then))
                (lands_settled o d epoch name other way.outbox.settled way.outbox.settled_edus way.outbox.last log packets t.0 reply.0 (ap (kept_for log epoch) t.2 ∙ reply.1)
                (subst (λ u. LandsThen (record { settled = way.outbox.settled; settled_edus = way.outbox.settled_edus; unanswered = u; last = way.outbox.last })) t.1 h.lands));
          }
