-- What was taken is a prefix of what was addressed.
use Rattle.std.proofs.Common.{◌≡◌, ℕ, ◌<◌, List, [], ◌∷◌, ◌++◌, length, map, Option, Some, None, refl, sym, ap, ◌∙◌, arith, append_assoc, length-append}
use Rattle.std.specs.Prelude.{slice_get}
use Rattle.std.proofs.lemmas.Bool.{lt-ltb, ltb-true}
use Rattle.std.proofs.lemmas.List.{append-nil, map-append, length-map}
use Rattle.std.proofs.lemmas.Option.{slice_get_within}
use Rattle.serde_json.specs.Data.{Data}
use Rattle.fed_json.specs.CanonicalText.{canonical_text}
use Rattle.fed_event.specs.Checked.{CheckedEvent}
use Rattle.fed_journal.specs.Journal.{parcels, addressed, addressed_edus}
use Rattle.fed_outbox.specs.Collecting.{Way}
use Rattle.fed_outbox.specs.Following.{Follows}
use Rattle.fed_outbox.specs.Outbox.{unanswered_pdus, unanswered_edus}
use Rattle.fed_outbox.specs.Runs.{events_of, edus_of}
use Rattle.fed_outbox.specs.Transaction.{TransactionValue}
use Rattle.fed_txn.specs.Writing.{event_of}
use Rattle.fed_inbox.specs.Log.{LogState}
use Rattle.fed_inbox.specs.Inbox.{pdus_by, edus_by, taken_of, taken_edus_of}
use Rattle.fed_sim.specs.Server.{ServerState}
use Rattle.fed_sim.specs.Ways.{way_to}
use Rattle.fed_sim.specs.Headline.{event_texts, IsDelivered, AllDelivered}
use Rattle.fed_sim.specs.World.{PacketState, WorldState}
use Rattle.fed_sim.proofs.Servers.{listed}
use Rattle.fed_sim.proofs.Landing.{texts, by_reply, kept_for, landed, landed_edus}
use Rattle.fed_sim.proofs.WayMoves.{Laws}
use Rattle.fed_sim.proofs.Between.{IsBetween, IsSound, way_there, there_way}

pub same_texts : (events : List CheckedEvent) → texts events ≡ event_texts events
same_texts [] = refl
same_texts (e ∷ events) = ap (λ rest. canonical_text (event_of e) ∷ rest) (same_texts events)

front_of : {A : Type 0} (reply : Option (List ℕ)) (xs : List A) → (rest : List A) × (xs ≡ by_reply reply xs ++ rest)
front_of None xs = (xs, refl)
front_of (Some reply) xs = ([], sym (append-nil xs))

landed_front : (log : LogState) (epoch : ℕ) (u : Option TransactionValue) → (rest : List CheckedEvent) × (unanswered_pdus u ≡ landed log epoch u ++ rest)
landed_front log epoch None = ([], refl)
landed_front log epoch (Some t) = front_of (kept_for log epoch t.number) t.pdus

landed_edus_front : (log : LogState) (epoch : ℕ) (u : Option TransactionValue) → (rest : List Data) × (unanswered_edus u ≡ landed_edus log epoch u ++ rest)
landed_edus_front log epoch None = ([], refl)
landed_edus_front log epoch (Some t) = front_of (kept_for log epoch t.number) t.edus

-- a front of the part in the middle makes a front of the whole
whole : {A : Type 0} (done flight waiting queue landed rest all : List A) → all ≡ (done ++ (flight ++ waiting)) ++ queue → flight ≡ landed ++ rest → all ≡ (done ++ landed) ++ (rest ++ (waiting ++ queue))
whole done flight waiting queue landed rest all is front =
    is ∙ ap (λ f. (done ++ (f ++ waiting)) ++ queue) front ∙ regroup
  where
    regroup : (done ++ ((landed ++ rest) ++ waiting)) ++ queue ≡ (done ++ landed) ++ (rest ++ (waiting ++ queue))
    regroup = simp append_assoc refl

prefix : {A : Type 0} (f : A → List ℕ) (all front rest : List A) (taken : List (List ℕ)) → taken ≡ map f front → all ≡ front ++ rest → (more : List (List ℕ)) × (map f all ≡ taken ++ more)
prefix f all front rest taken is split = (map f rest, ap (map f) split ∙ map-append f front rest ∙ ap (λ t. t ++ map f rest) (sym is))

delivered_between : (laws : Laws) (o d epoch : ℕ) (os ds : ServerState) (way : Way) (packets : List PacketState) → IsBetween o d epoch os ds way packets → IsDelivered os ds d way
delivered_between laws o d epoch os ds way packets b =
    let box = way.outbox in
    let lands = b.held.lands in
    let took : taken_of ds.inbox os.name ≡ b.log.pdus = ap pdus_by b.log_is in
    let took_edus : taken_edus_of ds.inbox os.name ≡ b.log.edus = ap edus_by b.log_is in
    let front = landed_front b.log epoch box.unanswered in
    let front_edus = landed_edus_front b.log epoch box.unanswered in
    let events_are = took ∙ lands.pdus ∙ same_texts (box.settled ++ landed b.log epoch box.unanswered) in
    let edus_are = took_edus ∙ lands.edus in
    let settled_counts = length-append box.settled (landed b.log epoch box.unanswered) in
    let settled_edus_counts = length-append box.settled_edus (landed_edus b.log epoch box.unanswered) in
    let events_count : length (taken_of ds.inbox os.name) ≡ length (box.settled ++ landed b.log epoch box.unanswered) = ap length events_are ∙ length-map (box.settled ++ landed b.log epoch box.unanswered) _ in
    let edus_count : length (taken_edus_of ds.inbox os.name) ≡ length (box.settled_edus ++ landed_edus b.log epoch box.unanswered) = ap length edus_are ∙ length-map (box.settled_edus ++ landed_edus b.log epoch box.unanswered) _ in
    record {
      events =
          prefix (λ (checked : CheckedEvent). canonical_text checked.event.value) (addressed os.journal d) (box.settled ++ landed b.log epoch box.unanswered) (front.0 ++ (box.waiting ++ events_of way.queue)) (taken_of ds.inbox os.name) events_are
          (whole box.settled (unanswered_pdus box.unanswered) box.waiting (events_of way.queue) (landed b.log epoch box.unanswered) front.0 (addressed os.journal d) (laws.events d os.journal way b.held.follows) front.1);
      edus =
          prefix canonical_text (addressed_edus os.journal d) (box.settled_edus ++ landed_edus b.log epoch box.unanswered) (front_edus.0 ++ (box.waiting_edus ++ edus_of way.queue)) (taken_edus_of ds.inbox os.name) edus_are
          (whole box.settled_edus (unanswered_edus box.unanswered) box.waiting_edus (edus_of way.queue) (landed_edus b.log epoch box.unanswered) front_edus.0 (addressed_edus os.journal d)
          (laws.edus d os.journal way b.held.follows) front_edus.1);
      settled = omega (arith, settled_counts, events_count);
      settled_edus = omega (arith, settled_edus_counts, edus_count);
    }

pub all_delivered : (laws : Laws) (w : WorldState) → IsSound w → AllDelivered w
all_delivered laws w h o d origin dest of to apart =
    let is = h.servers o origin of in
    let within : d < length origin.ways = let below = slice_get_within w.servers d dest to in omega (arith, below, is.ways) in
    let way = listed origin.ways d within in
    let leads = there_way origin d way.0 (record { apart = λ e. apart (sym (e ∙ is.own)); within = lt-ltb d (length origin.ways) within; is = way.1 }) in
    (is.name_is, (way.0, leads, delivered_between laws o d w.epoch origin dest way.0 w.packets (h.pairs o d origin dest way.0 of to leads)))

-- what was accepted and what waits on a way is what the journal places
pub way_follows : (w : WorldState) → IsSound w → (k d : ℕ) (s : ServerState) (way : Way) → slice_get w.servers k ≡ Some s → way_to s d ≡ Some way → Follows d (parcels s.journal d) way
way_follows w h k d s way at there =
    let below = ltb-true d (length s.ways) (way_there s d way there).within in
    let is = h.servers k s at in
    let other = listed w.servers d (omega (arith, below, is.ways)) in
    (h.pairs k d s other.0 way at other.1 there).held.follows
