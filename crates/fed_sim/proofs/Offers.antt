-- The steps of a journal at a server of a world, case by case.
use Rattle.std.proofs.Common.{◌≡◌, ◌≢◌, ℕ, zero, suc, ◌+◌, ◌&&◌, Bool, true, false, not, nat_lt, List, [], ◌∷◌, ◌++◌, length, set, Some, None, Ok, Err, refl, sym, ap, ◌∙◌, subst, if◌then◌else◌}
use Rattle.std.specs.List.{slice_get}
use Rattle.std.proofs.lemmas.List.{append-nil}
use Rattle.std.proofs.lemmas.Option.{same_Some, slice_get_within}
use Rattle.std.proofs.lemmas.Bool.{eq-eqb, ne_eqb, lt-ltb}
use Rattle.serde_json.specs.Data.{Data}
use Rattle.fed_room_contract.specs.declared.refusal.Refusal.{Refusal}
use Rattle.fed_room_contract.specs.Draft.{DraftFields}
use Rattle.fed_room_contract.specs.Graph.{is_ready}
use Rattle.fed_room_contract.specs.Prepared.{PreparedEvent, prepared_of}
use Rattle.fed_room_contract.specs.Room.{RoomState, committed}
use Rattle.fed_room.specs.Room.{room_rules}
use Rattle.fed_dest.specs.Joined.{AreDestinations}
use Rattle.fed_journal.specs.declared.edu.EduFault.{EduFault}
use Rattle.fed_journal.specs.declared.entry.Cause.TheVariants.{Asked}
use Rattle.fed_journal.specs.declared.entry.Entry.{Entry}
use Rattle.fed_journal.specs.declared.entry.Entry.TheVariants as entry
use Rattle.fed_journal.specs.Edu.{edu_fault_of}
use Rattle.fed_journal.specs.Journal.{is_closed, events_of, edus_of}
use Rattle.fed_journal.specs.Offering.{open_among, has_place, AreLost, event_not_made, event_has_no_place, event_sent, edu_faulty, edu_has_no_place, edu_sent, was_closed, close_has_no_place, is_closed_now}
use Rattle.fed_journal.specs.Offering as step
use Rattle.fed_journal.specs.Queues.{placed_beyond, queue_after}
use Rattle.fed_journal.proofs.Placing.{parcels_beyond, nothing_beyond, none_lost}
use Rattle.fed_outbox.specs.Collecting.{Way}
use Rattle.fed_sim.specs.declared.outcome.EduRefusal.TheVariants as edu
use Rattle.fed_sim.specs.declared.outcome.SendRefusal.TheVariants.{NotMade, Limit}
use Rattle.fed_sim.specs.declared.outcome.Outcome.{Outcome}
use Rattle.fed_sim.specs.declared.outcome.Outcome.TheVariants.{NoSuchServer, Sent, NotSent, EduSent, EduNotSent, Closed, WasClosed, NotClosed}
use Rattle.fed_sim.specs.Offering.{signer_named, with_journal, with_stored, others_among, IsOfferedAt, in_room, IsEduOffered, for_others, IsClosedFor, no_way, on_way}
use Rattle.fed_sim.specs.Server.{ServerState}
use Rattle.fed_sim.specs.Ways.{has_way, way_to, ways_beyond}

-- ---- the ways behind one more entry

-- the ways to the servers from place n on, with what an entry places for each of them behind its queue
abbrev pub ways_from : ℕ → List Entry → Entry → List Way → List Way
ways_from n entries entry [] = []
ways_from n entries entry (way ∷ ways) = record { queue = queue_after entries entry n way.queue; outbox = way.outbox } ∷ ways_from (n + 1) entries entry ways

pub ways_one : (n : ℕ) (entries : List Entry) (entry : Entry) (ways : List Way) → ways_beyond n entries (entries ++ entry ∷ []) ways ≡ ways_from n entries entry ways
ways_one n entries entry [] = refl
ways_one n entries entry (way ∷ ways) =
    λ i. record { queue = way.queue ++ parcels_beyond entries entry n i; outbox = way.outbox } ∷ ways_one (n + 1) entries entry ways i

pub ways_none : (n : ℕ) (entries : List Entry) (ways : List Way) → ways_beyond n entries entries ways ≡ ways
ways_none n entries [] = refl
ways_none n entries (way ∷ ways) =
    let queue : way.queue ++ placed_beyond entries entries n ≡ way.queue = ap (λ ps. way.queue ++ ps) (nothing_beyond entries n) ∙ append-nil way.queue in
    λ i. record { queue = queue i; outbox = way.outbox } ∷ ways_none (n + 1) entries ways i

-- the server with one more entry in its journal, and the parcels that this places
abbrev pub with_entry : ServerState → Entry → ServerState
with_entry s entry = record {
  own = s.own;
  name = s.name;
  rooms = s.rooms;
  arrivals = s.arrivals;
  journal = s.journal ++ entry ∷ [];
  ways = ways_from 0 s.journal entry s.ways;
  inbox = s.inbox;
}

one_entry : (s : ServerState) (x : Entry) → with_journal s (s.journal ++ x ∷ []) ≡ with_entry s x
one_entry s x =
    λ i. record { own = s.own; name = s.name; rooms = s.rooms; arrivals = s.arrivals; journal = s.journal ++ x ∷ []; ways = ways_one 0 s.journal x s.ways i; inbox = s.inbox }

no_entry : (s : ServerState) → with_journal s s.journal ≡ s
no_entry s = λ i. record { own = s.own; name = s.name; rooms = s.rooms; arrivals = s.arrivals; journal = s.journal; ways = ways_none 0 s.journal s.ways i; inbox = s.inbox }

put_same : {X : Type 0} (xs : List X) (k : ℕ) (x : X) → slice_get xs k ≡ Some x → set xs k x ≡ xs
put_same [] k x here = refl
put_same (y ∷ ys) zero x here = ap (λ z. z ∷ ys) (sym (same_Some y x here))
put_same (y ∷ ys) (suc k) x here = ap (λ zs. y ∷ zs) (put_same ys k x here)

no_offer : (s : ServerState) (place : ℕ) (room : RoomState) → slice_get s.rooms place ≡ Some room → with_stored (with_journal s s.journal) place room ≡ s
no_offer s place room here =
    ap (λ t. with_stored t place room) (no_entry s)
    ∙ (λ i. record { own = s.own; name = s.name; rooms = put_same s.rooms place room here i; arrivals = s.arrivals; journal = s.journal; ways = s.ways; inbox = s.inbox })

-- ---- an event

-- nothing changes, or an event is entered and stored
pub data OfferCases (servers : List (List ℕ)) (place : ℕ) (draft : DraftFields) (old : ServerState) : Outcome → ServerState → Type 0 where
  as_it_was : (told : Outcome) → OfferCases servers place draft old told old
  event_entered : (room : RoomState) (p : PreparedEvent) (dests : List ℕ) → slice_get old.rooms place ≡ Some room
      → prepared_of room_rules (signer_named old.name) room.stored draft ≡ Ok p → is_ready room.stored p.event.event ≡ true → AreDestinations room.stored p.before servers old.own dests
      → OfferCases servers place draft old (Sent (length (events_of (old.journal ++ entry.Event p.event dests ∷ []))) (open_among old.journal dests))
      (with_stored (with_entry old (entry.Event p.event dests)) place (committed room p.event))

pub not_made : (servers : List (List ℕ)) (place : ℕ) (draft : DraftFields) (old : ServerState) (room : RoomState) (refusal : Refusal) → slice_get old.rooms place ≡ Some room
    → prepared_of room_rules (signer_named old.name) room.stored draft ≡ Err refusal → IsOfferedAt servers place draft old (NotSent (NotMade refusal)) old
not_made servers place draft old room refusal here refuses =
    subst (IsOfferedAt servers place draft old (NotSent (NotMade refusal))) (no_offer old place room here)
    (in_room room room (event_not_made refusal) old.journal here (step.not_made refusal refuses))

pub event_limit : (servers : List (List ℕ)) (place : ℕ) (draft : DraftFields) (old : ServerState) (room : RoomState) (p : PreparedEvent) (dests : List ℕ) → slice_get old.rooms place ≡ Some room
    → prepared_of room_rules (signer_named old.name) room.stored draft ≡ Ok p → is_ready room.stored p.event.event ≡ true → AreDestinations room.stored p.before servers old.own dests
    → has_place old.journal (length (open_among old.journal dests)) ≡ false → IsOfferedAt servers place draft old (NotSent Limit) old
event_limit servers place draft old room p dests here makes ready goes full =
    subst (IsOfferedAt servers place draft old (NotSent Limit)) (no_offer old place room here)
    (in_room room room event_has_no_place old.journal here (step.no_place p dests (record { prepared = makes; ready = ready; destinations = goes }) full))

pub event_enters : (servers : List (List ℕ)) (place : ℕ) (draft : DraftFields) (old : ServerState) (room : RoomState) (p : PreparedEvent) (dests : List ℕ) → slice_get old.rooms place ≡ Some room
    → prepared_of room_rules (signer_named old.name) room.stored draft ≡ Ok p → is_ready room.stored p.event.event ≡ true → AreDestinations room.stored p.before servers old.own dests
    → has_place old.journal (length (open_among old.journal dests)) ≡ true
    → IsOfferedAt servers place draft old (Sent (length (events_of (old.journal ++ entry.Event p.event dests ∷ []))) (open_among old.journal dests))
    (with_stored (with_journal old (old.journal ++ entry.Event p.event dests ∷ [])) place (committed room p.event))
event_enters servers place draft old room p dests here makes ready goes free =
    in_room room (committed room p.event) (event_sent _ p.event _) (old.journal ++ entry.Event p.event dests ∷ []) here
    (step.sent p dests (record { prepared = makes; ready = ready; destinations = goes }) free (none_lost old.journal dests))

pub offer_cases : (servers : List (List ℕ)) (place : ℕ) (draft : DraftFields) (old : ServerState) (told : Outcome) (new : ServerState)
    → IsOfferedAt servers place draft old told new → OfferCases servers place draft old told new
offer_cases servers place draft old _ _ (in_room room _ _ _ here (step.not_made refusal refuses)) =
    subst (OfferCases servers place draft old (NotSent (NotMade refusal))) (sym (no_offer old place room here)) (as_it_was (NotSent (NotMade refusal)))
offer_cases servers place draft old _ _ (in_room room _ _ _ here (step.no_place p dests made full)) =
    subst (OfferCases servers place draft old (NotSent Limit)) (sym (no_offer old place room here)) (as_it_was (NotSent Limit))
offer_cases servers place draft old _ _ (in_room room _ _ _ here (step.sent p dests made free lost)) =
    subst (λ s. OfferCases servers place draft old (Sent (length (events_of (old.journal ++ entry.Event p.event dests ∷ []))) (open_among old.journal dests)) (with_stored s place (committed room p.event)))
    (sym (one_entry old (entry.Event p.event dests))) (event_entered room p dests here made.prepared made.ready made.destinations)

-- ---- an ephemeral data unit

pub data EduCases (value : Data) (dests : List ℕ) (old : ServerState) : Outcome → ServerState → Type 0 where
  edu_as_it_was : (told : Outcome) → EduCases value dests old told old
  edu_entered : edu_fault_of value ≡ None → EduCases value dests old (EduSent (open_among old.journal (others_among old.own (length old.ways) dests)))
      (with_entry old (entry.Edu value (others_among old.own (length old.ways) dests)))

module _ (value : Data) (dests : List ℕ) (old : ServerState) where
  abbrev others : List ℕ
  others = others_among old.own (length old.ways) dests

  pub edu_refused : (fault : EduFault) → edu_fault_of value ≡ Some fault → IsEduOffered value dests old (EduNotSent (edu.NotEdu fault)) old
  edu_refused fault is =
      subst (IsEduOffered value dests old (EduNotSent (edu.NotEdu fault))) (no_entry old) (for_others (edu_faulty fault) old.journal (step.faulty fault is))

  pub edu_limit : edu_fault_of value ≡ None → has_place old.journal (length (open_among old.journal others)) ≡ false → IsEduOffered value dests old (EduNotSent edu.Limit) old
  edu_limit none full = subst (IsEduOffered value dests old (EduNotSent edu.Limit)) (no_entry old) (for_others edu_has_no_place old.journal (step.no_place none full))

  pub edu_enters : edu_fault_of value ≡ None → has_place old.journal (length (open_among old.journal others)) ≡ true
      → IsEduOffered value dests old (EduSent (open_among old.journal others)) (with_journal old (old.journal ++ entry.Edu value others ∷ []))
  edu_enters none free =
      for_others (edu_sent (length (edus_of (old.journal ++ entry.Edu value others ∷ []))) (open_among old.journal others)) (old.journal ++ entry.Edu value others ∷ [])
      (step.sent none free (none_lost old.journal others))

pub edu_cases : (value : Data) (dests : List ℕ) (old : ServerState) (told : Outcome) (new : ServerState) → IsEduOffered value dests old told new → EduCases value dests old told new
edu_cases value dests old _ _ (for_others _ _ (step.faulty fault is)) =
    subst (EduCases value dests old (EduNotSent (edu.NotEdu fault))) (sym (no_entry old)) (edu_as_it_was (EduNotSent (edu.NotEdu fault)))
edu_cases value dests old _ _ (for_others _ _ (step.no_place none full)) =
    subst (EduCases value dests old (EduNotSent edu.Limit)) (sym (no_entry old)) (edu_as_it_was (EduNotSent edu.Limit))
edu_cases value dests old _ _ (for_others _ _ (step.sent none free lost)) =
    subst (EduCases value dests old (EduSent (open_among old.journal (others_among old.own (length old.ways) dests))))
    (sym (one_entry old (entry.Edu value (others_among old.own (length old.ways) dests)))) (edu_entered none)

-- ---- a closing

pub data CloseCases (d : ℕ) (old : ServerState) : Outcome → ServerState → Type 0 where
  close_as_it_was : (told : Outcome) → CloseCases d old told old
  close_entered : CloseCases d old Closed (with_entry old (entry.Close d Asked))

-- where there is a way, and where there is none
no_way_where : (s : ServerState) (d : ℕ) → has_way s d ≡ false → way_to s d ≡ None
no_way_where s d none = ap (λ (b : Bool). if b then slice_get s.ways d else None) none

way_where : (s : ServerState) (d : ℕ) (way : Way) → d ≢ s.own → slice_get s.ways d ≡ Some way → way_to s d ≡ Some way
way_where s d way apart here =
    ap (λ (b : Bool). if b then slice_get s.ways d else None)
    (ap (λ b. not b && nat_lt d (length s.ways)) (ne_eqb d s.own apart) ∙ lt-ltb d (length s.ways) (slice_get_within s.ways d way here)) ∙ here

module _ (d : ℕ) (old : ServerState) where
  pub own_server : d ≡ old.own → IsClosedFor d old NoSuchServer old
  own_server same = no_way (no_way_where old d (ap (λ b. not b && nat_lt d (length old.ways)) (eq-eqb d old.own same)))

  pub not_listed : slice_get old.ways d ≡ None → IsClosedFor d old NoSuchServer old
  not_listed none = no_way (by (has_way old d))
    where
      by : (b : Bool) → (if b then slice_get old.ways d else None) ≡ None
      by true = none
      by false = refl

  pub closed_before : (way : Way) → d ≢ old.own → slice_get old.ways d ≡ Some way → is_closed old.journal d ≡ true → IsClosedFor d old WasClosed old
  closed_before way apart here shut =
      subst (IsClosedFor d old WasClosed) (no_entry old) (on_way way was_closed old.journal (way_where old d way apart here) (step.before shut))

  pub close_limit : (way : Way) → d ≢ old.own → slice_get old.ways d ≡ Some way → is_closed old.journal d ≡ false → has_place old.journal 0 ≡ false → IsClosedFor d old NotClosed old
  close_limit way apart here unclosed full =
      subst (IsClosedFor d old NotClosed) (no_entry old) (on_way way close_has_no_place old.journal (way_where old d way apart here) (step.no_place unclosed full))

  pub closing_enters : (way : Way) → d ≢ old.own → slice_get old.ways d ≡ Some way → is_closed old.journal d ≡ false → has_place old.journal 0 ≡ true
      → IsClosedFor d old Closed (with_journal old (old.journal ++ entry.Close d Asked ∷ []))
  closing_enters way apart here unclosed free =
      on_way way is_closed_now (old.journal ++ entry.Close d Asked ∷ []) (way_where old d way apart here) (step.closed unclosed free)

pub close_cases : (d : ℕ) (old : ServerState) (told : Outcome) (new : ServerState) → IsClosedFor d old told new → CloseCases d old told new
close_cases d old _ _ (no_way none) = close_as_it_was NoSuchServer
close_cases d old _ _ (on_way way _ _ there (step.before shut)) = subst (CloseCases d old WasClosed) (sym (no_entry old)) (close_as_it_was WasClosed)
close_cases d old _ _ (on_way way _ _ there (step.no_place unclosed full)) = subst (CloseCases d old NotClosed) (sym (no_entry old)) (close_as_it_was NotClosed)
close_cases d old _ _ (on_way way _ _ there (step.closed unclosed free)) = subst (CloseCases d old Closed) (sym (one_entry old (entry.Close d Asked))) close_entered
