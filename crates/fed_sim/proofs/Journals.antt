-- Each event of a journal is stored in a room of its server, and goes to the servers that are joined in the state before it.
use Rattle.std.proofs.Common.{◌≡◌, ◌≢◌, ℕ, zero, suc, List, [], ◌∷◌, ◌++◌, Option, Some, None, Ok, ◌<◌, length, length-set, map, refl, sym, ap, subst, ◌∙◌, ◌⊎◌, inl, inr}
use Rattle.std.specs.Prelude.{slice_get, string_bytes, nat_lt, Bool, true, false, if◌then◌else◌, ◌+◌}
use Rattle.std.specs.Option.{option_map_or}
use Rattle.std.proofs.lemmas.Option.{slice_get_within}
use Rattle.serde_json.specs.Data.{Data}
use Rattle.fed_event.specs.Checked.{CheckedEvent}
use Rattle.fed_journal.specs.declared.entry.Entry.{Entry}
use Rattle.fed_journal.specs.declared.entry.Entry.TheVariants as entry
use Rattle.fed_outbox.specs.Collecting.{Way}
use Rattle.fed_room_contract.specs.declared.input.Input.TheVariants.{Receive}
use Rattle.fed_room_contract.specs.declared.verdict.Verdict.TheVariants.{Accepted}
use Rattle.fed_event.specs.Fields.{room_id_of}
use Rattle.fed_dest.specs.List.{place_of}
use Rattle.fed_room_contract.specs.Draft.{DraftFields}
use Rattle.fed_room_contract.specs.Graph.{is_ready}
use Rattle.fed_room_contract.specs.Prepared.{PreparedEvent, prepared_of}
use Rattle.fed_room_contract.specs.Room.{RoomState, empty_room, committed, receipt_of, after_receipt}
use Rattle.fed_room_contract.specs.Runs.{room_after, IsRoom}
use Rattle.fed_room_contract.proofs.WellFormed.{new_room, input_keeps, inputs_keep}
use Rattle.fed_room.specs.Room.{room_of, room_rules}
use Rattle.fed_room.specs.Start.{after_all}
use Rattle.fed_dest.specs.Joined.{AreDestinations}
use Rattle.fed_sim.specs.declared.outcome.Outcome.{Outcome}
use Rattle.fed_sim.specs.declared.outcome.Outcome.TheVariants as outcome
use Rattle.fed_sim.specs.declared.setup.Setup.{Setup}
use Rattle.fed_sim.specs.declared.step.Step.{Step}
use Rattle.fed_sim.specs.declared.step.Step.TheVariants.{Offer, OfferEdu, Close, Collect, Cut, Failed, Post, Take, Settle, Apply, Tick, Show, Calm}
use Rattle.fed_sim.specs.Applying as applying
use Rattle.fed_sim.specs.Applying.{IsAppliedAt, nothing, arrived, IsAppliedInPart, same, in_part, IsGivenTo, unknown_room, known_room}
use Rattle.fed_sim.specs.Headline.{AllAreDestinations}
use Rattle.fed_sim.specs.Hosted.{HostedState}
use Rattle.fed_sim.specs.Offering.{signer_named, with_stored, IsOfferedAt, IsOffered, IsEduOffered, IsClosedFor}
use Rattle.fed_sim.specs.Offering as offering
use Rattle.fed_sim.specs.Packets as packets
use Rattle.fed_sim.specs.Packets.{IsPosted, IsTaken, IsSettled}
use Rattle.fed_sim.specs.Running.{IsRun, Begins, IsBeginning, ComesOfRun, begins_run, by_step, within_round}
use Rattle.fed_sim.specs.Taking.{with_taken}
use Rattle.fed_sim.specs.Server.{ServerState}
use Rattle.fed_sim.specs.Steps as steps_of
use Rattle.fed_sim.specs.Steps.{Moves, collected, cut, posted, taken, settled, risen, Reached, no_step, one_more, ReachedInPart, before_it, in_it, Does, Leaves, Makes, made, refused, Ran, begun, next}
use Rattle.fed_sim.specs.Ways.{way_to, with_way, IsOnWay}
use Rattle.fed_sim.specs.World.{WorldState, with_server, AtServer, nowhere, somewhere, AtServerInPart, at_moment, max_moment, ticked}
use Rattle.fed_sim.proofs.Between.{same_some, not_none, set_or_other}
use Rattle.fed_sim.proofs.WayQueues.{set_here}
use Rattle.fed_sim.proofs.Servers.{listed}
use Rattle.fed_sim.proofs.Stored.{Grown, no_room, given, grown_same, grown_then, grown_set, received_grows, committed_grows, committed_inside, IsInside, inside_later, made_is, made_for}
use Rattle.fed_sim.proofs.Offers.{with_entry, offer_cases, OfferCases, as_it_was, event_entered, edu_cases, EduCases, edu_as_it_was, edu_entered, close_cases, CloseCases, close_as_it_was, close_entered}
use Rattle.fed_sim.proofs.CalmSteps.{rounds_reach, rounds_in_part}

-- ---- the journals are as they were

-- a server with the rooms that it had, each as it was or given something
pub record Moved (before after : ServerState) : Type 0 where
  pub own : after.own ≡ before.own
  pub rooms : (r : ℕ) → Grown (slice_get before.rooms r) (slice_get after.rooms r)

same_rooms : (before after : ServerState) → after.own ≡ before.own → after.rooms ≡ before.rooms → Moved before after
same_rooms before after own rooms = record { own = own; rooms = λ r. subst (λ rs. Grown (slice_get before.rooms r) (slice_get rs r)) (sym rooms) (grown_same (slice_get before.rooms r)) }

unmoved : (s : ServerState) → Moved s s
unmoved s = same_rooms s s refl refl

moved_then : (a b c : ServerState) → Moved a b → Moved b c → Moved a c
moved_then a b c first second = record { own = second.own ∙ first.own; rooms = λ r. grown_then (slice_get a.rooms r) (slice_get b.rooms r) (slice_get c.rooms r) (first.rooms r) (second.rooms r) }

-- the server at a place, as it was before, with the same journal
record KeptAt (w : WorldState) (place : ℕ) (after : ServerState) : Type 0 where
  before : ServerState
  at : slice_get w.servers place ≡ Some before
  journal : after.journal ≡ before.journal
  moved : Moved before after

record Keeps (w new : WorldState) : Type 0 where
  names : new.names ≡ w.names
  known : new.known ≡ w.known
  count : length new.servers ≡ length w.servers
  servers : (place : ℕ) (after : ServerState) → slice_get new.servers place ≡ Some after → KeptAt w place after

keeps_same : (w new : WorldState) → new.names ≡ w.names → new.known ≡ w.known → new.servers ≡ w.servers → Keeps w new
keeps_same w new names known same_servers = record {
  names = names;
  known = known;
  count = ap length same_servers;
  servers = λ place after e. record { before = after; at = ap (λ s. slice_get s place) (sym same_servers) ∙ e; journal = refl; moved = unmoved after };
}

keeps_then : (w between new : WorldState) → Keeps w between → Keeps between new → Keeps w new
keeps_then w between new first second = record {
  names = second.names ∙ first.names;
  known = second.known ∙ first.known;
  count = second.count ∙ first.count;
  servers = λ place after e. (let b = second.servers place after e in let a = first.servers place b.before b.at in
      record { before = a.before; at = a.at; journal = b.journal ∙ a.journal; moved = moved_then a.before b.before after a.moved b.moved });
}

keeps_server : (w : WorldState) (p : ℕ) (before after : ServerState) → slice_get w.servers p ≡ Some before → after.journal ≡ before.journal → Moved before after → Keeps w (with_server w p after)
keeps_server w p before after at journal moved = record { names = refl; known = refl; count = length-set w.servers p after; servers = λ place s e. by place s (set_or_other w.servers p after place s e) }
  where
    by : (place : ℕ) (s : ServerState) → ((place ≡ p) × (after ≡ s)) ⊎ ((place ≢ p) × (slice_get w.servers place ≡ Some s)) → KeptAt w place s
    by place s (inl (here, is)) = record { before = before; at = ap (slice_get w.servers) here ∙ at; journal = ap (λ x. x.journal) (sym is) ∙ journal; moved = subst (Moved before) is moved }
    by place s (inr (elsewhere, is)) = record { before = s; at = is; journal = refl; moved = unmoved s }

at_server : (place : ℕ) (DoesIt : ServerState → Outcome → ServerState → Type 0) (w : WorldState) (told : Outcome) (new : WorldState)
    → ((out : Outcome) (before after : ServerState) → DoesIt before out after → (after.journal ≡ before.journal) × Moved before after) → AtServer place DoesIt w told new → Keeps w new
at_server place DoesIt w _ _ each (nowhere none) = keeps_same w w refl refl refl
at_server place DoesIt w _ _ each (somewhere told before after at does) = let e = each told before after does in keeps_server w place before after at e.0 e.1

in_part_keeps : (place : ℕ) (DoesIt : ServerState → ServerState → Type 0) (w new : WorldState) → ((before after : ServerState) → DoesIt before after → (after.journal ≡ before.journal) × Moved before after)
    → AtServerInPart place DoesIt w new → Keeps w new
in_part_keeps place DoesIt w new each is =
    let e = each is.before is.after is.does in
    subst (Keeps w) (sym is.new_is) (keeps_server w place is.before is.after is.server_is e.0 e.1)

-- what a step at a server, and at a world, leaves
on_way_keeps : (d : ℕ) (step : Way → Outcome × Way) (told : Outcome) (before after : ServerState) → IsOnWay d step before told after → (after.journal ≡ before.journal) × Moved before after
on_way_keeps d step told before after is =
    subst (λ (s : ServerState). (s.journal ≡ before.journal) × Moved before s) (ap (λ (pair : Outcome × ServerState). pair.1) (sym is)) (by (way_to before d))
  where
    by : (leads : Option Way) → let s = (option_map_or {U = Outcome × ServerState} (λ way. ((step way).0, with_way before d (step way).1)) leads (outcome.NoSuchServer, before)).1 in (s.journal ≡ before.journal) × Moved before s
    by None = (refl, unmoved before)
    by (Some way) = (refl, same_rooms before (with_way before d (step way).1) refl refl)

arrived_keeps : (place : ℕ) (told : Outcome) (before after : ServerState) → IsAppliedAt place before told after → (after.journal ≡ before.journal) × Moved before after
arrived_keeps place _ before _ (applying.no_room none) = (refl, unmoved before)
arrived_keeps place _ before _ (nothing none) = (refl, unmoved before)
arrived_keeps place _ before _ (arrived room after event later told one applied) =
    (refl, record { own = refl; rooms = grown_set before.rooms place room after one.room_is (received_grows room after event told.more applied.inputs) })

part_keeps : (place : ℕ) (before after : ServerState) → IsAppliedInPart place before after → (after.journal ≡ before.journal) × Moved before after
part_keeps place before _ same = (refl, unmoved before)
part_keeps place before _ (in_part room after event later one stopped) =
    (refl, record { own = refl; rooms = grown_set before.rooms place room after one.room_is (received_grows room after event stopped.0.more stopped.1.inputs) })

given_keeps : (known : List (List ℕ)) (id : List ℕ) (told : Outcome) (before after : ServerState) → IsGivenTo known id before told after → (after.journal ≡ before.journal) × Moved before after
given_keeps known id _ before _ (unknown_room none) = (refl, unmoved before)
given_keeps known id _ before _ (known_room told new place is arrives) = arrived_keeps place told before new arrives

posted_keeps : (server dest : ℕ) (w : WorldState) (told : Outcome) (new : WorldState) → IsPosted server dest w told new → Keeps w new
posted_keeps server dest w _ _ (packets.no_sender none) = keeps_same w w refl refl refl
posted_keeps server dest w _ _ (packets.no_way s is none) = keeps_same w w refl refl refl
posted_keeps server dest w _ _ (packets.nothing s way on none) = keeps_same w w refl refl refl
posted_keeps server dest w _ _ (packets.not_due s way t on is early) = keeps_same w w refl refl refl
posted_keeps server dest w _ _ (packets.posted s way t name on unanswered due name_is readable) = keeps_same w _ refl refl refl

received_keeps : (before after : ServerState) → after ≡ with_taken before after → (after.journal ≡ before.journal) × Moved before after
received_keeps before after is = (ap (λ s. s.journal) is, same_rooms before after (ap (λ s. s.own) is) (ap (λ s. s.rooms) is))

taken_keeps : (k : ℕ) (w : WorldState) (told : Outcome) (new : WorldState) → IsTaken k w told new → Keeps w new
taken_keeps k w _ _ (packets.no_request none) = keeps_same w w refl refl refl
taken_keeps k w _ _ (packets.no_text server dest n bytes packet none) = keeps_same w w refl refl refl
taken_keeps k w _ _ (packets.no_receiver server dest n bytes packet none) = keeps_same w w refl refl refl
taken_keeps k w _ _ (packets.taken server dest n bytes r before after reply packet reads at is) =
    let e = received_keeps before after is.others in
    keeps_then w (with_server w dest after) _ (keeps_server w dest before after at e.0 e.1) (keeps_same (with_server w dest after) _ refl refl refl)

settled_keeps : (k : ℕ) (w : WorldState) (told : Outcome) (new : WorldState) → IsSettled k w told new → Keeps w new
settled_keeps k w told new (packets.no_answer none says same_world) = subst (Keeps w) (sym same_world) (keeps_same w w refl refl refl)
settled_keeps k w told new (packets.settled server dest n reply status packet read does) = at_server server _ w told new (λ out before after is. on_way_keeps dest _ out before after is) does

ticked_keeps : (w : WorldState) (ms : ℕ) (told : Outcome) (new : WorldState) → ◌≡◌ {A = Outcome × WorldState} (told, new) (ticked ms w) → Keeps w new
ticked_keeps w ms told new is = subst (Keeps w) (ap (λ (pair : Outcome × WorldState). pair.1) (sym is)) (by (nat_lt max_moment (w.now + ms)))
  where
    by : (b : Bool) → let pair : Outcome × WorldState = (if b then (outcome.TooLate, w) else (outcome.Now (w.now + ms), at_moment w (w.now + ms))) in Keeps w pair.1
    by true = keeps_same w w refl refl refl
    by false = keeps_same w (at_moment w (w.now + ms)) refl refl refl

moved_keeps : (w : WorldState) (told : Outcome) (new : WorldState) → Moves w told new → Keeps w new
moved_keeps w told new (collected server dest does) = at_server server _ w told new (λ out before after is. on_way_keeps dest _ out before after is) does
moved_keeps w told new (cut server dest does) = at_server server _ w told new (λ out before after is. on_way_keeps dest _ out before after is) does
moved_keeps w told new (posted server dest is) = posted_keeps server dest w told new is
moved_keeps w told new (taken packet is) = taken_keeps packet w told new is
moved_keeps w told new (settled packet is) = settled_keeps packet w told new is
moved_keeps w told new (steps_of.given server place does) = at_server server _ w told new (λ out before after is. arrived_keeps place out before after is) does
moved_keeps w told new (risen ms is) = ticked_keeps w ms told new is

reached_keeps : (w new : WorldState) → Reached w new → Keeps w new
reached_keeps w _ no_step = keeps_same w w refl refl refl
reached_keeps w _ (one_more between new told before moves) = keeps_then w between new (reached_keeps w between before) (moved_keeps between told new moves)

reached_in_part_keeps : (w new : WorldState) → ReachedInPart w new → Keeps w new
reached_in_part_keeps w new (before_it reached) = reached_keeps w new reached
reached_in_part_keeps w new (in_it between server place reached is) =
    keeps_then w between new (reached_keeps w between reached) (in_part_keeps server _ between new (λ before after part. part_keeps place before after part) is)

-- ---- an entry more

-- an event enters the journal: a room of the server, which accepts it, stores it
record IsEntering (names known : List (List ℕ)) (before after : ServerState) (event : CheckedEvent) (dests : List ℕ) : Type 0 where
  place : ℕ
  place_is : place_of known (room_id_of event.event) ≡ Some place
  room : RoomState
  room_is : slice_get before.rooms place ≡ Some room
  after_is : slice_get after.rooms place ≡ Some (committed room event)
  ready : is_ready room.stored event.event ≡ true
  accepted : room_rules.decide room.stored event ≡ Accepted
  goes : AreDestinations room.stored (room_rules.before room.stored event.event) names before.own dests

abbrev IsEntry : List (List ℕ) → List (List ℕ) → ServerState → ServerState → Entry → Type 0
IsEntry names known before after (entry.Event event dests) = IsEntering names known before after event dests
IsEntry names known before after (entry.Edu edu dests) = Unit {0}
IsEntry names known before after (entry.Close dest cause) = Unit {0}

data Enters (w : WorldState) (place : ℕ) (after : ServerState) : Type 0 where
  as_before : KeptAt w place after → Enters w place after
  more : (before : ServerState) (x : Entry) → slice_get w.servers place ≡ Some before → after.journal ≡ before.journal ++ x ∷ [] → Moved before after → IsEntry w.names w.known before after x → Enters w place after

record Adds (w new : WorldState) : Type 0 where
  names : new.names ≡ w.names
  known : new.known ≡ w.known
  count : length new.servers ≡ length w.servers
  servers : (place : ℕ) (after : ServerState) → slice_get new.servers place ≡ Some after → Enters w place after

adds_nothing : (w new : WorldState) → Keeps w new → Adds w new
adds_nothing w new keeps = record { names = keeps.names; known = keeps.known; count = keeps.count; servers = λ place after e. as_before (keeps.servers place after e) }

adds_server : (w : WorldState) (p : ℕ) (after : ServerState) → Enters w p after → Adds w (with_server w p after)
adds_server w p after enters = record { names = refl; known = refl; count = length-set w.servers p after; servers = λ place s e. by place s (set_or_other w.servers p after place s e) }
  where
    by : (place : ℕ) (s : ServerState) → ((place ≡ p) × (after ≡ s)) ⊎ ((place ≢ p) × (slice_get w.servers place ≡ Some s)) → Enters w place s
    by place s (inl (here, is)) = subst (Enters w place) is (subst (λ k. Enters w k after) (sym here) enters)
    by place s (inr (elsewhere, is)) = as_before (record { before = s; at = is; journal = refl; moved = unmoved s })

at_server_adds : (place : ℕ) (DoesIt : ServerState → Outcome → ServerState → Type 0) (w : WorldState) (told : Outcome) (new : WorldState)
    → ((out : Outcome) (before after : ServerState) → slice_get w.servers place ≡ Some before → DoesIt before out after → Enters w place after) → AtServer place DoesIt w told new → Adds w new
at_server_adds place DoesIt w _ _ each (nowhere none) = adds_nothing w w (keeps_same w w refl refl refl)
at_server_adds place DoesIt w _ _ each (somewhere told before after at does) = adds_server w place after (each told before after at does)

module _ (w : WorldState) (p : ℕ) (before : ServerState) (at : slice_get w.servers p ≡ Some before) where
  stands : KeptAt w p before
  stands = record { before = before; at = at; journal = refl; moved = unmoved before }

  entered : (place : ℕ) (draft : DraftFields) (room : RoomState) (e : PreparedEvent) (dests : List ℕ) → place_of w.known draft.room ≡ Some place → slice_get before.rooms place ≡ Some room
      → prepared_of room_rules (signer_named before.name) room.stored draft ≡ Ok e → is_ready room.stored e.event.event ≡ true → AreDestinations room.stored e.before w.names before.own dests
      → Enters w p (with_stored (with_entry before (entry.Event e.event dests)) place (committed room e.event))
  entered place draft room e dests known here makes ready goes =
      let made = made_is (signer_named before.name) room.stored draft e makes in
      more before (entry.Event e.event dests) at refl
      (record { own = refl; rooms = grown_set before.rooms place room (committed room e.event) here (committed_grows room e.event ready made.0) })
      (record {
        place = place;
        place_is = ap (place_of w.known) (made_for (signer_named before.name) room.stored draft e makes) ∙ known;
        room = room;
        room_is = here;
        after_is = set_here before.rooms place (committed room e.event) (slice_get_within before.rooms place room here);
        ready = ready;
        accepted = made.0;
        goes = subst (λ state. AreDestinations room.stored state w.names before.own dests) made.1 goes;
      })

  offered_at_enters : (place : ℕ) (draft : DraftFields) (told : Outcome) (after : ServerState) → place_of w.known draft.room ≡ Some place → IsOfferedAt w.names place draft before told after → Enters w p after
  offered_at_enters place draft told after known is = by told after (offer_cases w.names place draft before told after is)
    where
      by : (told : Outcome) (after : ServerState) → OfferCases w.names place draft before told after → Enters w p after
      by _ _ (as_it_was told) = as_before stands
      by _ _ (event_entered room e dests here makes ready goes) = entered place draft room e dests known here makes ready goes

  offered_enters : (draft : DraftFields) (told : Outcome) (after : ServerState) → IsOffered w.names w.known draft before told after → Enters w p after
  offered_enters draft told after (offering.unknown_room none is same_server) = subst (Enters w p) (sym same_server) (as_before stands)
  offered_enters draft told after (offering.known_room place is at_it) = offered_at_enters place draft told after is at_it

  edu_enters : (value : Data) (dests : List ℕ) (told : Outcome) (after : ServerState) → IsEduOffered value dests before told after → Enters w p after
  edu_enters value dests told after is = by told after (edu_cases value dests before told after is)
    where
      by : (told : Outcome) (after : ServerState) → EduCases value dests before told after → Enters w p after
      by _ _ (edu_as_it_was told) = as_before stands
      by _ _ (edu_entered none) = more before (entry.Edu value _) at refl (same_rooms before _ refl refl) tt

  closed_enters : (d : ℕ) (told : Outcome) (after : ServerState) → IsClosedFor d before told after → Enters w p after
  closed_enters d told after is = by told after (close_cases d before told after is)
    where
      by : (told : Outcome) (after : ServerState) → CloseCases d before told after → Enters w p after
      by _ _ (close_as_it_was told) = as_before stands
      by _ _ close_entered = more before (entry.Close d _) at refl (same_rooms before _ refl refl) tt

same_world_keeps : (w new : WorldState) → new ≡ w → Keeps w new
same_world_keeps w new e = subst (Keeps w) (sym e) (keeps_same w w refl refl refl)

does_add : (step : Step) (w : WorldState) (told : Outcome) (new : WorldState) → Does step w told new → Adds w new
does_add (Offer server draft) w told new is = at_server_adds server _ w told new (λ out before after at does. offered_enters w server before at _ out after does) is
does_add (OfferEdu server edu dests) w told new is = at_server_adds server _ w told new (λ out before after at does. edu_enters w server before at edu dests out after does) is
does_add (Close server dest) w told new is = at_server_adds server _ w told new (λ out before after at does. closed_enters w server before at dest out after does) is
does_add (Collect server dest) w told new is = adds_nothing w new (at_server server _ w told new (λ out before after does. on_way_keeps dest _ out before after does) is)
does_add (Cut server dest) w told new is = adds_nothing w new (at_server server _ w told new (λ out before after does. on_way_keeps dest _ out before after does) is)
does_add (Failed server dest) w told new is = adds_nothing w new (at_server server _ w told new (λ out before after does. on_way_keeps dest _ out before after does) is)
does_add (Post server dest) w told new is = adds_nothing w new (posted_keeps server dest w told new is)
does_add (Take packet) w told new is = adds_nothing w new (taken_keeps packet w told new is)
does_add (Settle packet) w told new is = adds_nothing w new (settled_keeps packet w told new is)
does_add (Apply server room) w told new is = adds_nothing w new (at_server server _ w told new (λ out before after does. given_keeps w.known (string_bytes room) out before after does) is)
does_add (Tick ms) w told new is = adds_nothing w new (ticked_keeps w ms told new is)
does_add (Show server origin) w told new is = adds_nothing w new (same_world_keeps w new is.1)
does_add (Calm rounds) w told new is = adds_nothing w new (reached_keeps w new (rounds_reach rounds w new is.1))

left_keeps : (step : Step) (w new : WorldState) → Leaves step w new → Keeps w new
left_keeps (Offer server draft) w new is = same_world_keeps w new is
left_keeps (OfferEdu server edu dests) w new is = same_world_keeps w new is
left_keeps (Close server dest) w new is = same_world_keeps w new is
left_keeps (Collect server dest) w new is = same_world_keeps w new is
left_keeps (Cut server dest) w new is = absurd is
left_keeps (Failed server dest) w new is = absurd is
left_keeps (Post server dest) w new is = same_world_keeps w new is
left_keeps (Take packet) w new is = same_world_keeps w new is
left_keeps (Settle packet) w new is = same_world_keeps w new is
left_keeps (Apply server room) w new is = in_part_keeps server _ w new (λ before after part. part_keeps part.place before after part.in_part) is
left_keeps (Tick ms) w new is = absurd is
left_keeps (Show server origin) w new is = absurd is
left_keeps (Calm rounds) w new is = reached_in_part_keeps w new (rounds_in_part rounds w new is)

makes_add : (step : Step) (w : WorldState) (told : Outcome) (new : WorldState) → Makes step w told new → Adds w new
makes_add step w told new (made does) = does_add step w told new does
makes_add step w told new (refused says leaves) = adds_nothing w new (left_keeps step w new leaves)

-- ---- a run

-- an entry of the longer list is one of the shorter list, or the last
last_or_earlier : (xs : List Entry) (x : Entry) (k : ℕ) (y : Entry) → slice_get (xs ++ x ∷ []) k ≡ Some y → (slice_get xs k ≡ Some y) ⊎ (x ≡ y)
last_or_earlier [] x zero y e = inr (same_some x y e)
last_or_earlier [] x (suc k) y e = absurd (not_none y e)
last_or_earlier (z ∷ xs) x zero y e = inl e
last_or_earlier (z ∷ xs) x (suc k) y e = last_or_earlier xs x k y e

-- the rooms of a server are well formed, and each event of its journal is inside one of them
record IsInSome (names known : List (List ℕ)) (s : ServerState) (event : CheckedEvent) (dests : List ℕ) : Type 0 where
  place : ℕ
  place_is : place_of known (room_id_of event.event) ≡ Some place
  room : RoomState
  room_is : slice_get s.rooms place ≡ Some room
  inside : IsInside names s.own room event dests

record IsWell (names known : List (List ℕ)) (s : ServerState) : Type 0 where
  rooms : (r : ℕ) (room : RoomState) → slice_get s.rooms r ≡ Some room → IsRoom room_rules room
  events : (k : ℕ) (event : CheckedEvent) (dests : List ℕ) → slice_get s.journal k ≡ Some (entry.Event event dests) → IsInSome names known s event dests

well_grown : (o p : Option RoomState) (after : RoomState) → Grown o p → p ≡ Some after → ((room : RoomState) → o ≡ Some room → IsRoom room_rules room) → IsRoom room_rules after
well_grown _ _ after no_room e well = absurd (not_none after e)
well_grown _ _ after (given before inputs may) e well =
    subst (IsRoom room_rules) (same_some (room_after room_rules before inputs) after e) (inputs_keep room_rules before inputs (well before refl) may)

module _ (names known : List (List ℕ)) (before after : ServerState) (moved : Moved before after) (well : IsWell names known before) where
  rooms_well : (r : ℕ) (room : RoomState) → slice_get after.rooms r ≡ Some room → IsRoom room_rules room
  rooms_well r room e = well_grown (slice_get before.rooms r) (slice_get after.rooms r) room (moved.rooms r) e (well.rooms r)

  stays_in : (event : CheckedEvent) (dests : List ℕ) → IsInSome names known before event dests → IsInSome names known after event dests
  stays_in event dests h = by (slice_get before.rooms h.place) (slice_get after.rooms h.place) refl (moved.rooms h.place) h.room_is
    where
      by : (o p : Option RoomState) → slice_get after.rooms h.place ≡ p → Grown o p → o ≡ Some h.room → IsInSome names known after event dests
      by _ _ at no_room e = absurd (not_none h.room e)
      by _ _ at (given room inputs may) e =
          let same : h.room ≡ room = sym (same_some room h.room e) in
          record {
            place = h.place;
            place_is = h.place_is;
            room = room_after room_rules room inputs;
            room_is = at;
            inside =
                subst (λ own. IsInside names own (room_after room_rules room inputs) event dests) (sym moved.own)
                (inside_later names before.own room inputs (subst (IsRoom room_rules) same (well.rooms h.place h.room h.room_is)) may event dests (subst (λ r. IsInside names before.own r event dests) same h.inside));
          }

entering_is : (names known : List (List ℕ)) (before after : ServerState) (event : CheckedEvent) (dests : List ℕ) → Moved before after → IsWell names known before → IsEntering names known before after event dests → IsInSome names known after event dests
entering_is names known before after event dests moved well e = record {
  place = e.place;
  place_is = e.place_is;
  room = committed e.room event;
  room_is = e.after_is;
  inside = subst (λ own. IsInside names own (committed e.room event) event dests) (sym moved.own)
      (committed_inside names before.own e.room event dests (well.rooms e.place e.room e.room_is) e.ready e.accepted e.goes);
}

AllWell : WorldState → Type 0
AllWell w = (place : ℕ) (s : ServerState) → slice_get w.servers place ≡ Some s → IsWell w.names w.known s

well_after : (w new : WorldState) → Adds w new → AllWell w → AllWell new
unfolding AllWell
well_after w new adds well place s e = subst (λ names. IsWell names new.known s) (sym adds.names) (subst (λ known. IsWell w.names known s) (sym adds.known) (by (adds.servers place s e)))
  where
    by : Enters w place s → IsWell w.names w.known s
    by (as_before kept) =
        let h = well place kept.before kept.at in
        record {
          rooms = rooms_well w.names w.known kept.before s kept.moved h;
          events = λ k event dests at. stays_in w.names w.known kept.before s kept.moved h event dests (h.events k event dests (ap (λ j. slice_get j k) (sym kept.journal) ∙ at));
        }
    by (more b x is journal moved entering) =
        let h = well place b is in
        record {
          rooms = rooms_well w.names w.known b s moved h;
          events = λ k event dests at. which k event dests h (last_or_earlier b.journal x k (entry.Event event dests) (ap (λ j. slice_get j k) (sym journal) ∙ at));
        }
      where
        which : (k : ℕ) (event : CheckedEvent) (dests : List ℕ) → IsWell w.names w.known b → (slice_get b.journal k ≡ Some (entry.Event event dests)) ⊎ (x ≡ entry.Event event dests) → IsInSome w.names w.known s event dests
        which k event dests h (inl earlier) = stays_in w.names w.known b s moved h event dests (h.events k event dests earlier)
        which k event dests h (inr last) = entering_is w.names w.known b s event dests moved h (subst (IsEntry w.names w.known b s) last entering)

-- ---- how it begins

all_received : (room : RoomState) (events : List CheckedEvent) → IsRoom room_rules room → IsRoom room_rules (after_all room_rules room events)
all_received room [] well = well
all_received room (event ∷ events) well =
    all_received (after_receipt room event (receipt_of room_rules room event)) events (input_keeps room_rules room (Receive event) well tt)

found_at : {X Y : Type 0} (f : X → Y) (xs : List X) (k : ℕ) (y : Y) → slice_get (map f xs) k ≡ Some y → (x : X) × ((slice_get xs k ≡ Some x) × (f x ≡ y))
found_at f [] k y e = absurd (not_none y e)
found_at f (x ∷ xs) zero y e = (x, (refl, same_some (f x) y e))
found_at f (x ∷ xs) (suc k) y e = found_at f xs k y e

module _ (setup : Setup) (begin : WorldState) (begins : Begins setup begin) where
  at_first : AllWell begin
  unfolding AllWell
  at_first place s e = record {
    rooms = λ r room at. room_well r room at;
    events = λ k event dests at. absurd (not_none _ (ap (λ j. slice_get j k) (sym empty) ∙ at));
  }
    where
      is : IsBeginning begin.names begin.known setup.rooms.items place s
      is = begins.servers place s e

      empty : s.journal ≡ []
      empty = ap (λ x. x.journal) is.new.is

      room_well : (r : ℕ) (room : RoomState) → slice_get s.rooms r ≡ Some room → IsRoom room_rules room
      room_well r room at =
          let found = found_at (λ (h : HostedState). room_of h.room) is.hosted r room (ap (λ rs. slice_get rs r) (sym (ap (λ x. x.rooms) is.new.is)) ∙ at) in
          let there = listed setup.rooms.items r (subst (λ n. r < n) is.count (slice_get_within is.hosted r found.0 found.1.0)) in
          let b = is.begun r found.0 found.1.0 there.0 there.1 in
          subst (IsRoom room_rules) (sym b.room_is ∙ found.1.1) (all_received empty_room b.events (new_room room_rules))

  run_well : (steps : List Step) (replies : List Outcome) (w : WorldState) → Ran begin steps replies w → AllWell w
  run_well _ _ _ begun = at_first
  run_well _ _ _ (next steps replies old new step told before makes) = well_after old new (makes_add step old told new makes) (run_well steps replies old before)

run_count : (setup : Setup) (begin : WorldState) → Begins setup begin → (steps : List Step) (replies : List Outcome) (w : WorldState) → Ran begin steps replies w → length w.servers ≡ length w.names
run_count setup begin begins _ _ _ begun = begins.count
run_count setup begin begins _ _ _ (next steps replies old new step told before makes) =
    let adds = makes_add step old told new makes in
    adds.count ∙ run_count setup begin begins steps replies old before ∙ ap length (sym adds.names)

pub as_many : (setup : Setup) (steps : List Step) (replies : List Outcome) (w : WorldState) → IsRun setup steps replies w → length w.servers ≡ length w.names
as_many setup steps replies w is = run_count setup is.begin is.begins steps replies w is.ran

pub all_kept : (setup : Setup) (steps : List Step) (replies : List Outcome) (w : WorldState) → IsRun setup steps replies w → AllAreDestinations w
unfolding AllWell
all_kept setup steps replies w is place k s event dests at there =
    let some = (run_well setup is.begin is.begins steps replies w is.ran place s at).events k event dests there in
    record { place = some.place; place_is = some.place_is; room = some.room; room_is = some.room_is; stored = some.inside.stored; destinations = some.inside.destinations }

comes_well : (w : WorldState) → ComesOfRun w → AllWell w
comes_well _ (begins_run setup w begins) = at_first setup w begins
comes_well _ (by_step step old told new before makes) = well_after old new (makes_add step old told new makes) (comes_well old before)
comes_well _ (within_round old new before reached) = well_after old new (adds_nothing old new (reached_in_part_keeps old new reached)) (comes_well old before)

pub all_rooms : (w : WorldState) → ComesOfRun w → (place : ℕ) (s : ServerState) → slice_get w.servers place ≡ Some s → (r : ℕ) (room : RoomState) → slice_get s.rooms r ≡ Some room → IsRoom room_rules room
unfolding AllWell
all_rooms w comes place s at = (comes_well w comes place s at).rooms
