-- In a world that comes of a run each server has its own place, a way for each name and each room that is known.
use Rattle.std.proofs.Common.{◌≡◌, ℕ, suc, ◌+◌, ◌≢◌, ◌⊎◌, inl, inr, nat_lt, Bool, true, false, if◌then◌else◌, List, [], ◌∷◌, length, Option, Some, None, refl, sym, ap, subst, ◌∙◌}
use Rattle.std.specs.Prelude.{slice_get, string_bytes}
use Rattle.std.specs.List.{range_with_len}
use Rattle.std.specs.Option.{option_map_or}
use denote.Struct.Props.{≡_prop}
use Rattle.std.specs.Coded.{coded_ℕ, coded_list}
use Rattle.std.proofs.Math.Logic.{∥∥₁_elim}
use Rattle.std.proofs.Math.Nat.{ℕ_set}
use Rattle.std.proofs.lemmas.List.{length-map, length-set}
use Rattle.std.proofs.lemmas.List.FromFn.{length-range_with_len}
use Rattle.fed_keys.specs.StandIn.{stand_in_checks}
use Rattle.fed_inbox.specs.Rooms.{room_set}
use Rattle.fed_journal.specs.declared.entry.Entry.{Entry}
use Rattle.fed_room.specs.Room.{room_of}
use Rattle.fed_outbox.specs.Collecting.{Way}
use Rattle.fed_sim.specs.declared.outcome.Outcome.{Outcome}
use Rattle.fed_sim.specs.declared.outcome.Outcome.TheVariants as outcome
use Rattle.fed_sim.specs.declared.setup.RoomSetup.{RoomSetup}
use Rattle.fed_sim.specs.declared.setup.Setup.{Setup}
use Rattle.fed_sim.specs.declared.step.Step.{Step}
use Rattle.fed_sim.specs.declared.step.Step.TheVariants.{Offer, OfferEdu, Close, Collect, Cut, Failed, Post, Take, Settle, Apply, Tick, Show, Calm}
use Rattle.fed_sim.specs.Applying.{IsAppliedAt, no_room, nothing, arrived, IsAppliedInPart, same, in_part, IsGivenTo, unknown_room, known_room, IsGivenInPart}
use Rattle.fed_sim.specs.Hosted.{HostedState}
use Rattle.fed_sim.specs.Offering.{IsOffered, IsOfferedAt, in_room, IsEduOffered, for_others, IsClosedFor}
use Rattle.fed_sim.specs.Offering as offering
use Rattle.fed_sim.specs.Packets as packets
use Rattle.fed_sim.specs.Packets.{IsPosted, IsTaken, IsSettled}
use Rattle.fed_sim.specs.Running.{Begins, IsBeginning, ComesOfRun, begins_run, by_step, within_round}
use Rattle.fed_sim.specs.Server.{ServerState}
use Rattle.fed_sim.specs.Shape.{IsShaped, HasShape}
use Rattle.fed_sim.specs.Steps.{Moves, collected, cut, posted, taken, settled, given, risen, Reached, no_step, one_more, ReachedInPart, before_it, in_it, Does, Leaves, Makes, made, refused}
use Rattle.fed_sim.specs.Taking.{IsTakeAt}
use Rattle.fed_sim.specs.Way.{new_way}
use Rattle.fed_sim.specs.Ways.{way_to, with_way, ways_beyond, IsOnWay}
use Rattle.fed_sim.specs.World.{WorldState, with_server, at_moment, max_moment, ticked, AtServer, nowhere, somewhere, AtServerInPart}
use Rattle.fed_sim.proofs.Between.{set_or_other}
use Rattle.fed_sim.proofs.Fresh.{rooms_stay_known}
use Rattle.fed_sim.proofs.CalmSteps.{rounds_reach, rounds_in_part}

-- ---- one server

record Keeps (before after : ServerState) : Type 0 where
  pub own : after.own ≡ before.own
  pub ways : length after.ways ≡ length before.ways
  pub rooms : length after.rooms ≡ length before.rooms
  pub inbox : after.inbox.rooms ≡ before.inbox.rooms

itself : (s : ServerState) → Keeps s s
itself s = record { own = refl; ways = refl; rooms = refl; inbox = refl }

keeps_same : (before after : ServerState) → after ≡ before → Keeps before after
keeps_same before after is = subst (Keeps before) (sym is) (itself before)

length-ways_beyond : (n : ℕ) (front entries : List Entry) (ways : List Way) → length (ways_beyond n front entries ways) ≡ length ways
length-ways_beyond n front entries [] = refl
length-ways_beyond n front entries (way ∷ ways) = ap suc (length-ways_beyond (n + 1) front entries ways)

offered_keeps : (names known : List (List ℕ)) (draft : _) (before : ServerState) (told : Outcome) (after : ServerState) → IsOffered names known draft before told after → Keeps before after
offered_keeps names known draft before told after (offering.unknown_room none is same_server) = keeps_same before after same_server
offered_keeps names known draft before told after (offering.known_room place is at_it) = by told after at_it
  where
    by : (told : Outcome) (after : ServerState) → IsOfferedAt names place draft before told after → Keeps before after
    by _ _ (in_room room now told entries here does) =
        record { own = refl; ways = length-ways_beyond 0 before.journal entries before.ways; rooms = length-set before.rooms place now; inbox = refl }

edu_keeps : (value : _) (dests : List ℕ) (before : ServerState) (told : Outcome) (after : ServerState) → IsEduOffered value dests before told after → Keeps before after
edu_keeps value dests before _ _ (for_others told entries does) = record { own = refl; ways = length-ways_beyond 0 before.journal entries before.ways; rooms = refl; inbox = refl }

close_keeps : (d : ℕ) (before : ServerState) (told : Outcome) (after : ServerState) → IsClosedFor d before told after → Keeps before after
close_keeps d before _ _ (offering.no_way none) = itself before
close_keeps d before _ _ (offering.on_way way told entries there does) = record { own = refl; ways = length-ways_beyond 0 before.journal entries before.ways; rooms = refl; inbox = refl }

arrived_keeps : (place : ℕ) (before : ServerState) (told : Outcome) (after : ServerState) → IsAppliedAt place before told after → Keeps before after
arrived_keeps place before _ _ (no_room none) = itself before
arrived_keeps place before _ _ (nothing none) = itself before
arrived_keeps place before _ _ (arrived room now event later told is applied) = record { own = refl; ways = refl; rooms = length-set before.rooms place now; inbox = refl }

part_keeps : (place : ℕ) (before after : ServerState) → IsAppliedInPart place before after → Keeps before after
part_keeps place before _ same = itself before
part_keeps place before _ (in_part room now event later is stopped) = record { own = refl; ways = refl; rooms = length-set before.rooms place now; inbox = refl }

given_keeps : (known : List (List ℕ)) (id : List ℕ) (before : ServerState) (told : Outcome) (after : ServerState) → IsGivenTo known id before told after → Keeps before after
given_keeps known id before _ _ (unknown_room none) = itself before
given_keeps known id before _ _ (known_room told after place is at_it) = arrived_keeps place before told after at_it

way_keeps : (d : ℕ) (step : Way → Outcome × Way) (before : ServerState) (told : Outcome) (after : ServerState) → IsOnWay d step before told after → Keeps before after
way_keeps d step before told after is = by (way_to before d) is
  where
    by : (found : Option Way) → ◌≡◌ {A = Outcome × ServerState} (told, after) (option_map_or (λ way. ((step way).0, with_way before d (step way).1)) found (outcome.NoSuchServer, before)) → Keeps before after
    by None e = keeps_same before after (ap (λ pair. pair.1) e)
    by (Some way) e =
        subst (Keeps before) (sym (ap (λ pair. pair.1) e)) (record { own = refl; ways = length-set before.ways d (step way).1; rooms = refl; inbox = refl })

received_keeps : (known : List (List ℕ)) (request : _) (before : ServerState) (reply : _) (after : ServerState) → IsTakeAt known request before reply after → Keeps before after
received_keeps known request before reply after is = record {
  own = ap (λ (s : ServerState). s.own) is.others;
  ways = ap (λ (s : ServerState). length s.ways) is.others;
  rooms = ap (λ (s : ServerState). length s.rooms) is.others;
  inbox = rooms_stay_known stand_in_checks before.inbox request reply after.inbox is.taken.fresh is.taken.answered;
}

-- ---- the world

module _ (w : WorldState) (p : ℕ) (before after : ServerState) (at : slice_get w.servers p ≡ Some before) (keeps : Keeps before after) (h : HasShape w) where
  shaped_then : HasShape (with_server w p after)
  shaped_then = record { count = length-set w.servers p after ∙ h.count; servers = λ k s e. by k s (set_or_other w.servers p after k s e) }
    where
      now : IsShaped (length w.names) w.known p after
      now = let old = h.servers p before at in record { own = keeps.own ∙ old.own; ways = keeps.ways ∙ old.ways; rooms = keeps.rooms ∙ old.rooms; inbox = keeps.inbox ∙ old.inbox }

      by : (k : ℕ) (s : ServerState) → ((k ≡ p) × (after ≡ s)) ⊎ ((k ≢ p) × (slice_get w.servers k ≡ Some s)) → IsShaped (length w.names) w.known k s
      by k s (inl (here, is)) = subst (IsShaped (length w.names) w.known k) is (subst (λ j. IsShaped (length w.names) w.known j after) (sym here) now)
      by k s (inr (elsewhere, is)) = h.servers k s is

at_server : (place : ℕ) (DoesIt : ServerState → Outcome → ServerState → Type 0) (w : WorldState) (told : Outcome) (new : WorldState)
    → ((before : ServerState) (out : Outcome) (after : ServerState) → DoesIt before out after → Keeps before after) → AtServer place DoesIt w told new → HasShape w → HasShape new
at_server place DoesIt w _ _ each (nowhere none) h = h
at_server place DoesIt w _ _ each (somewhere told before after at does) h = shaped_then w place before after at (each before told after does) h

part_at : (place : ℕ) (DoesIt : ServerState → ServerState → Type 0) (w new : WorldState)
    → ((before after : ServerState) → DoesIt before after → Keeps before after) → AtServerInPart place DoesIt w new → HasShape w → HasShape new
part_at place DoesIt w new each is h = subst HasShape (sym is.new_is) (shaped_then w place is.before is.after is.server_is (each is.before is.after is.does) h)

posted_shaped : (server dest : ℕ) (w : WorldState) (told : Outcome) (new : WorldState) → IsPosted server dest w told new → HasShape w → HasShape new
posted_shaped server dest w _ _ (packets.no_sender none) h = h
posted_shaped server dest w _ _ (packets.no_way s is none) h = h
posted_shaped server dest w _ _ (packets.nothing s way on none) h = h
posted_shaped server dest w _ _ (packets.not_due s way t on is early) h = h
posted_shaped server dest w _ _ (packets.posted s way t name on unanswered due name_is readable) h = record { count = h.count; servers = h.servers }

taken_shaped : (k : ℕ) (w : WorldState) (told : Outcome) (new : WorldState) → IsTaken k w told new → HasShape w → HasShape new
taken_shaped k w _ _ (packets.no_request none) h = h
taken_shaped k w _ _ (packets.no_text server dest n bytes packet none) h = h
taken_shaped k w _ _ (packets.no_receiver server dest n bytes packet none) h = h
taken_shaped k w _ _ (packets.taken server dest n bytes r before after reply packet reads at is) h =
    let there = shaped_then w dest before after at (received_keeps w.known r before reply after is) h in record { count = there.count; servers = there.servers }

settled_shaped : (k : ℕ) (w : WorldState) (told : Outcome) (new : WorldState) → IsSettled k w told new → HasShape w → HasShape new
settled_shaped k w told new (packets.no_answer none says is) h = subst HasShape (sym is) h
settled_shaped k w told new (packets.settled server dest n reply status packet read does) h = at_server server _ w told new (way_keeps dest _) does h

ticked_shaped : (ms : ℕ) (w : WorldState) (told : Outcome) (new : WorldState) → ◌≡◌ {A = Outcome × WorldState} (told, new) (ticked ms w) → HasShape w → HasShape new
ticked_shaped ms w told new is h = by (nat_lt max_moment (w.now + ms)) is
  where
    by : (b : Bool) → ◌≡◌ {A = Outcome × WorldState} (told, new) (if b then (outcome.TooLate, w) else (outcome.Now (w.now + ms), at_moment w (w.now + ms))) → HasShape new
    by true e = subst HasShape (sym (ap (λ pair. pair.1) e)) h
    by false e = subst HasShape (sym (ap (λ pair. pair.1) e)) (record { count = h.count; servers = h.servers })

-- ---- the steps

moved : (w : WorldState) (told : Outcome) (new : WorldState) → Moves w told new → HasShape w → HasShape new
moved w told new (collected server dest does) h = at_server server _ w told new (way_keeps dest _) does h
moved w told new (cut server dest does) h = at_server server _ w told new (way_keeps dest _) does h
moved w told new (posted server dest is) h = posted_shaped server dest w told new is h
moved w told new (taken packet is) h = taken_shaped packet w told new is h
moved w told new (settled packet is) h = settled_shaped packet w told new is h
moved w told new (given server place does) h = at_server server _ w told new (arrived_keeps place) does h
moved w told new (risen ms is) h = ticked_shaped ms w told new is h

reached_shaped : (w new : WorldState) → Reached w new → HasShape w → HasShape new
reached_shaped w _ no_step h = h
reached_shaped w _ (one_more between new told before moves) h = moved between told new moves (reached_shaped w between before h)

reached_in_part : (w new : WorldState) → ReachedInPart w new → HasShape w → HasShape new
reached_in_part w new (before_it reached) h = reached_shaped w new reached h
reached_in_part w new (in_it between server place reached is) h = part_at server _ between new (part_keeps place) is (reached_shaped w between reached h)

done : (step : Step) (w : WorldState) (told : Outcome) (new : WorldState) → Does step w told new → HasShape w → HasShape new
done (Offer server draft) w told new is h = at_server server _ w told new (offered_keeps w.names w.known _) is h
done (OfferEdu server edu dests) w told new is h = at_server server _ w told new (edu_keeps edu dests) is h
done (Close server dest) w told new is h = at_server server _ w told new (close_keeps dest) is h
done (Collect server dest) w told new is h = at_server server _ w told new (way_keeps dest _) is h
done (Cut server dest) w told new is h = at_server server _ w told new (way_keeps dest _) is h
done (Failed server dest) w told new is h = at_server server _ w told new (way_keeps dest _) is h
done (Post server dest) w told new is h = posted_shaped server dest w told new is h
done (Take packet) w told new is h = taken_shaped packet w told new is h
done (Settle packet) w told new is h = settled_shaped packet w told new is h
done (Apply server room) w told new is h = at_server server _ w told new (given_keeps w.known (string_bytes room)) is h
done (Tick ms) w told new is h = ticked_shaped ms w told new is h
done (Show server origin) w told new is h = subst HasShape (sym is.1) h
done (Calm rounds) w told new is h = reached_shaped w new (rounds_reach rounds w new is.1) h

left : (step : Step) (w new : WorldState) → Leaves step w new → HasShape w → HasShape new
left (Offer server draft) w new is h = subst HasShape (sym is) h
left (OfferEdu server edu dests) w new is h = subst HasShape (sym is) h
left (Close server dest) w new is h = subst HasShape (sym is) h
left (Collect server dest) w new is h = subst HasShape (sym is) h
left (Cut server dest) w new is h = absurd is
left (Failed server dest) w new is h = absurd is
left (Post server dest) w new is h = subst HasShape (sym is) h
left (Take packet) w new is h = subst HasShape (sym is) h
left (Settle packet) w new is h = subst HasShape (sym is) h
left (Apply server room) w new is h = part_at server _ w new (λ before after (part : IsGivenInPart w.known (string_bytes room) before after). part_keeps part.place before after part.in_part) is h
left (Tick ms) w new is h = absurd is
left (Show server origin) w new is h = absurd is
left (Calm rounds) w new is h = reached_in_part w new (rounds_in_part rounds w new is) h

makes_shaped : (step : Step) (w : WorldState) (told : Outcome) (new : WorldState) → Makes step w told new → HasShape w → HasShape new
makes_shaped step w told new (made does) h = done step w told new does h
makes_shaped step w told new (refused says leaves) h = left step w new leaves h

begins_shaped : (setup : Setup) (w : WorldState) → Begins setup w → HasShape w
begins_shaped setup w b = record { count = b.count; servers = λ k s e. by k s (b.servers k s e) }
  where
    by : (k : ℕ) (s : ServerState) → IsBeginning w.names w.known setup.rooms.items k s → IsShaped (length w.names) w.known k s
    by k s is =
        subst (IsShaped (length w.names) w.known k) (sym is.new.is)
        (record {
          own = refl;
          ways = length-map (range_with_len 0 (length w.names)) new_way ∙ length-range_with_len 0 (length w.names);
          rooms = length-map is.hosted (λ (h : HostedState). room_of h.room) ∙ is.count ∙ sym (length-map setup.rooms.items (λ (r : RoomSetup). string_bytes r.id)) ∙ ap length (sym b.known);
          inbox = refl;
        })

pub has_shape : (w : WorldState) → ComesOfRun w → HasShape w
has_shape _ (begins_run setup w begins) = begins_shaped setup w begins
has_shape _ (by_step step old told new before makes) = makes_shaped step old told new makes (has_shape old before)
has_shape _ (within_round old new before reached) = reached_in_part old new reached (has_shape old before)

-- ---- of a world that comes of some run

module _ (w : WorldState) (comes : ∥ ComesOfRun w ∥₁) where
  pub servers_count : length w.servers ≡ length w.names
  servers_count = ∥∥₁_elim comes (ℕ_set (length w.servers) (length w.names)) (λ c. (has_shape w c).count)

  pub ways_count : (k : ℕ) (s : ServerState) → slice_get w.servers k ≡ Some s → length s.ways ≡ length w.names
  ways_count k s at = ∥∥₁_elim comes (ℕ_set (length s.ways) (length w.names)) (λ c. ((has_shape w c).servers k s at).ways)

  pub rooms_count : (k : ℕ) (s : ServerState) → slice_get w.servers k ≡ Some s → length s.rooms ≡ length w.known
  rooms_count k s at = ∥∥₁_elim comes (ℕ_set (length s.rooms) (length w.known)) (λ c. ((has_shape w c).servers k s at).rooms)

  pub inbox_rooms : (k : ℕ) (s : ServerState) → slice_get w.servers k ≡ Some s → s.inbox.rooms ≡ room_set w.known
  inbox_rooms k s at = ∥∥₁_elim comes (≡_prop (coded_list (coded_list coded_ℕ)) s.inbox.rooms (room_set w.known)) (λ c. ((has_shape w c).servers k s at).inbox)
