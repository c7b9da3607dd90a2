-- In a world that comes of a run every unanswered transaction is due within an hour of the present moment.
use Rattle.std.proofs.Common.{arith, ◌≡◌, ◌≢◌, ◌⊎◌, inl, inr, ℕ, zero, suc, ◌+◌, ◌≤◌, nat_lt, ◌==◌, Bool, true, false, cond, List, [], ◌∷◌, length, map, Option, Some, None, refl, sym, ap, subst, ◌∙◌}
use Rattle.std.specs.Prelude.{slice_get, string_bytes}
use Rattle.std.specs.List.{range_with_len}
use Rattle.std.specs.Option.{option_map_or}
use Rattle.std.proofs.lemmas.Bool.{cases_Bool}
use Rattle.fed_journal.specs.declared.entry.Entry.{Entry}
use Rattle.fed_journal.specs.declared.parcel.Load.{Load}
use Rattle.fed_journal.specs.declared.parcel.Load.TheVariants.{Event, Edu, End}
use Rattle.fed_journal.specs.declared.parcel.Parcel.{Parcel}
use Rattle.fed_outbox.specs.Answering.{failed_once, answered}
use Rattle.fed_outbox.specs.Collecting.{Way, collected_of}
use Rattle.fed_outbox.specs.Outbox.{OutboxState, cut, can_cut, fits, with_load, failed, settle, has_number, one_failure_more, taken}
use Rattle.fed_outbox.specs.Transaction.{TransactionValue}
use Rattle.fed_outbox.proofs.Counts.{cut_where}
use Rattle.fed_sim.specs.declared.outcome.Outcome.{Outcome}
use Rattle.fed_sim.specs.declared.outcome.Outcome.TheVariants as outcome
use Rattle.fed_sim.specs.declared.setup.Setup.{Setup}
use Rattle.fed_sim.specs.declared.step.Step.{Step}
use Rattle.fed_sim.specs.declared.step.Step.TheVariants.{Offer, OfferEdu, Close, Collect, Cut, Failed, Post, Take, Settle, Apply, Tick, Show, Calm}
use Rattle.fed_sim.specs.Applying.{IsAppliedAt, no_room, nothing, arrived, IsAppliedInPart, same, in_part, IsGivenTo, unknown_room, known_room, IsGivenInPart}
use Rattle.fed_sim.specs.Offering.{IsOffered, IsOfferedAt, in_room, IsEduOffered, for_others, IsClosedFor}
use Rattle.fed_sim.specs.Offering as offering
use Rattle.fed_sim.specs.Packets as packets
use Rattle.fed_sim.specs.Packets.{IsPosted, IsTaken, IsSettled}
use Rattle.fed_sim.specs.Running.{Begins, IsBeginning, ComesOfRun, begins_run, by_step, within_round}
use Rattle.fed_sim.specs.Server.{ServerState}
use Rattle.fed_sim.specs.Steps as steps
use Rattle.fed_sim.specs.Steps.{Moves, posted, settled, given, risen, Reached, no_step, one_more, ReachedInPart, before_it, in_it, Does, Leaves, Makes, made, refused}
use Rattle.fed_sim.specs.Taking.{IsTakeAt}
use Rattle.fed_sim.specs.Way.{new_way}
use Rattle.fed_sim.specs.Ways.{way_to, with_way, ways_beyond, IsOnWay, collecting, cutting, failing, settling}
use Rattle.fed_sim.specs.World.{WorldState, with_server, at_moment, max_moment, ticked, AtServer, nowhere, somewhere, AtServerInPart}
use Rattle.fed_sim.proofs.Between.{set_or_other, way_there}
use Rattle.fed_sim.proofs.Landing.{same_some, not_none}
use Rattle.fed_sim.proofs.CalmSteps.{rounds_reach, rounds_in_part}

-- ---- one way

abbrev pub hour : ℕ
hour = 3600000

-- the unanswered transaction is due by this moment
abbrev pub IsBy : ℕ → OutboxState → Type 0
IsBy bound outbox = outbox.due_at ≤ bound

loaded_by : (bound : ℕ) (o : OutboxState) (load : Load) → IsBy bound o → IsBy bound (with_load o load)
loaded_by bound o (Event event) is = is
loaded_by bound o (Edu edu) is = is
loaded_by bound o End is = is

collected_by : (bound : ℕ) (queue : List Parcel) (o : OutboxState) → IsBy bound o → IsBy bound (collected_of queue o).outbox
collected_by bound [] o is = is
collected_by bound (parcel ∷ later) o is = by (fits o parcel.place)
  where
    by : (b : Bool) → IsBy bound (cond {A = Way} b (record { queue = later; outbox = with_load o parcel.load }) (record { queue = parcel ∷ later; outbox = o })).outbox
    by true = loaded_by bound o parcel.load is
    by false = is

pub cut_by : (bound now : ℕ) (o : OutboxState) → now ≤ bound → IsBy bound o → IsBy bound (cut o now)
cut_by bound now o early is = by (cases_Bool (can_cut o))
  where
    by : (can_cut o ≡ true) ⊎ (can_cut o ≡ false) → IsBy bound (cut o now)
    by (inl can) = subst (IsBy bound) (sym (cut_where o now can)) early
    by (inr cannot) = subst (IsBy bound) (sym (unchanged cannot)) is
      where
        unchanged : can_cut o ≡ false → cut o now ≡ o
        unchanged e = rw e refl

failure_by : (bound now : ℕ) (o : OutboxState) → now + hour ≤ bound → IsBy bound (one_failure_more o now)
failure_by bound now o early = omega (arith, early)

failed_by : (bound now n : ℕ) (o : OutboxState) → now + hour ≤ bound → IsBy bound o → IsBy bound (failed o n now)
failed_by bound now n o early is = by (has_number o.unanswered n)
  where
    by : (b : Bool) → IsBy bound (cond b (one_failure_more o now) o)
    by true = failure_by bound now o early
    by false = is

failed_once_by : (bound now : ℕ) (o : OutboxState) → now + hour ≤ bound → IsBy bound o → IsBy bound (failed_once o now)
failed_once_by bound now o early is = by o.unanswered refl
  where
    by : (u : Option TransactionValue) → o.unanswered ≡ u → IsBy bound (failed_once o now)
    by None none = subst (IsBy bound) (sym (unchanged none)) is
      where
        unchanged : o.unanswered ≡ None → failed_once o now ≡ o
        unchanged e = rw e refl
    by (Some t) some = subst (IsBy bound) (sym (has_failed some)) (failed_by bound now t.number o early is)
      where
        has_failed : o.unanswered ≡ Some t → failed_once o now ≡ failed o t.number now
        has_failed e = rw e refl

-- what is answered with 200 is due no more
pub success_by : (bound now n : ℕ) (o : OutboxState) → IsBy bound o → IsBy bound (settle o n 200 now)
success_by bound now n o is = by (has_number o.unanswered n)
  where
    by : (b : Bool) → IsBy bound (cond b (taken o) o)
    by true = omega arith
    by false = is

settle_by : (bound now n status : ℕ) (o : OutboxState) → now + hour ≤ bound → IsBy bound o → IsBy bound (settle o n status now)
settle_by bound now n status o early is = by (has_number o.unanswered n) (status == 200)
  where
    by : (a b : Bool) → IsBy bound (cond a (cond b (taken o) (one_failure_more o now)) o)
    by true true = omega arith
    by true false = failure_by bound now o early
    by false b = is

answered_by : (bound now n : ℕ) (status : Option ℕ) (o : OutboxState) → now + hour ≤ bound → IsBy bound o → IsBy bound (answered o n status now)
answered_by bound now n (Some status) o early is = settle_by bound now n status o early is
answered_by bound now n None o early is = failed_by bound now n o early is

-- ---- one server

abbrev pub AreBy : ℕ → ServerState → Type 0
AreBy bound s = (d : ℕ) (way : Way) → slice_get s.ways d ≡ Some way → IsBy bound way.outbox

-- it is so still
abbrev Keeps : ℕ → ServerState → ServerState → Type 0
Keeps bound before after = AreBy bound before → AreBy bound after

same_ways : (bound : ℕ) (before after : ServerState) → after.ways ≡ before.ways → Keeps bound before after
same_ways bound before after equal are d way at = are d way (ap (λ ways. slice_get ways d) (sym equal) ∙ at)

-- what is placed for them changes no outbox
beyond_by : (bound n : ℕ) (front entries : List Entry) (ways : List Way) → ((d : ℕ) (way : Way) → slice_get ways d ≡ Some way → IsBy bound way.outbox)
    → (d : ℕ) (way : Way) → slice_get (ways_beyond n front entries ways) d ≡ Some way → IsBy bound way.outbox
beyond_by bound n front entries [] are d way at = absurd (not_none way at)
beyond_by bound n front entries (first ∷ ways) are zero way at = subst (λ (w : Way). IsBy bound w.outbox) (same_some _ way at) (are zero first refl)
beyond_by bound n front entries (first ∷ ways) are (suc d) way at = beyond_by bound (n + 1) front entries ways (λ k w there. are (suc k) w there) d way at

offered_by : (bound : ℕ) (names known : List (List ℕ)) (draft : _) (before : ServerState) (told : Outcome) (after : ServerState) → IsOffered names known draft before told after → Keeps bound before after
offered_by bound names known draft before told after (offering.unknown_room none is same_server) = same_ways bound before after (ap (λ (s : ServerState). s.ways) same_server)
offered_by bound names known draft before told after (offering.known_room place is at_it) = by told after at_it
  where
    by : (told : Outcome) (after : ServerState) → IsOfferedAt names place draft before told after → Keeps bound before after
    by _ _ (in_room room later_room told entries here does) are = beyond_by bound 0 before.journal entries before.ways are

edu_by : (bound : ℕ) (value : _) (dests : List ℕ) (before : ServerState) (told : Outcome) (after : ServerState) → IsEduOffered value dests before told after → Keeps bound before after
edu_by bound value dests before _ _ (for_others told entries does) are = beyond_by bound 0 before.journal entries before.ways are

close_by : (bound d : ℕ) (before : ServerState) (told : Outcome) (after : ServerState) → IsClosedFor d before told after → Keeps bound before after
close_by bound d before _ _ (offering.no_way none) are = are
close_by bound d before _ _ (offering.on_way way told entries there does) are = beyond_by bound 0 before.journal entries before.ways are

arrived_by : (bound place : ℕ) (before : ServerState) (told : Outcome) (after : ServerState) → IsAppliedAt place before told after → Keeps bound before after
arrived_by bound place before _ _ (no_room none) are = are
arrived_by bound place before _ _ (nothing none) are = are
arrived_by bound place before _ _ (arrived room later_room event later told is applied) are = are

part_by : (bound place : ℕ) (before after : ServerState) → IsAppliedInPart place before after → Keeps bound before after
part_by bound place before _ same are = are
part_by bound place before _ (in_part room later_room event later is stopped) are = are

given_by : (bound : ℕ) (known : List (List ℕ)) (id : List ℕ) (before : ServerState) (told : Outcome) (after : ServerState) → IsGivenTo known id before told after → Keeps bound before after
given_by bound known id before _ _ (unknown_room none) are = are
given_by bound known id before _ _ (known_room told after place is at_it) are = arrived_by bound place before told after at_it are

-- what is done on a way
abbrev StaysBy : ℕ → (Way → Outcome × Way) → Type 0
StaysBy bound step = (way : Way) → IsBy bound way.outbox → IsBy bound (step way).1.outbox

way_by : (bound d : ℕ) (step : Way → Outcome × Way) → StaysBy bound step → (before : ServerState) (told : Outcome) (after : ServerState) → IsOnWay d step before told after → Keeps bound before after
way_by bound d step each before told after is = by (way_to before d) refl is
  where
    on : (way : Way) → way_to before d ≡ Some way → AreBy bound before → AreBy bound (with_way before d (step way).1)
    on way leads are k other at = choose (set_or_other before.ways d (step way).1 k other at)
      where
        choose : ((k ≡ d) × ((step way).1 ≡ other)) ⊎ ((k ≢ d) × (slice_get before.ways k ≡ Some other)) → IsBy bound other.outbox
        choose (inl (here, it)) = subst (λ (w : Way). IsBy bound w.outbox) it (each way (are d way (way_there before d way leads).is))
        choose (inr (elsewhere, there)) = are k other there

    by : (found : Option Way) → way_to before d ≡ found → ◌≡◌ {A = Outcome × ServerState} (told, after) (option_map_or (λ way. ((step way).0, with_way before d (step way).1)) found (outcome.NoSuchServer, before))
        → Keeps bound before after
    by None leads e are = same_ways bound before after (ap (λ pair. pair.1.ways) e) are
    by (Some way) leads e are = subst (AreBy bound) (sym (ap (λ pair. pair.1) e)) (on way leads are)

received_by : (bound : ℕ) (known : List (List ℕ)) (request : _) (before : ServerState) (reply : _) (after : ServerState) → IsTakeAt known request before reply after → Keeps bound before after
received_by bound known request before reply after is = same_ways bound before after (ap (λ (s : ServerState). s.ways) is.others)

-- ---- the world

pub record AllBy (bound : ℕ) (w : WorldState) : Type 0 where
  pub each : (k : ℕ) (s : ServerState) → slice_get w.servers k ≡ Some s → AreBy bound s

changed : (bound : ℕ) (w : WorldState) (p : ℕ) (before after : ServerState) → slice_get w.servers p ≡ Some before → Keeps bound before after → AllBy bound w → AllBy bound (with_server w p after)
changed bound w p before after at keeps h = record { each = λ k s e. by k s (set_or_other w.servers p after k s e) }
  where
    by : (k : ℕ) (s : ServerState) → ((k ≡ p) × (after ≡ s)) ⊎ ((k ≢ p) × (slice_get w.servers k ≡ Some s)) → AreBy bound s
    by k s (inl (here, is)) = subst (AreBy bound) is (keeps (h.each p before at))
    by k s (inr (elsewhere, is)) = h.each k s is

module _ (bound : ℕ) where
  at_server : (place : ℕ) (DoesIt : ServerState → Outcome → ServerState → Type 0) (w : WorldState) (told : Outcome) (new : WorldState)
      → ((before : ServerState) (out : Outcome) (after : ServerState) → DoesIt before out after → Keeps bound before after) → AtServer place DoesIt w told new → AllBy bound w → AllBy bound new
  at_server place DoesIt w _ _ each (nowhere none) h = h
  at_server place DoesIt w _ _ each (somewhere told before after at does) h = changed bound w place before after at (each before told after does) h

  part_at : (place : ℕ) (DoesIt : ServerState → ServerState → Type 0) (w new : WorldState)
      → ((before after : ServerState) → DoesIt before after → Keeps bound before after) → AtServerInPart place DoesIt w new → AllBy bound w → AllBy bound new
  part_at place DoesIt w new each is h = subst (AllBy bound) (sym is.new_is) (changed bound w place is.before is.after is.server_is (each is.before is.after is.does) h)

  pub on_way_by : (place d : ℕ) (step : Way → Outcome × Way) (w : WorldState) (told : Outcome) (new : WorldState) → StaysBy bound step → AtServer place (IsOnWay d step) w told new → AllBy bound w → AllBy bound new
  on_way_by place d step w told new each is h = at_server place (IsOnWay d step) w told new (way_by bound d step each) is h

  pub collects_by : (server dest : ℕ) (w : WorldState) (told : Outcome) (new : WorldState) → AtServer server (IsOnWay dest collecting) w told new → AllBy bound w → AllBy bound new
  collects_by server dest w told new = on_way_by server dest collecting w told new (λ way is. collected_by bound way.queue way.outbox is)

  pub cuts_by : (server dest : ℕ) (w : WorldState) (told : Outcome) (new : WorldState) → w.now ≤ bound → AtServer server (IsOnWay dest (cutting w.now)) w told new → AllBy bound w → AllBy bound new
  cuts_by server dest w told new early = on_way_by server dest (cutting w.now) w told new (λ way is. cut_by bound w.now way.outbox early is)

  fails_by : (server dest : ℕ) (w : WorldState) (told : Outcome) (new : WorldState) → w.now + hour ≤ bound → AtServer server (IsOnWay dest (failing w.now)) w told new → AllBy bound w → AllBy bound new
  fails_by server dest w told new early = on_way_by server dest (failing w.now) w told new (λ way is. failed_once_by bound w.now way.outbox early is)

  pub posted_by : (server dest : ℕ) (w : WorldState) (told : Outcome) (new : WorldState) → IsPosted server dest w told new → AllBy bound w → AllBy bound new
  posted_by server dest w _ _ (packets.no_sender none) h = h
  posted_by server dest w _ _ (packets.no_way s is none) h = h
  posted_by server dest w _ _ (packets.nothing s way on none) h = h
  posted_by server dest w _ _ (packets.not_due s way t on is early) h = h
  posted_by server dest w _ _ (packets.posted s way t name on unanswered due name_is readable) h = record { each = h.each }

  pub taken_by : (k : ℕ) (w : WorldState) (told : Outcome) (new : WorldState) → IsTaken k w told new → AllBy bound w → AllBy bound new
  taken_by k w _ _ (packets.no_request none) h = h
  taken_by k w _ _ (packets.no_text server dest n bytes packet none) h = h
  taken_by k w _ _ (packets.no_receiver server dest n bytes packet none) h = h
  taken_by k w _ _ (packets.taken server dest n bytes r before after reply packet reads at is) h = record { each = (changed bound w dest before after at (received_by bound w.known r before reply after is) h).each }

  settled_by : (k : ℕ) (w : WorldState) (told : Outcome) (new : WorldState) → w.now + hour ≤ bound → IsSettled k w told new → AllBy bound w → AllBy bound new
  settled_by k w told new early (packets.no_answer none says is) h = subst (AllBy bound) (sym is) h
  settled_by k w told new early (packets.settled server dest n reply status packet read does) h =
      on_way_by server dest (settling n status w.now) w told new (λ way is. answered_by bound w.now n status way.outbox early is) does h

  pub gives_by : (server place : ℕ) (w : WorldState) (told : Outcome) (new : WorldState) → AtServer server (IsAppliedAt place) w told new → AllBy bound w → AllBy bound new
  gives_by server place w told new does h = at_server server _ w told new (arrived_by bound place) does h

-- ---- an hour later at most

abbrev pub AllSoon : WorldState → Type 0
AllSoon w = AllBy (w.now + hour) w

later_by : (a b : ℕ) (w : WorldState) → a ≤ b → AllBy a w → AllBy b w
later_by a b w more h = record { each = λ k s at d way there. let soon = h.each k s at d way there in omega (arith, soon, more) }

pub at_server_now : (place : ℕ) (DoesIt : ServerState → Outcome → ServerState → Type 0) (w : WorldState) (told : Outcome) (new : WorldState) → AtServer place DoesIt w told new → w.now ≡ new.now
at_server_now place DoesIt w _ _ (nowhere none) = refl
at_server_now place DoesIt w _ _ (somewhere told before after at does) = refl

-- a step that takes no time
in_no_time : (w new : WorldState) → w.now ≡ new.now → AllBy (w.now + hour) new → AllSoon new
in_no_time w new equal h = subst (λ now. AllBy (now + hour) new) equal h

posted_now : (server dest : ℕ) (w : WorldState) (told : Outcome) (new : WorldState) → IsPosted server dest w told new → w.now ≡ new.now
posted_now server dest w _ _ (packets.no_sender none) = refl
posted_now server dest w _ _ (packets.no_way s is none) = refl
posted_now server dest w _ _ (packets.nothing s way on none) = refl
posted_now server dest w _ _ (packets.not_due s way t on is early) = refl
posted_now server dest w _ _ (packets.posted s way t name on unanswered due name_is readable) = refl

pub taken_now : (k : ℕ) (w : WorldState) (told : Outcome) (new : WorldState) → IsTaken k w told new → w.now ≡ new.now
taken_now k w _ _ (packets.no_request none) = refl
taken_now k w _ _ (packets.no_text server dest n bytes packet none) = refl
taken_now k w _ _ (packets.no_receiver server dest n bytes packet none) = refl
taken_now k w _ _ (packets.taken server dest n bytes r before after reply packet reads at is) = refl

settled_now : (k : ℕ) (w : WorldState) (told : Outcome) (new : WorldState) → IsSettled k w told new → w.now ≡ new.now
settled_now k w told new (packets.no_answer none says is) = ap (λ (x : WorldState). x.now) (sym is)
settled_now k w told new (packets.settled server dest n reply status packet read does) = at_server_now server _ w told new does

ticked_soon : (ms : ℕ) (w : WorldState) (told : Outcome) (new : WorldState) → ◌≡◌ {A = Outcome × WorldState} (told, new) (ticked ms w) → AllSoon w → AllSoon new
ticked_soon ms w told new is h = by (nat_lt max_moment (w.now + ms)) is
  where
    by : (b : Bool) → ◌≡◌ {A = Outcome × WorldState} (told, new) (cond b (outcome.TooLate, w) (outcome.Now (w.now + ms), at_moment w (w.now + ms))) → AllSoon new
    by true e = subst AllSoon (sym (ap (λ pair. pair.1) e)) h
    by false e = subst AllSoon (sym (ap (λ pair. pair.1) e)) (record { each = (later_by (w.now + hour) ((w.now + ms) + hour) w (omega arith) h).each })

collected_soon : (server dest : ℕ) (w : WorldState) (told : Outcome) (new : WorldState) → AtServer server (IsOnWay dest collecting) w told new → AllSoon w → AllSoon new
collected_soon server dest w told new does h = in_no_time w new (at_server_now server _ w told new does) (collects_by (w.now + hour) server dest w told new does h)

cut_soon : (server dest : ℕ) (w : WorldState) (told : Outcome) (new : WorldState) → AtServer server (IsOnWay dest (cutting w.now)) w told new → AllSoon w → AllSoon new
cut_soon server dest w told new does h = in_no_time w new (at_server_now server _ w told new does) (cuts_by (w.now + hour) server dest w told new (omega arith) does h)

posted_soon : (server dest : ℕ) (w : WorldState) (told : Outcome) (new : WorldState) → IsPosted server dest w told new → AllSoon w → AllSoon new
posted_soon server dest w told new is h = in_no_time w new (posted_now server dest w told new is) (posted_by (w.now + hour) server dest w told new is h)

taken_soon : (k : ℕ) (w : WorldState) (told : Outcome) (new : WorldState) → IsTaken k w told new → AllSoon w → AllSoon new
taken_soon k w told new is h = in_no_time w new (taken_now k w told new is) (taken_by (w.now + hour) k w told new is h)

settled_soon : (k : ℕ) (w : WorldState) (told : Outcome) (new : WorldState) → IsSettled k w told new → AllSoon w → AllSoon new
settled_soon k w told new is h = in_no_time w new (settled_now k w told new is) (settled_by (w.now + hour) k w told new (omega arith) is h)

here_soon : (place : ℕ) (DoesIt : ServerState → Outcome → ServerState → Type 0) (w : WorldState) (told : Outcome) (new : WorldState)
    → ((before : ServerState) (out : Outcome) (after : ServerState) → DoesIt before out after → Keeps (w.now + hour) before after) → AtServer place DoesIt w told new → AllSoon w → AllSoon new
here_soon place DoesIt w told new each does h = in_no_time w new (at_server_now place DoesIt w told new does) (at_server (w.now + hour) place DoesIt w told new each does h)

part_soon : (place : ℕ) (DoesIt : ServerState → ServerState → Type 0) (w new : WorldState) → ((before after : ServerState) → DoesIt before after → Keeps (w.now + hour) before after) → AtServerInPart place DoesIt w new
    → AllSoon w → AllSoon new
part_soon place DoesIt w new each is h = in_no_time w new (ap (λ (x : WorldState). x.now) (sym is.new_is)) (part_at (w.now + hour) place DoesIt w new each is h)

-- ---- the steps

moved : (w : WorldState) (told : Outcome) (new : WorldState) → Moves w told new → AllSoon w → AllSoon new
moved w told new (steps.collected server dest does) h = collected_soon server dest w told new does h
moved w told new (steps.cut server dest does) h = cut_soon server dest w told new does h
moved w told new (posted server dest is) h = posted_soon server dest w told new is h
moved w told new (steps.taken packet is) h = taken_soon packet w told new is h
moved w told new (settled packet is) h = settled_soon packet w told new is h
moved w told new (given server place does) h = here_soon server _ w told new (arrived_by (w.now + hour) place) does h
moved w told new (risen ms is) h = ticked_soon ms w told new is h

reached_soon : (w new : WorldState) → Reached w new → AllSoon w → AllSoon new
reached_soon w _ no_step h = h
reached_soon w _ (one_more between new told before moves) h = moved between told new moves (reached_soon w between before h)

reached_in_part : (w new : WorldState) → ReachedInPart w new → AllSoon w → AllSoon new
reached_in_part w new (before_it reached) h = reached_soon w new reached h
reached_in_part w new (in_it between server place reached is) h = part_soon server _ between new (part_by (between.now + hour) place) is (reached_soon w between reached h)

done : (step : Step) (w : WorldState) (told : Outcome) (new : WorldState) → Does step w told new → AllSoon w → AllSoon new
done (Offer server draft) w told new is h = here_soon server _ w told new (offered_by (w.now + hour) w.names w.known _) is h
done (OfferEdu server edu dests) w told new is h = here_soon server _ w told new (edu_by (w.now + hour) edu dests) is h
done (Close server dest) w told new is h = here_soon server _ w told new (close_by (w.now + hour) dest) is h
done (Collect server dest) w told new is h = collected_soon server dest w told new is h
done (Cut server dest) w told new is h = cut_soon server dest w told new is h
done (Failed server dest) w told new is h = in_no_time w new (at_server_now server _ w told new is) (fails_by (w.now + hour) server dest w told new (omega arith) is h)
done (Post server dest) w told new is h = posted_soon server dest w told new is h
done (Take packet) w told new is h = taken_soon packet w told new is h
done (Settle packet) w told new is h = settled_soon packet w told new is h
done (Apply server room) w told new is h = here_soon server _ w told new (given_by (w.now + hour) w.known (string_bytes room)) is h
done (Tick ms) w told new is h = ticked_soon ms w told new is h
done (Show server origin) w told new is h = subst AllSoon (sym is.1) h
done (Calm rounds) w told new is h = reached_soon w new (rounds_reach rounds w new is.1) h

left : (step : Step) (w new : WorldState) → Leaves step w new → AllSoon w → AllSoon new
left (Offer server draft) w new is h = subst AllSoon (sym is) h
left (OfferEdu server edu dests) w new is h = subst AllSoon (sym is) h
left (Close server dest) w new is h = subst AllSoon (sym is) h
left (Collect server dest) w new is h = subst AllSoon (sym is) h
left (Cut server dest) w new is h = absurd is
left (Failed server dest) w new is h = absurd is
left (Post server dest) w new is h = subst AllSoon (sym is) h
left (Take packet) w new is h = subst AllSoon (sym is) h
left (Settle packet) w new is h = subst AllSoon (sym is) h
left (Apply server room) w new is h =
    part_soon server _ w new (λ before after (part : IsGivenInPart w.known (string_bytes room) before after). part_by (w.now + hour) part.place before after part.in_part) is h
left (Tick ms) w new is h = absurd is
left (Show server origin) w new is h = absurd is
left (Calm rounds) w new is h = reached_in_part w new (rounds_in_part rounds w new is) h

makes_soon : (step : Step) (w : WorldState) (told : Outcome) (new : WorldState) → Makes step w told new → AllSoon w → AllSoon new
makes_soon step w told new (made does) h = done step w told new does h
makes_soon step w told new (refused says leaves) h = left step w new leaves h

-- none is due at the beginning
new_ways_by : (bound : ℕ) (dests : List ℕ) (d : ℕ) (way : Way) → slice_get (map new_way dests) d ≡ Some way → IsBy bound way.outbox
new_ways_by bound [] d way at = absurd (not_none way at)
new_ways_by bound (dest ∷ dests) zero way at = subst (λ (w : Way). IsBy bound w.outbox) (same_some (new_way dest) way at) (omega arith)
new_ways_by bound (dest ∷ dests) (suc d) way at = new_ways_by bound dests d way at

begins_soon : (setup : Setup) (w : WorldState) → Begins setup w → AllSoon w
begins_soon setup w b = record { each = λ k s e. by k s (b.servers k s e) }
  where
    by : (k : ℕ) (s : ServerState) → IsBeginning w.names w.known setup.rooms.items k s → AreBy (w.now + hour) s
    by k s is d way at = new_ways_by (w.now + hour) (range_with_len 0 (length w.names)) d way (ap (λ (t : ServerState). slice_get t.ways d) (sym is.new.is) ∙ at)

pub all_soon : (w : WorldState) → ComesOfRun w → AllSoon w
all_soon _ (begins_run setup w begins) = begins_soon setup w begins
all_soon _ (by_step step old told new before makes) = makes_soon step old told new makes (all_soon old before)
all_soon _ (within_round old new before reached) = reached_in_part old new reached (all_soon old before)
