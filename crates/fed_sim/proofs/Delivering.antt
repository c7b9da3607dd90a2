-- Calm rounds deliver everything.
use Rattle.std.proofs.Common.{arith, ◌≡◌, ◌≢◌, ◌⊎◌, inl, inr, ℕ, suc, ◌+◌, ◌-◌, ◌*◌, ◌≤◌, ◌<◌, List, [], ◌∷◌, ◌++◌, length, Option, Some, None, refl, sym, ap, subst, ◌∙◌, length-append}
use Rattle.std.specs.Prelude.{slice_get, option_and_then, option_map}
use denote.Struct.Props.{≡_prop}
use Rattle.std.specs.Coded.{coded_ℕ, coded_list}
use Rattle.std.proofs.Math.Logic.{∥∥₁_elim}
use Rattle.std.proofs.Math.Nat.{ℕ_set}
use Rattle.std.proofs.lemmas.Bool.{cases_eq, cases_lt}
use Rattle.std.proofs.lemmas.List.{append-nil, length-map}
use Rattle.std.proofs.lemmas.Option.{slice_get_within}
use Rattle.fed_json.specs.CanonicalText.{canonical_text}
use Rattle.fed_event.specs.Checked.{CheckedEvent}
use Rattle.fed_journal.specs.declared.entry.Entry.{Entry}
use Rattle.fed_journal.specs.Journal.{addressed, addressed_edus, parcels}
use Rattle.fed_outbox.specs.Collecting.{Way}
use Rattle.fed_outbox.specs.Following.{Follows}
use Rattle.fed_outbox.specs.Outbox.{unanswered_pdus, unanswered_edus}
use Rattle.fed_outbox.specs.Runs.{events_of, edus_of}
use Rattle.fed_outbox.specs.Transaction.{TransactionValue}
use Rattle.fed_inbox.specs.Inbox.{taken_of, taken_edus_of}
use Rattle.fed_sim.specs.declared.outcome.Outcome.{Outcome}
use Rattle.fed_sim.specs.Calm.{unsettled, unsettled_edus, parts, rounds_unanswered, rounds_for, last_start, NoneFailed, IsAllDelivered, CalmDelivers}
use Rattle.fed_sim.specs.Headline.{event_texts, edu_texts, IsDelivered}
use Rattle.fed_sim.specs.Rounds.{Times, never, once_more, ForEach, for_none, for_one_more, CollectsOne, IsExchanged, nothing, left_alone, brought, IsCalmWay, IsCalmPair, itself, apart, GivesOne, GivesAll, BringsFrom, GivesRooms, IsRound, AreRounds, due_at}
use Rattle.fed_sim.specs.Running.{ComesOfRun}
use Rattle.fed_sim.specs.Server.{ServerState}
use Rattle.fed_sim.specs.Steps.{Reached, no_step}
use Rattle.fed_sim.specs.Ways.{way_to, IsOnWay, cutting}
use Rattle.fed_sim.specs.World.{WorldState, AtServer, max_moment}
use Rattle.fed_sim.proofs.Between.{IsSound, way_there}
use Rattle.fed_sim.proofs.CalmSteps.{times_reach, each_reach, collect_reach, cut_reach, exchange_reach, pair_reach, from_reach, give_reach, rooms_reach, round_reach, waiting_at}
use Rattle.fed_sim.proofs.CalmWays.{Next, PairAt, pair_at, none_failed_within, settles, left, left_edus, IsAfter, after_round, times_now, times_by}
use Rattle.fed_sim.proofs.Delivered.{all_delivered}
use Rattle.fed_sim.proofs.Dues.{hour, AllBy, cuts_by, gives_by, on_way_by, success_by, all_soon, at_server_now}
use Rattle.fed_sim.proofs.Landing.{same_some}
use Rattle.fed_sim.proofs.Reaching.{reached_then}
use Rattle.fed_sim.proofs.Runs.{reached_sound, comes_sound}
use Rattle.fed_sim.proofs.Views.{Seen, seen, seen_in, seen_elsewhere, seen_given}
use Rattle.fed_sim.proofs.WayMoves.{Laws}

at_most_one : (v : Option TransactionValue) → rounds_unanswered v ≤ 1
at_most_one None = omega arith
at_most_one (Some t) = omega arith

module _ (laws : Laws) (next : Next) (start final : WorldState) (none : NoneFailed start final) (bound : ℕ) (within : bound ≤ max_moment) where
  -- a world on the way through the rounds
  record IsCalm (w : WorldState) : Type 0 where
    pub from : Reached start w
    pub sound : IsSound w
    pub early : w.now ≤ bound
    pub by : AllBy bound w

  none_within : (w new : WorldState) → IsCalm w → Reached new final → NoneFailed w new
  none_within w new calm later = none_failed_within start w new final none calm.from later

  -- ---- each part of a round leaves it so

  calm_times : (o d : ℕ) (w : WorldState) (n : ℕ) (new : WorldState) → Times (CollectsOne o d) w n new → IsCalm w → IsCalm new
  calm_times o d w n new collects calm =
      let reach = times_reach (CollectsOne o d) (collect_reach o d) w n new collects in
      let now = times_now o d w n new collects in
      let early = calm.early in
      record { from = reached_then start w new calm.from reach; sound = reached_sound laws w new reach calm.sound; early = omega (arith, now, early); by = times_by bound o d w n new collects calm.by }

  calm_cut : (o d : ℕ) (w new : WorldState) (told : Outcome) → AtServer o (IsOnWay d (cutting w.now)) w told new → IsCalm w → IsCalm new
  calm_cut o d w new told does calm =
      let reach = cut_reach o d w new (told, does) in
      let now = at_server_now o _ w told new does in
      let early = calm.early in
      record { from = reached_then start w new calm.from reach; sound = reached_sound laws w new reach calm.sound; early = omega (arith, now, early); by = cuts_by bound o d w told new early does calm.by }

  due_within : (o d due : ℕ) (w : WorldState) → due_at w o d ≡ Some due → IsCalm w → due ≤ bound
  due_within o d due w e calm =
      let waits = waiting_at w o d due e in
      let soon = calm.by.each o waits.server waits.on.server_is d waits.way (way_there waits.server d waits.way waits.on.way_is).is in
      let is = waits.due_is in
      omega (arith, soon, is)

  calm_exchange : (o d : ℕ) (w new : WorldState) → IsExchanged o d w new → Reached new final → IsCalm w → IsCalm new
  calm_exchange o d w _ (nothing e) later calm = calm
  calm_exchange o d w _ (left_alone due e late) later calm = calm
  calm_exchange o d w _ (brought due new e soon is) later calm =
      let s = settles laws o d due w new calm.sound soon is (none_within w new calm later) in
      let reach = exchange_reach o d w new (brought due new e soon is) in
      let now = s.now in
      let now_new = at_server_now o _ s.before s.told new s.does in
      let early = calm.early in
      let due_by = due_within o d due w e calm in
      record {
        from = reached_then start w new calm.from reach;
        sound = reached_sound laws w new reach calm.sound;
        early = omega (arith, now, now_new, early, due_by);
        by = on_way_by bound o d _ s.before s.told new (λ way by_bound. success_by bound s.before.now s.t.number way.outbox by_bound) s.does (s.by bound calm.by);
      }

  calm_way : (o d : ℕ) (w new : WorldState) → IsCalmWay o d w new → Reached new final → IsCalm w → IsCalm new
  calm_way o d w new is later calm =
      calm_exchange o d is.cut new is.exchanged later (calm_cut o d is.collected is.cut is.cuts.0 is.cuts.1 (calm_times o d w _ is.collected is.collects calm))

  calm_pair : (o d : ℕ) (w new : WorldState) → IsCalmPair o d w new → Reached new final → IsCalm w → IsCalm new
  calm_pair o d w _ (itself same) later calm = calm
  calm_pair o d w _ (apart new other is) later calm = calm_way o d w new is later calm

  calm_gives : (s place : ℕ) (w : WorldState) (n : ℕ) (new : WorldState) → Times (GivesOne s place) w n new → IsCalm w → IsCalm new
  calm_gives s place w _ _ never calm = calm
  calm_gives s place w _ _ (once_more n between new before does) calm =
      let h = calm_gives s place w n between before calm in
      let reach = give_reach s place between new does in
      let now = at_server_now s _ between does.0 new does.1 in
      let early = h.early in
      record { from = reached_then start between new h.from reach; sound = reached_sound laws between new reach h.sound; early = omega (arith, now, early); by = gives_by bound s place between does.0 new does.1 h.by }

  calm_rooms : (s : ℕ) (w : WorldState) (n : ℕ) (new : WorldState) → ForEach (GivesAll s) w n new → IsCalm w → IsCalm new
  calm_rooms s w _ _ for_none calm = calm
  calm_rooms s w _ _ (for_one_more n between new before does) calm = calm_gives s n between _ new does (calm_rooms s w n between before calm)

  calm_all_rooms : (w : WorldState) (n : ℕ) (new : WorldState) → ForEach GivesRooms w n new → IsCalm w → IsCalm new
  calm_all_rooms w _ _ for_none calm = calm
  calm_all_rooms w _ _ (for_one_more n between new before does) calm = calm_rooms n between _ new does (calm_all_rooms w n between before calm)

  -- ---- the way from o to d

  module _ (o d : ℕ) (apart_is : d ≢ o) (name : List ℕ) (journal : List Entry) where
    abbrev Has : Way → WorldState → Type 0
    Has way w = seen o d w ≡ Some (name, journal, way)

    -- nothing that is done elsewhere changes it
    times_elsewhere : (a b : ℕ) → (a ≡ o → d ≢ b) → (w : WorldState) (n : ℕ) (new : WorldState) → Times (CollectsOne a b) w n new → seen o d new ≡ seen o d w
    times_elsewhere a b other w _ _ never = refl
    times_elsewhere a b other w _ _ (once_more n between new before does) = seen_elsewhere o d a b _ between does.0 new other does.1 ∙ times_elsewhere a b other w n between before

    exchange_elsewhere : (a b : ℕ) → (a ≡ o → d ≢ b) → (w new : WorldState) → IsExchanged a b w new → Reached new final → IsCalm w → seen o d new ≡ seen o d w
    exchange_elsewhere a b other w _ (nothing e) later calm = refl
    exchange_elsewhere a b other w _ (left_alone due e late) later calm = refl
    exchange_elsewhere a b other w _ (brought due new e soon is) later calm =
        let s = settles laws a b due w new calm.sound soon is (none_within w new calm later) in
        seen_elsewhere o d a b _ s.before s.told new other s.does ∙ s.same o d

    way_elsewhere : (a b : ℕ) → (a ≡ o → d ≢ b) → (w new : WorldState) → IsCalmWay a b w new → Reached new final → IsCalm w → seen o d new ≡ seen o d w
    way_elsewhere a b other w new is later calm =
        let collected = calm_times a b w _ is.collected is.collects calm in
        let cut = calm_cut a b is.collected is.cut is.cuts.0 is.cuts.1 collected in
        exchange_elsewhere a b other is.cut new is.exchanged later cut
        ∙ seen_elsewhere o d a b _ is.collected is.cuts.0 is.cut other is.cuts.1
        ∙ times_elsewhere a b other w _ is.collected is.collects

    gives_elsewhere : (s place : ℕ) (w : WorldState) (n : ℕ) (new : WorldState) → Times (GivesOne s place) w n new → seen o d new ≡ seen o d w
    gives_elsewhere s place w _ _ never = refl
    gives_elsewhere s place w _ _ (once_more n between new before does) = seen_given o d s place between does.0 new does.1 ∙ gives_elsewhere s place w n between before

    rooms_elsewhere : (s : ℕ) (w : WorldState) (n : ℕ) (new : WorldState) → ForEach (GivesAll s) w n new → seen o d new ≡ seen o d w
    rooms_elsewhere s w _ _ for_none = refl
    rooms_elsewhere s w _ _ (for_one_more n between new before does) = gives_elsewhere s n between _ new does ∙ rooms_elsewhere s w n between before

    all_rooms_elsewhere : (w : WorldState) (n : ℕ) (new : WorldState) → ForEach GivesRooms w n new → seen o d new ≡ seen o d w
    all_rooms_elsewhere w _ _ for_none = refl
    all_rooms_elsewhere w _ _ (for_one_more n between new before does) = rooms_elsewhere n between _ new does ∙ all_rooms_elsewhere w n between before

    -- a round was made on it
    abbrev Later : Way → WorldState → Type 0
    Later way new = (later : Way) × Has later new × IsAfter way later

    own_way : (way : Way) (w new : WorldState) → IsCalmWay o d w new → Reached new final → IsCalm w → Has way w → Later way new
    own_way way w new is later calm has =
        after_round laws next o d name journal way w new calm.sound has bound within calm.early calm.by
        (λ between reached. none_failed_within start between new final none (reached_then start w between calm.from reached) later) is

    -- ---- what a server brings to each other one

    record Inner (a n : ℕ) (way : Way) (new : WorldState) : Type 0 where
      pub calm : IsCalm new
      pub same : (a ≡ o → n ≤ d) → Has way new
      pub changed : a ≡ o → d < n → Later way new

    inner : (a : ℕ) (way : Way) (w : WorldState) (n : ℕ) (new : WorldState) → ForEach (IsCalmPair a) w n new → Reached new final → IsCalm w → Has way w → Inner a n way new
    inner a way w _ _ for_none later calm has = record { calm = calm; same = λ _. has; changed = λ here below. absurd (omega (arith, below)) }
    inner a way w _ _ (for_one_more n between new before does) later calm has = by new does later (inner a way w n between before (reached_then between new final (pair_reach a n between new does) later) calm has)
      where
        by : (after : WorldState) → IsCalmPair a n between after → Reached after final → Inner a n way between → Inner a (suc n) way after
        by _ (itself here) later h = record {
          calm = h.calm;
          same = λ before_it. h.same (λ own. let more = before_it own in omega (arith, more));
          changed = λ own below. h.changed own (below_it own below (cases_eq d n));
        }
          where
            below_it : a ≡ o → d < suc n → (d ≡ n) ⊎ (d ≢ n) → d < n
            below_it own below (inl same) = absurd (apart_is (same ∙ here ∙ own))
            below_it own below (inr differs) = grind (arith, below, differs)
        by _ (apart after other is) later h = record {
          calm = calm_way a n between after is later h.calm;
          same = λ before_it. elsewhere (λ own. let more = before_it own in λ same. absurd (omega (arith, more, same))) ∙ h.same (λ own. let more = before_it own in omega (arith, more));
          changed = λ own below. where_it_is own below (cases_eq d n);
        }
          where
            elsewhere : (a ≡ o → d ≢ n) → seen o d after ≡ seen o d between
            elsewhere away = way_elsewhere a n away between after is later h.calm

            where_it_is : a ≡ o → d < suc n → (d ≡ n) ⊎ (d ≢ n) → Later way after
            where_it_is own below (inl same) =
                own_way way between after (subst (λ x. IsCalmWay x d between after) own (subst (λ x. IsCalmWay a x between after) (sym same) is)) later h.calm (h.same (λ _. omega (arith, same)))
            where_it_is own below (inr differs) = let done = h.changed own (grind (arith, below, differs)) in (done.0, elsewhere (λ _. differs) ∙ done.1, done.2)

    -- ---- what all servers bring

    record Outer (n : ℕ) (way : Way) (new : WorldState) : Type 0 where
      pub calm : IsCalm new
      pub same : n ≤ o → Has way new
      pub changed : o < n → Later way new

    -- d is the place of a listed server
    listed_dest : (way : Way) (w : WorldState) → IsCalm w → Has way w → d < length w.names
    listed_dest way w calm has =
        let pair = pair_at w calm.sound o d name journal way has in
        slice_get_within w.names d pair.ds.name (calm.sound.servers d pair.ds pair.to).name_is

    outer : (way : Way) (w : WorldState) (n : ℕ) (new : WorldState) → ForEach BringsFrom w n new → Reached new final → IsCalm w → Has way w → Outer n way new
    outer way w _ _ for_none later calm has = record { calm = calm; same = λ _. has; changed = λ below. absurd (omega (arith, below)) }
    outer way w _ _ (for_one_more n between new before does) later calm has = by (outer way w n between before (reached_then between new final (from_reach n between new does) later) calm has)
      where
        turn : (x : Way) → IsCalm between → Has x between → Inner n (length between.names) x new
        turn x calm_then has_then = inner n x between (length between.names) new does later calm_then has_then

        by : Outer n way between → Outer (suc n) way new
        by h = record {
          calm = still (cases_lt o n);
          same = λ below. (turn way h.calm (h.same (omega (arith, below)))).same (λ own. absurd (omega (arith, own, below)));
          changed = λ below. where_it_is below (cases_eq o n);
        }
          where
            still : (o < n) ⊎ (n ≤ o) → IsCalm new
            still (inl below) = let done = h.changed below in (turn done.0 h.calm done.1).calm
            still (inr above) = (turn way h.calm (h.same above)).calm

            where_it_is : o < suc n → (o ≡ n) ⊎ (o ≢ n) → Later way new
            where_it_is below (inl same) =
                let has_then = h.same (omega (arith, same)) in (turn way h.calm has_then).changed (sym same) (listed_dest way between h.calm has_then)
            where_it_is below (inr differs) =
                let done = h.changed (grind (arith, below, differs)) in (done.0, (turn done.0 h.calm done.1).same (λ own. absurd (differs (sym own))), done.2)

    -- ---- rounds

    listed_origin : (way : Way) (w : WorldState) → IsCalm w → Has way w → o < length w.names
    listed_origin way w calm has =
        let pair = pair_at w calm.sound o d name journal way has in
        slice_get_within w.names o pair.os.name (calm.sound.servers o pair.os pair.of).name_is

    one_round : (way : Way) (w new : WorldState) → IsRound w new → Reached new final → IsCalm w → Has way w → IsCalm new × Later way new
    one_round way w new is later calm has =
        let later_rooms = reached_then is.brought new final (each_reach GivesRooms rooms_reach is.brought _ new is.rooms) later in
        let h = outer way w (length w.names) is.brought is.ways later_rooms calm has in
        let done = h.changed (listed_origin way w calm has) in
        (calm_all_rooms is.brought _ new is.rooms h.calm, (done.0, all_rooms_elsewhere is.brought _ new is.rooms ∙ done.1, done.2))

    -- after n rounds
    record Rounds (n : ℕ) (first : Way) (new : WorldState) : Type 0 where
      pub calm : IsCalm new
      pub way : Way
      pub has : Has way new
      pub none_unanswered : 1 ≤ n → way.outbox.unanswered ≡ None
      pub beginning : n ≡ 0 → way ≡ first
      pub less : left way ≤ left first - 50 * (n - rounds_unanswered first.outbox.unanswered)
      pub less_edus : left_edus way ≤ left_edus first - 100 * (n - rounds_unanswered first.outbox.unanswered)

    rounds_are : (first : Way) (w : WorldState) (n : ℕ) (new : WorldState) → AreRounds n w new → Reached new final → IsCalm w → Has first w → Rounds n first new
    rounds_are first w _ _ never later calm has =
        record { calm = calm; way = first; has = has; none_unanswered = λ more. absurd (omega (arith, more)); beginning = λ _. refl; less = omega arith; less_edus = omega arith }
    rounds_are first w _ _ (once_more n between new before round) later calm has =
        by (rounds_are first w n between before (reached_then between new final (round_reach between new round) later) calm has)
      where
        by : Rounds n first between → Rounds (suc n) first new
        by h = after (one_round h.way between new round later h.calm h.has)
          where
            after : IsCalm new × Later h.way new → Rounds (suc n) first new
            after (calm_now, (way, has_now, is)) = record {
              calm = calm_now;
              way = way;
              has = has_now;
              none_unanswered = λ _. is.unanswered;
              beginning = λ none. absurd (omega (arith, none));
              less = (fewer (cases_eq n 0) first.outbox.unanswered refl).0;
              less_edus = (fewer (cases_eq n 0) first.outbox.unanswered refl).1;
            }
              where
                fewer : (n ≡ 0) ⊎ (n ≢ 0) → (u : Option TransactionValue) → first.outbox.unanswered ≡ u
                    → (left way ≤ left first - 50 * (suc n - rounds_unanswered first.outbox.unanswered)) × (left_edus way ≤ left_edus first - 100 * (suc n - rounds_unanswered first.outbox.unanswered))
                fewer (inl begins) None none =
                    let now = is.less (ap (λ (l : Way). l.outbox.unanswered) (h.beginning begins) ∙ none) in
                    let u = ap rounds_unanswered none in
                    let old = h.less in
                    let old_edus = h.less_edus in
                    let a = now.0 in
                    let b = now.1 in
                    (omega (arith, a, u, old, begins), omega (arith, b, u, old_edus, begins))
                fewer (inl begins) (Some t) some =
                    let u = ap rounds_unanswered some in
                    let old = h.less in
                    let old_edus = h.less_edus in
                    let a = is.no_more.0 in
                    let b = is.no_more.1 in
                    (omega (arith, a, u, old, begins), omega (arith, b, u, old_edus, begins))
                fewer (inr more) v same =
                    let now = is.less (h.none_unanswered (grind (arith, more))) in
                    let u = at_most_one v in
                    let at = ap rounds_unanswered same in
                    let old = h.less in
                    let old_edus = h.less_edus in
                    let a = now.0 in
                    let b = now.1 in
                    (omega (arith, a, u, at, old, more), omega (arith, b, u, at, old_edus, more))

-- ---- nothing is left

-- what is addressed is settled or left
left_is : (laws : Laws) (d : ℕ) (journal : List Entry) (way : Way) → Follows d (parcels journal d) way → length (addressed journal d) ≡ length way.outbox.settled + left way
left_is laws d journal way follows =
    let o = way.outbox in
    let all = ap length (laws.events d journal way follows) in
    let behind = length-append (o.settled ++ (unanswered_pdus o.unanswered ++ o.waiting)) (events_of way.queue) in
    let accepted = length-append o.settled (unanswered_pdus o.unanswered ++ o.waiting) in
    let sent = length-append (unanswered_pdus o.unanswered) o.waiting in
    let waits = length-append o.waiting (events_of way.queue) in
    omega (arith, all, behind, accepted, sent, waits)

left_edus_is : (laws : Laws) (d : ℕ) (journal : List Entry) (way : Way) → Follows d (parcels journal d) way → length (addressed_edus journal d) ≡ length way.outbox.settled_edus + left_edus way
left_edus_is laws d journal way follows =
    let o = way.outbox in
    let all = ap length (laws.edus d journal way follows) in
    let behind = length-append (o.settled_edus ++ (unanswered_edus o.unanswered ++ o.waiting_edus)) (edus_of way.queue) in
    let accepted = length-append o.settled_edus (unanswered_edus o.unanswered ++ o.waiting_edus) in
    let sent = length-append (unanswered_edus o.unanswered) o.waiting_edus in
    let waits = length-append o.waiting_edus (edus_of way.queue) in
    omega (arith, all, behind, accepted, sent, waits)

parts_cover : (count n : ℕ) → parts 50 count ≤ n → count ≤ 50 * n
parts_cover count n few = omega (arith, few)

parts_cover_edus : (count n : ℕ) → parts 100 count ≤ n → count ≤ 100 * n
parts_cover_edus count n few = omega (arith, few)

-- a prefix that is as long as the whole
whole_prefix : (front whole rest : List (List ℕ)) → whole ≡ front ++ rest → length whole ≤ length front → front ≡ whole
whole_prefix front whole rest is long = by rest is
  where
    by : (rest : List (List ℕ)) → whole ≡ front ++ rest → front ≡ whole
    by [] e = sym (append-nil front) ∙ sym e
    by (x ∷ xs) e = absurd (let more = ap length e ∙ length-append front (x ∷ xs) in omega (arith, more, long))

module _ (laws : Laws) (next : Next) (rounds : ℕ) (old new : WorldState) (comes : ComesOfRun old) (are : AreRounds rounds old new) (early : old.now ≤ last_start) (none : NoneFailed old new) (o d : ℕ)
    (before origin dest : ServerState) (earlier way : Way) (at : slice_get old.servers o ≡ Some before) (leads : way_to before d ≡ Some earlier) (enough : rounds_for before d earlier ≤ rounds)
    (now : slice_get new.servers o ≡ Some origin) (to : slice_get new.servers d ≡ Some dest) (leads_now : way_to origin d ≡ Some way) where
  sound : IsSound old
  sound = comes_sound laws old comes

  apart_is : d ≢ o
  apart_is same = (way_there before d earlier leads).apart (same ∙ sym (sound.servers o before at).own)

  begins : IsCalm laws next old new none (old.now + hour) (omega (arith, early)) old
  begins = record { from = no_step; sound = sound; early = omega arith; by = all_soon old comes }

  has : seen o d old ≡ Some (before.name, before.journal, earlier)
  has = ap (option_and_then (λ s. seen_in s d)) at ∙ ap (option_map {U = Seen} (λ (l : Way). (before.name, before.journal, l))) leads

  ends : Rounds laws next old new none (old.now + hour) (omega (arith, early)) o d apart_is before.name before.journal rounds earlier new
  ends = rounds_are laws next old new none (old.now + hour) (omega (arith, early)) o d apart_is before.name before.journal earlier old rounds new are no_step begins has

  -- the same way
  same_seen : ◌≡◌ {A = Seen} (before.name, before.journal, ends.way) (origin.name, origin.journal, way)
  same_seen =
      same_some (before.name, before.journal, ends.way) (origin.name, origin.journal, way)
      (sym ends.has ∙ ap (option_and_then (λ s. seen_in s d)) now ∙ ap (option_map {U = Seen} (λ (l : Way). (origin.name, origin.journal, l))) leads_now)

  way_is : ends.way ≡ way
  way_is = ap (λ (t : Seen). t.2) same_seen

  first : PairAt old o d before.name before.journal earlier
  first = pair_at old sound o d before.name before.journal earlier has

  last : PairAt new o d before.name before.journal ends.way
  last = pair_at new ends.calm.sound o d before.name before.journal ends.way ends.has

  at_first : Follows d (parcels before.journal d) earlier
  at_first = subst (λ j. Follows d (parcels j d) earlier) first.journal_is first.between.held.follows

  at_last : Follows d (parcels origin.journal d) way
  at_last =
      subst (λ j. Follows d (parcels j d) way) (last.journal_is ∙ ap (λ (t : Seen). t.1) same_seen) (subst (λ l. Follows d (parcels last.os.journal d) l) way_is last.between.held.follows)

  none_left : left way ≡ 0
  none_left =
      let all = left_is laws d before.journal earlier at_first in
      let cover = parts_cover (unsettled before d earlier) (rounds - rounds_unanswered earlier.outbox.unanswered) (omega (arith, enough)) in
      let less = ends.less in
      let same = ap left way_is in
      omega (arith, all, cover, less, same)

  none_left_edus : left_edus way ≡ 0
  none_left_edus =
      let all = left_edus_is laws d before.journal earlier at_first in
      let cover = parts_cover_edus (unsettled_edus before d earlier) (rounds - rounds_unanswered earlier.outbox.unanswered) (omega (arith, enough)) in
      let less = ends.less_edus in
      let same = ap left_edus way_is in
      omega (arith, all, cover, less, same)

  delivered : IsDelivered origin dest d way
  delivered =
      let all = all_delivered laws new ends.calm.sound o d origin dest now to (λ same. apart_is (sym same)) in
      subst (λ l. IsDelivered origin dest d l) (same_some all.1.0 way (sym all.1.1 ∙ leads_now)) all.1.2

  pub all_is_delivered : IsAllDelivered origin dest d way
  all_is_delivered =
      let all = left_is laws d origin.journal way at_last in
      let all_edus = left_edus_is laws d origin.journal way at_last in
      let left_none = none_left in
      let left_none_edus = none_left_edus in
      let taken = delivered.settled in
      let taken_edus = delivered.settled_edus in
      let texts = length-map (addressed origin.journal d) event_text in
      let texts_edus = length-map (addressed_edus origin.journal d) canonical_text in
      record {
        events = whole_prefix (taken_of dest.inbox origin.name) (event_texts (addressed origin.journal d)) delivered.events.0 delivered.events.1 (omega (arith, all, left_none, taken, texts));
        edus = whole_prefix (taken_edus_of dest.inbox origin.name) (edu_texts (addressed_edus origin.journal d)) delivered.edus.0 delivered.edus.1 (omega (arith, all_edus, left_none_edus, taken_edus, texts_edus));
        settled = omega (arith, all, left_none);
        settled_edus = omega (arith, all_edus, left_none_edus);
      }
    where
      event_text : CheckedEvent → List ℕ
      event_text checked = canonical_text checked.event.value

pub delivers : (laws : Laws) (next : Next) (rounds : ℕ) (old new : WorldState) → ComesOfRun old → AreRounds rounds old new → CalmDelivers rounds old new
delivers laws next rounds old new comes are early none o d before origin dest earlier way at leads enough now to leads_now =
    all_is_delivered laws next rounds old new comes are early none o d before origin dest earlier way at leads enough now to leads_now

-- ---- of a world that comes of some run

pub delivers_of_some : ((rounds : ℕ) (old new : WorldState) → ComesOfRun old → AreRounds rounds old new → CalmDelivers rounds old new)
    → (rounds : ℕ) (old new : WorldState) → ∥ ComesOfRun old ∥₁ → AreRounds rounds old new → CalmDelivers rounds old new
delivers_of_some law rounds old new comes are early none o d before origin dest earlier way at leads enough now to leads_now = record {
  events = ∥∥₁_elim comes (≡_prop (coded_list (coded_list coded_ℕ)) _ _) (λ c. (by c).events);
  edus = ∥∥₁_elim comes (≡_prop (coded_list (coded_list coded_ℕ)) _ _) (λ c. (by c).edus);
  settled = ∥∥₁_elim comes (ℕ_set _ _) (λ c. (by c).settled);
  settled_edus = ∥∥₁_elim comes (ℕ_set _ _) (λ c. (by c).settled_edus);
}
  where
    by : ComesOfRun old → IsAllDelivered origin dest d way
    by c = law rounds old new c are early none o d before origin dest earlier way at leads enough now to leads_now
