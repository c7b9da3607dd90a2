-- Rounds in which nothing is lost: they are made of steps, and each does what it says.
use Rattle.std.proofs.Common.{arith, ◌≡◌, ◌≢◌, ℕ, zero, suc, ◌+◌, ◌-◌, ◌<◌, ◌≤◌, max, nat_le, nat_lt, ◌==◌, ◌&&◌, ◌||◌, not, Bool, true, false, true≢false, if◌then◌else◌, List, [], ◌∷◌, length, Option, Some, None, refl, sym, ap, subst, ◌∙◌}
use Rattle.std.specs.Prelude.{slice_get, option_and_then, option_map}
use Rattle.std.specs.Option.{option_map_or}
use Rattle.std.proofs.Math.Logic.{∥∥₁_elim}
use Rattle.std.proofs.lemmas.List.{length-append}
use Rattle.std.proofs.lemmas.Bool.{le-leb, eq-eqb, eqb-true}
use Rattle.fed_outbox.specs.Collecting.{Way}
use Rattle.fed_outbox.specs.Answering.{transaction_cut}
use Rattle.fed_outbox.specs.Outbox.{OutboxState, is_unanswered, is_due, can_cut, next_transaction, cut}
use Rattle.fed_outbox.specs.Transaction.{TransactionValue}
use Rattle.fed_sim.specs.declared.outcome.Outcome.{Outcome}
use Rattle.fed_sim.specs.declared.outcome.Outcome.TheVariants as outcome
use Rattle.fed_sim.specs.Headline.{TakesOnce, IsAnsweredOnce}
use Rattle.fed_sim.specs.Packets as packets
use Rattle.fed_sim.specs.Packets.{packet_at, with_packet, way_from, IsOn, IsPosted, IsTaken}
use Rattle.fed_sim.specs.declared.way.Cut.{Cut}
use Rattle.fed_sim.specs.Rounds.{Times, never, once_more, ForEach, for_none, for_one_more, CollectsOne, Cuts, IsBrought, IsExchanged, nothing, left_alone, brought, IsCalmWay, IsCalmPair, itself, apart, GivesOne, GivesAll, BringsFrom, GivesRooms, IsRound, AreRounds, due_at, risen_to, waited_until}
use Rattle.fed_sim.specs.RoundsInPart.{TimesInPart, ForEachInPart, IsRefused, IsExchangedInPart, not_posted, not_taken, not_settled, IsCalmWayInPart, in_collecting, in_exchange, IsCalmPairInPart, GivesAllInPart, BringsFromInPart, GivesRoomsInPart, IsRoundInPart, in_bringing, in_giving, AreRoundsInPart}
use Rattle.fed_sim.specs.Running.{ComesOfRun}
use Rattle.fed_sim.specs.Server.{ServerState}
use Rattle.fed_sim.specs.Steps.{Moves, Reached, ReachedInPart, no_step, one_more, before_it, in_it, collected, posted, taken, settled, given}
use Rattle.fed_sim.specs.Steps as steps
use Rattle.fed_sim.specs.Ways.{way_to, with_way, IsOnWay, cutting, with_outbox}
use Rattle.fed_sim.specs.World.{PacketState, request, WorldState, with_server, at_moment, max_moment, AtServer, nowhere, somewhere, AtServerInPart}
use Rattle.fed_sim.specs.Applying.{IsAppliedInPart}
use Rattle.fed_sim.proofs.Between.{set_same, way_there}
use Rattle.fed_sim.proofs.Landing.{same_some, not_none}
use Rattle.fed_sim.proofs.Reaching.{reached_then, in_part_then, as_it_was, rises}

-- ---- they are made of steps

pub times_reach : (Does : WorldState → WorldState → Type 0) → ((a b : WorldState) → Does a b → Reached a b) → (old : WorldState) (n : ℕ) (new : WorldState) → Times Does old n new → Reached old new
times_reach Does each old _ _ never = no_step
times_reach Does each old _ _ (once_more n between new before does) = reached_then old between new (times_reach Does each old n between before) (each between new does)

pub each_reach : (Does : ℕ → WorldState → WorldState → Type 0) → ((k : ℕ) (a b : WorldState) → Does k a b → Reached a b) → (old : WorldState) (n : ℕ) (new : WorldState) → ForEach Does old n new → Reached old new
each_reach Does each old _ _ for_none = no_step
each_reach Does each old _ _ (for_one_more n between new before does) = reached_then old between new (each_reach Does each old n between before) (each n between new does)

pub collect_reach : (o d : ℕ) (a b : WorldState) → CollectsOne o d a b → Reached a b
collect_reach o d a b is = one_more a b is.0 no_step (collected o d is.1)

pub cut_reach : (o d : ℕ) (a b : WorldState) → Cuts o d a b → Reached a b
cut_reach o d a b is = one_more a b is.0 no_step (steps.cut o d is.1)

-- the moment rises, or is as late already
pub wait_reach : (w : WorldState) (at_ms : ℕ) → at_ms ≤ max_moment → Reached w (risen_to at_ms w)
wait_reach w at_ms within = by (nat_lt w.now at_ms) refl
  where
    by : (b : Bool) → nat_lt w.now at_ms ≡ b → Reached w (risen_to at_ms w)
    by true is = let later : w.now < at_ms = grind (arith, is) in subst (λ now. Reached w (at_moment w now)) (omega (arith, later)) (rises w at_ms later within)
    by false is = let early : at_ms ≤ w.now = grind (arith, is) in let same : w.now ≡ max w.now at_ms = omega (arith, early) in subst (λ now. Reached w (at_moment w now)) same no_step

pub bring_reach : (o d due : ℕ) (a b : WorldState) → due ≤ max_moment → IsBrought o d due a b → Reached a b
bring_reach o d due a b within is =
    let sent = one_more _ _ _ (wait_reach a due within) (posted o d is.is_posted) in
    let arrived = one_more _ _ _ sent (taken is.request is.is_taken) in
    one_more _ _ is.told arrived (settled is.answer is.is_settled)

pub exchange_reach : (o d : ℕ) (a b : WorldState) → IsExchanged o d a b → Reached a b
exchange_reach o d a _ (nothing none) = no_step
exchange_reach o d a _ (left_alone due is late) = no_step
exchange_reach o d a _ (brought due new is within done) = bring_reach o d due a new within done

pub way_reach : (o d : ℕ) (a b : WorldState) → IsCalmWay o d a b → Reached a b
way_reach o d a b is =
    let collects = times_reach (CollectsOne o d) (collect_reach o d) a _ is.collected is.collects in
    let cuts = reached_then a is.collected is.cut collects (cut_reach o d is.collected is.cut is.cuts) in
    reached_then a is.cut b cuts (exchange_reach o d is.cut b is.exchanged)

pub pair_reach : (o d : ℕ) (a b : WorldState) → IsCalmPair o d a b → Reached a b
pair_reach o d a _ (itself same) = no_step
pair_reach o d a _ (apart b other is) = way_reach o d a b is

pub from_reach : (o : ℕ) (a b : WorldState) → BringsFrom o a b → Reached a b
from_reach o a b is = each_reach (IsCalmPair o) (pair_reach o) a _ b is

pub give_reach : (s place : ℕ) (a b : WorldState) → GivesOne s place a b → Reached a b
give_reach s place a b is = one_more a b is.0 no_step (given s place is.1)

pub gives_reach : (s place : ℕ) (a b : WorldState) → GivesAll s place a b → Reached a b
gives_reach s place a b is = times_reach (GivesOne s place) (give_reach s place) a _ b is

pub rooms_reach : (s : ℕ) (a b : WorldState) → GivesRooms s a b → Reached a b
rooms_reach s a b is = each_reach (GivesAll s) (gives_reach s) a _ b is

pub round_reach : (a b : WorldState) → IsRound a b → Reached a b
round_reach a b is = reached_then a is.brought b (each_reach BringsFrom from_reach a _ is.brought is.ways) (each_reach GivesRooms rooms_reach is.brought _ b is.rooms)

pub rounds_reach : (rounds : ℕ) (a b : WorldState) → AreRounds rounds a b → Reached a b
rounds_reach rounds a b is = times_reach IsRound round_reach a rounds b is

-- ---- the same where memory runs out in one of them

times_in_part : (Does Part : WorldState → WorldState → Type 0) → ((a b : WorldState) → Does a b → Reached a b) → ((a b : WorldState) → Part a b → ReachedInPart a b)
    → (old : WorldState) (total : ℕ) (new : WorldState) → TimesInPart Does Part old total new → ReachedInPart old new
times_in_part Does Part each part old total new is = in_part_then old is.between new (times_reach Does each old is.done is.between is.before) (part is.between new is.part)

each_in_part : (Does Part : ℕ → WorldState → WorldState → Type 0) → ((k : ℕ) (a b : WorldState) → Does k a b → Reached a b) → ((k : ℕ) (a b : WorldState) → Part k a b → ReachedInPart a b)
    → (old : WorldState) (total : ℕ) (new : WorldState) → ForEachInPart Does Part old total new → ReachedInPart old new
each_in_part Does Part each part old total new is = in_part_then old is.between new (each_reach Does each old is.place is.between is.before) (part is.place is.between new is.part)

refused_in_part : (a b : WorldState) → IsRefused a b → ReachedInPart a b
refused_in_part a b same = as_it_was a a b no_step same

exchange_in_part : (o d : ℕ) (a b : WorldState) → IsExchangedInPart o d a b → ReachedInPart a b
exchange_in_part o d a b (not_posted due is within same) = as_it_was a (risen_to due a) b (wait_reach a due within) same
exchange_in_part o d a b (not_taken due k is within sent) = before_it (one_more _ _ _ (wait_reach a due within) (posted o d sent))
exchange_in_part o d a b (not_settled due k between j status is within sent arrived) =
    before_it (one_more _ _ _ (one_more _ _ _ (wait_reach a due within) (posted o d sent)) (taken k arrived))

way_in_part : (o d : ℕ) (a b : WorldState) → IsCalmWayInPart o d a b → ReachedInPart a b
way_in_part o d a b (in_collecting is) = times_in_part (CollectsOne o d) IsRefused (collect_reach o d) refused_in_part a _ b is
way_in_part o d a b (in_exchange all made collects cuts is) =
    in_part_then a made b (reached_then a all made (times_reach (CollectsOne o d) (collect_reach o d) a _ all collects) (cut_reach o d all made cuts)) (exchange_in_part o d made b is)

pair_in_part : (o d : ℕ) (a b : WorldState) → IsCalmPairInPart o d a b → ReachedInPart a b
pair_in_part o d a b is = way_in_part o d a b is.way

from_in_part : (o : ℕ) (a b : WorldState) → BringsFromInPart o a b → ReachedInPart a b
from_in_part o a b is = each_in_part (IsCalmPair o) (IsCalmPairInPart o) (pair_reach o) (pair_in_part o) a _ b is

give_in_part : (s place : ℕ) (a b : WorldState) → AtServerInPart s (IsAppliedInPart place) a b → ReachedInPart a b
give_in_part s place a b is = in_it a s place no_step is

gives_in_part : (s place : ℕ) (a b : WorldState) → GivesAllInPart s place a b → ReachedInPart a b
gives_in_part s place a b is = times_in_part (GivesOne s place) (AtServerInPart s (IsAppliedInPart place)) (give_reach s place) (give_in_part s place) a _ b is

rooms_in_part : (s : ℕ) (a b : WorldState) → GivesRoomsInPart s a b → ReachedInPart a b
rooms_in_part s a b is = each_in_part (GivesAll s) (GivesAllInPart s) (gives_reach s) (gives_in_part s) a _ b is

round_in_part : (a b : WorldState) → IsRoundInPart a b → ReachedInPart a b
round_in_part a b (in_bringing is) = each_in_part BringsFrom BringsFromInPart from_reach from_in_part a _ b is
round_in_part a b (in_giving all before is) =
    in_part_then a all b (each_reach BringsFrom from_reach a _ all before) (each_in_part GivesRooms GivesRoomsInPart rooms_reach rooms_in_part all _ b is)

pub rounds_in_part : (rounds : ℕ) (a b : WorldState) → AreRoundsInPart rounds a b → ReachedInPart a b
rounds_in_part rounds a b is = times_in_part IsRound IsRoundInPart round_reach round_in_part a rounds b is

-- ---- a round that finds nothing to do may be left out

padded : (old w : WorldState) → IsRound w w → (i more total : ℕ) → total ≡ more + i → AreRounds i old w → AreRounds total old w
padded old w round i zero total is before = subst (λ n. AreRounds n old w) (omega (arith, is)) before
padded old w round i (suc more) total is before =
    subst (λ n. AreRounds n old w) (omega (arith, is)) (once_more (more + i) w w (padded old w round i more (more + i) refl before) round)

pub idle_rounds : (rounds i : ℕ) (old between new : WorldState) → i < rounds → AreRounds i old between → IsRound between new → new ≡ between → AreRounds rounds old new
idle_rounds rounds i old between new below before round same =
    let idle = subst (IsRound between) same round in
    subst (AreRounds rounds old) (sym same) (padded old between idle i (rounds - i) rounds (omega (arith, below)) before)

-- ---- a cut that makes nothing changes nothing

abbrev told_of_cut : Option TransactionValue → Outcome
told_of_cut t = option_map_or (λ (c : Cut). outcome.Cut c.number c.pdus c.edus) (option_map (λ (t : TransactionValue). record { number = t.number; pdus = length t.pdus; edus = length t.edus }) t) outcome.NoCut

no_cut_on : (d now : ℕ) (s after : ServerState) (told : Outcome) → IsOnWay d (cutting now) s told after → ((number pdus edus : ℕ) → told ≢ outcome.Cut number pdus edus) → after ≡ s
no_cut_on d now s after told is other = by (way_to s d) refl is
  where
    on : (way : Way) → way_to s d ≡ Some way → told ≡ told_of_cut (transaction_cut way.outbox now) → after ≡ with_way s d (with_outbox way (cut way.outbox now)) → after ≡ s
    on way leads says is_then = made (can_cut way.outbox) refl
      where
        made : (b : Bool) → can_cut way.outbox ≡ b → after ≡ s
        made true can = absurd (other _ _ _ (says ∙ ap (λ (b : Bool). told_of_cut (if b then Some (next_transaction way.outbox now) else None)) can))
        made false can =
            let same : cut way.outbox now ≡ way.outbox = rw can refl in
            let there : with_way s d (with_outbox way way.outbox) ≡ s = ap (λ (ways : List Way). record { own = s.own; name = s.name; rooms = s.rooms; arrivals = s.arrivals; journal = s.journal; ways = ways; inbox = s.inbox }) (set_same s.ways d way (way_there s d way leads).is) in
            is_then ∙ ap (λ (o : OutboxState). with_way s d (with_outbox way o)) same ∙ there

    by : (found : Option Way) → way_to s d ≡ found
        → ◌≡◌ {A = Outcome × ServerState} (told, after) (option_map_or (λ (way : Way). ((cutting now way).0, with_way s d (cutting now way).1)) found (outcome.NoSuchServer, s)) → after ≡ s
    by None leads e = ap (λ pair. pair.1) e
    by (Some way) leads e = on way leads (ap (λ pair. pair.0) e) (ap (λ pair. pair.1) e)

pub no_cut : (o d now : ℕ) (w : WorldState) (told : Outcome) (new : WorldState) → AtServer o (IsOnWay d (cutting now)) w told new → ((number pdus edus : ℕ) → told ≢ outcome.Cut number pdus edus) → new ≡ w
no_cut o d now w _ _ (nowhere none) other = refl
no_cut o d now w _ _ (somewhere told before after at is) other =
    ap (with_server w o) (no_cut_on d now before after told is other)
    ∙ ap (λ (servers : List ServerState). record { names = w.names; known = w.known; epoch = w.epoch; servers = servers; packets = w.packets; now = w.now }) (set_same w.servers o before at)

-- ---- what is due is posted

pub record IsWaiting (w : WorldState) (o d due : ℕ) : Type 0 where
  pub server : ServerState
  pub way : Way
  pub transaction : TransactionValue
  pub on : IsOn w o d server way
  pub unanswered : way.outbox.unanswered ≡ Some transaction
  pub due_is : way.outbox.due_at ≡ due

pub waiting_at : (w : WorldState) (o d due : ℕ) → due_at w o d ≡ Some due → IsWaiting w o d due
waiting_at w o d due is = by_server (slice_get w.servers o) refl is
  where
    due_of : Way → Option ℕ
    due_of way = if is_unanswered way.outbox.unanswered then Some way.outbox.due_at else None

    by_sent : (s : ServerState) (way : Way) → slice_get w.servers o ≡ Some s → way_to s d ≡ Some way → (u : Option TransactionValue) → way.outbox.unanswered ≡ u
        → (if is_unanswered u then Some way.outbox.due_at else None) ≡ Some due → IsWaiting w o d due
    by_sent s way at leads None unanswered e = absurd (not_none due e)
    by_sent s way at leads (Some t) unanswered e =
        record { server = s; way = way; transaction = t; on = record { server_is = at; way_is = leads }; unanswered = unanswered; due_is = same_some way.outbox.due_at due e }

    by_way : (s : ServerState) → slice_get w.servers o ≡ Some s → (found : Option Way) → way_to s d ≡ found
        → option_and_then (λ (way : Way). if is_unanswered way.outbox.unanswered then Some way.outbox.due_at else None) found ≡ Some due → IsWaiting w o d due
    by_way s at None leads e = absurd (not_none due e)
    by_way s at (Some way) leads e = by_sent s way at leads way.outbox.unanswered refl e

    by_server : (found : Option ServerState) → slice_get w.servers o ≡ found
        → option_and_then (λ (way : Way). if is_unanswered way.outbox.unanswered then Some way.outbox.due_at else None) (option_and_then (λ s. way_to s d) found) ≡ Some due → IsWaiting w o d due
    by_server None at e = absurd (not_none due e)
    by_server (Some s) at e = by_way s at (way_to s d) refl e

-- at a moment that is not earlier
due_then : (outbox : OutboxState) (t : TransactionValue) (now due : ℕ) → outbox.unanswered ≡ Some t → outbox.due_at ≡ due → is_due outbox (max now due) ≡ true
due_then outbox t now due unanswered is = ap (λ (u : Option TransactionValue). is_unanswered u && nat_le outbox.due_at (max now due)) unanswered ∙ le-leb _ _ (omega (arith, is))

pub is_posted : (w : WorldState) (o d due : ℕ) (told : Outcome) (new : WorldState) → due_at w o d ≡ Some due → IsPosted o d (risen_to due w) told new → ((k : ℕ) → told ≢ outcome.Posted k) → ⊥
is_posted w o d due told new is does other = by told new does other (waiting_at w o d due is)
  where
    same_server : (a b : ServerState) → slice_get w.servers o ≡ Some a → slice_get w.servers o ≡ Some b → a ≡ b
    same_server a b x y = same_some a b (sym x ∙ y)

    by : (told : Outcome) (new : WorldState) → IsPosted o d (risen_to due w) told new → ((k : ℕ) → told ≢ outcome.Posted k) → IsWaiting w o d due → ⊥
    by _ _ (packets.no_sender none) other waits = not_none waits.server (sym none ∙ waits.on.server_is)
    by _ _ (packets.no_way s at none) other waits =
        not_none waits.way (sym none ∙ ap (λ x. way_to x d) (same_server s waits.server at waits.on.server_is) ∙ waits.on.way_is)
    by _ _ (packets.nothing s way on none) other waits =
        let server = same_server s waits.server on.server_is waits.on.server_is in
        let way_is : way ≡ waits.way = same_some way waits.way (sym on.way_is ∙ ap (λ x. way_to x d) server ∙ waits.on.way_is) in
        not_none waits.transaction (sym none ∙ ap (λ (l : Way). l.outbox.unanswered) way_is ∙ waits.unanswered)
    by _ _ (packets.not_due s way t on unanswered early) other waits =
        let server = same_server s waits.server on.server_is waits.on.server_is in
        let way_is : way ≡ waits.way = same_some way waits.way (sym on.way_is ∙ ap (λ x. way_to x d) server ∙ waits.on.way_is) in
        true≢false (sym (due_then waits.way.outbox waits.transaction w.now due waits.unanswered waits.due_is) ∙ ap (λ (l : Way). is_due l.outbox (max w.now due)) (sym way_is) ∙ early)
    by _ _ (packets.posted s way t name on unanswered is_due name_is readable) other waits = other _ refl

-- ---- a request that was posted is answered

module _ (law : (w : WorldState) → ComesOfRun w → TakesOnce w) where
  once : (w : WorldState) → ComesOfRun w → (k server dest n : ℕ) (bytes : List ℕ) → packet_at w.packets k ≡ Some (request server dest n bytes) → (told : Outcome) (new : WorldState) → IsTaken k w told new
      → IsAnsweredOnce w server dest n bytes new
  once w comes k server dest n bytes packet told new takes =
      law w comes w no_step k server dest n bytes packet told new takes

  -- the world is another one then
  one_packet_more : (w : WorldState) (server : ServerState) (dest : ℕ) (p : PacketState) → w ≡ with_packet (with_server w dest server) p → ⊥
  one_packet_more w server dest p same = let longer = ap (λ (x : WorldState). length x.packets) same ∙ length-append w.packets (p ∷ []) in omega (arith, longer)

  unchanged : (w : WorldState) → ∥ ComesOfRun w ∥₁ → (k server dest n : ℕ) (bytes : List ℕ) → packet_at w.packets k ≡ Some (request server dest n bytes) → (told : Outcome) → IsTaken k w told w → ⊥
  unchanged w comes k server dest n bytes packet told takes =
      ∥∥₁_elim comes (λ x y. absurd x) (λ c. let is = once w c k server dest n bytes packet told w takes in one_packet_more w is.after dest _ is.new_is)

  pub is_answered : (w : WorldState) → ∥ ComesOfRun w ∥₁ → (k server dest n : ℕ) (bytes : List ℕ) → packet_at w.packets k ≡ Some (request server dest n bytes) → (told : Outcome) (new : WorldState) → IsTaken k w told new
      → ((j status : ℕ) → told ≢ outcome.Answered j status) → ⊥
  is_answered w comes k server dest n bytes packet _ _ (packets.no_request none) other = none server dest n bytes packet
  is_answered w comes k server dest n bytes packet _ _ (packets.no_text a b m text there none) other = unchanged w comes k server dest n bytes packet _ (packets.no_text a b m text there none)
  is_answered w comes k server dest n bytes packet _ _ (packets.no_receiver a b m text there none) other = unchanged w comes k server dest n bytes packet _ (packets.no_receiver a b m text there none)
  is_answered w comes k server dest n bytes packet _ _ (packets.taken a b m text r before after reply there reads at is) other = other _ _ refl

-- ---- one turn of a loop more

pub one_time : (Does : WorldState → WorldState → Type 0) (n : ℕ) (old between new : WorldState) → Times Does old n between → Does between new → Times Does old (n + 1) new
one_time Does n old between new before does = subst (λ k. Times Does old k new) (omega arith) (once_more n between new before does)

pub one_place : (Does : ℕ → WorldState → WorldState → Type 0) (n : ℕ) (old between new : WorldState) → ForEach Does old n between → Does n between new → ForEach Does old (n + 1) new
one_place Does n old between new before does = subst (λ k. ForEach Does old k new) (omega arith) (for_one_more n between new before does)

or_false : (a b : Bool) → (a || b) ≡ false → (a ≡ false) × (b ≡ false)
or_false true b e = absurd (true≢false e)
or_false false b e = (refl, e)

-- where nothing was done, all is as it was
pub idle_still : (a b : Bool) (old between new : WorldState) → (a ≡ false → between ≡ old) → (b ≡ false → new ≡ between) → (a || b) ≡ false → new ≡ old
idle_still a b old between new first second none = let both = or_false a b none in second both.1 ∙ first both.0

-- ---- waiting

abbrev Waited : WorldState → Bool → WorldState → ℕ → Type 0
Waited w reached new at_ms = ◌≡◌ {A = Bool × WorldState} (reached, new) (waited_until at_ms w)

pub not_waited : (w : WorldState) (at_ms : ℕ) (reached : Bool) (new : WorldState) → Waited w reached new at_ms → reached ≡ false → (max_moment < at_ms) × (new ≡ w)
not_waited w at_ms reached new is says = by (nat_lt max_moment at_ms) refl is
  where
    by : (b : Bool) → nat_lt max_moment at_ms ≡ b → ◌≡◌ {A = Bool × WorldState} (reached, new) (if b then (false, w) else (true, risen_to at_ms w)) → (max_moment < at_ms) × (new ≡ w)
    by true late e = (grind (arith, late), ap (λ pair. pair.1) e)
    by false early e = absurd (true≢false (sym (ap (λ pair. pair.0) e) ∙ says))

pub waited : (w : WorldState) (at_ms : ℕ) (reached : Bool) (new : WorldState) → Waited w reached new at_ms → reached ≡ true → (at_ms ≤ max_moment) × (new ≡ risen_to at_ms w)
waited w at_ms reached new is says = by (nat_lt max_moment at_ms) refl is
  where
    by : (b : Bool) → nat_lt max_moment at_ms ≡ b → ◌≡◌ {A = Bool × WorldState} (reached, new) (if b then (false, w) else (true, risen_to at_ms w)) → (at_ms ≤ max_moment) × (new ≡ risen_to at_ms w)
    by true late e = absurd (true≢false (sym says ∙ ap (λ pair. pair.0) e))
    by false early e = (grind (arith, early), ap (λ pair. pair.1) e)

-- ---- the place of a server, as a number

pub other_place : (d place server : ℕ) (differs : Bool) → d ≡ place → differs ≡ not (d == server) → differs ≡ true → place ≢ server
other_place d place server differs is tells says same = true≢false (sym says ∙ tells ∙ ap not (eq-eqb d server (is ∙ same)))

pub same_place : (d place server : ℕ) (differs : Bool) → d ≡ place → differs ≡ not (d == server) → differs ≡ false → place ≡ server
same_place d place server differs is tells says = sym is ∙ eqb-true d server (by (d == server) (sym tells ∙ says))
  where
    by : (b : Bool) → not b ≡ false → b ≡ true
    by true e = refl
    by false e = absurd (true≢false e)

-- ---- when all rounds were made

pub all_rounds : (n rounds : ℕ) (old new : WorldState) → n ≤ rounds → rounds ≤ n → AreRounds n old new → AreRounds rounds old new
all_rounds n rounds old new within beyond are = subst (λ k. AreRounds k old new) (omega (arith, within, beyond)) are
