-- What a round in which nothing is lost makes of the way from one server to another.
use Rattle.std.proofs.Common.{arith, ◌≡◌, ◌≢◌, ◌⊎◌, inl, inr, ℕ, zero, suc, ◌+◌, ◌-◌, ◌≤◌, ◌<◌, ◌&&◌, max, not, Bool, true, false, true≢false, if◌then◌else◌, List, [], ◌∷◌, ◌++◌, length, drop, Option, Some, None, refl, sym, ap, subst, ◌∙◌, length-append}
use Rattle.std.specs.Prelude.{slice_get, option_and_then, option_map}
use Rattle.std.proofs.lemmas.Bool.{cases_Bool, eq-eqb, ltb-true}
use Rattle.std.proofs.lemmas.List.{append-nil, append_assoc, take_all, length-drop}
use Rattle.fed_http.specs.Message.{Answer}
use Rattle.fed_http.specs.Writing.{IsWritableReply, reply_bytes}
use Rattle.fed_http.specs.Text.{IsReplyText}
use Rattle.fed_http.proofs.ReplyTexts.{reply_text_is}
use Rattle.serde_json.specs.Data.{Data}
use Rattle.fed_event.specs.Checked.{CheckedEvent}
use Rattle.fed_journal.specs.declared.entry.Entry.{Entry}
use Rattle.fed_journal.specs.declared.parcel.Load.{Load}
use Rattle.fed_journal.specs.declared.parcel.Load.TheVariants.{Event, Edu, End}
use Rattle.fed_journal.specs.declared.parcel.Parcel.{Parcel}
use Rattle.fed_journal.specs.Journal.{parcels}
use Rattle.fed_outbox.specs.Answering.{answered}
use Rattle.fed_outbox.specs.Collecting.{Way, collected, collected_of}
use Rattle.fed_outbox.specs.Following.{Follows}
use Rattle.fed_outbox.specs.Outbox.{OutboxState, is_unanswered, is_empty, can_cut, cut, next_transaction, fits, with_load, has_number, settle, taken, unanswered_pdus, unanswered_edus}
use Rattle.fed_outbox.specs.Runs.{events_of, edus_of}
use Rattle.fed_outbox.specs.Transaction.{TransactionValue}
use Rattle.fed_outbox.proofs.Counts.{cut_where}
use Rattle.fed_inbox.specs.Reply.{accepted}
use Rattle.fed_exchange.specs.Messages.{IsStatusOf}
use Rattle.fed_exchange.proofs.Statuses.{read_back}
use Rattle.fed_sim.specs.declared.outcome.Outcome.{Outcome}
use Rattle.fed_sim.specs.declared.outcome.Outcome.TheVariants as outcome
use Rattle.fed_sim.specs.Calm.{NoneFailed}
use Rattle.fed_sim.specs.Packets as packets
use Rattle.fed_sim.specs.Packets.{packet_at, way_from, IsPosted, IsTaken, IsSettled, request_for}
use Rattle.fed_sim.specs.Rounds.{Times, never, once_more, CollectsOne, IsBrought, IsExchanged, nothing, left_alone, brought, IsCalmWay, due_at, queue_at, risen_to}
use Rattle.fed_sim.specs.Server.{ServerState}
use Rattle.fed_sim.specs.Steps.{Reached, one_more}
use Rattle.fed_sim.specs.Steps as steps
use Rattle.fed_sim.specs.Ways.{way_to, IsOnWay, with_outbox, settling}
use Rattle.fed_sim.specs.World.{answer, WorldState, AtServer, max_moment}
use Rattle.fed_sim.proofs.Between.{IsBetween, IsSound, way_there}
use Rattle.fed_sim.proofs.Dues.{AllBy, collects_by, cuts_by, taken_by, taken_now, at_server_now}
use Rattle.fed_sim.proofs.Landing.{same_some, not_none, at_the_end, IsAnswerOf, kept_for}
use Rattle.fed_sim.proofs.Reaching.{reached_then}
use Rattle.fed_sim.proofs.CalmSteps.{times_reach, collect_reach, cut_reach, wait_reach}
use Rattle.fed_sim.proofs.Runs.{reached_sound}
use Rattle.fed_sim.proofs.Servers.{listed}
use Rattle.fed_sim.proofs.Views.{Seen, seen, seen_in, seen_taken, seen_on, answered_by, settled_by, reached_longer, packet_stays}
use Rattle.fed_sim.proofs.WayMoves.{Laws}

-- ---- a reply of 200 is read as one

writable : (body : List ℕ) → length body ≤ 16777216 → IsWritableReply (accepted body)
writable body fits = record { final = omega arith; status = omega arith; body_fits = fits }

read_as_200 : (body : List ℕ) (status : Option ℕ) → length body ≤ 16777216 → IsStatusOf (accepted body) status → status ≡ Some 200
read_as_200 body (Some status) fits read = ap Some (read_back (accepted body) status (writable body fits) read)
read_as_200 body None fits read =
    let bytes = reply_bytes (accepted body) in
    absurd (read (accepted body) (length bytes, subst (IsReplyText (accepted body)) (sym (take_all (length bytes) bytes (omega arith))) (reply_text_is (accepted body) (writable body fits))))

-- ---- the two servers of a way

pub record PairAt (w : WorldState) (o d : ℕ) (name : List ℕ) (journal : List Entry) (way : Way) : Type 0 where
  pub os : ServerState
  pub ds : ServerState
  pub of : slice_get w.servers o ≡ Some os
  pub to : slice_get w.servers d ≡ Some ds
  pub leads : way_to os d ≡ Some way
  pub name_is : os.name ≡ name
  pub journal_is : os.journal ≡ journal
  pub between : IsBetween o d w.epoch os ds way w.packets

pub pair_at : (w : WorldState) → IsSound w → (o d : ℕ) (name : List ℕ) (journal : List Entry) (way : Way) → seen o d w ≡ Some (name, journal, way) → PairAt w o d name journal way
pair_at w h o d name journal way is = by_server (slice_get w.servers o) refl is
  where
    by_way : (s : ServerState) → slice_get w.servers o ≡ Some s → (found : Option Way) → way_to s d ≡ found → option_map {U = Seen} (λ (l : Way). (s.name, s.journal, l)) found ≡ Some (name, journal, way) → PairAt w o d name journal way
    by_way s at None leads e = absurd (not_none (name, journal, way) e)
    by_way s at (Some l) leads e =
        let same = same_some (s.name, s.journal, l) (name, journal, way) e in
        let there : way_to s d ≡ Some way = leads ∙ ap (λ (t : Seen). Some t.2) same in
        let below = ltb-true d (length s.ways) (way_there s d way there).within in
        let count = (h.servers o s at).ways in
        let other = listed w.servers d (omega (arith, below, count)) in
        record {
          os = s;
          ds = other.0;
          of = at;
          to = other.1;
          leads = there;
          name_is = ap (λ (t : Seen). t.0) same;
          journal_is = ap (λ (t : Seen). t.1) same;
          between = h.pairs o d s other.0 way at other.1 there;
        }

    by_server : (found : Option ServerState) → slice_get w.servers o ≡ found → option_and_then (λ s. seen_in s d) found ≡ Some (name, journal, way) → PairAt w o d name journal way
    by_server None at e = absurd (not_none (name, journal, way) e)
    by_server (Some s) at e = by_way s at (way_to s d) refl e

way_is_from : (w : WorldState) (o d : ℕ) (name : List ℕ) (journal : List Entry) (way : Way) → PairAt w o d name journal way → way_from w o d ≡ Some way
way_is_from w o d name journal way pair = ap (option_and_then (λ s. way_to s d)) pair.of ∙ pair.leads

-- ---- the unanswered transaction is brought

-- no memory was refused in between
pub none_failed_within : (start w new final : WorldState) → NoneFailed start final → Reached start w → Reached new final → NoneFailed w new
none_failed_within start w new final none before later k server dest n reply below at is =
    let more = reached_longer start w before in
    let longer = ap length more.1 ∙ length-append start.packets more.0 in
    none k server dest n reply (omega (arith, longer, below)) (packet_stays new final k _ (reached_longer new final later) at) is

pub record Settles (a b due : ℕ) (w new : WorldState) : Type 0 where
  pub name : List ℕ
  pub journal : List Entry
  pub way : Way
  pub t : TransactionValue
  pub seen_is : seen a b w ≡ Some (name, journal, way)
  pub unanswered : way.outbox.unanswered ≡ Some t
  pub before : WorldState
  pub told : Outcome
  pub does : AtServer a (IsOnWay b (settling t.number (Some 200) before.now)) before told new
  pub same : (o d : ℕ) → seen o d before ≡ seen o d w
  pub by : (bound : ℕ) → AllBy bound w → AllBy bound before
  pub now : before.now ≡ max w.now due

module _ (laws : Laws) where
  -- an answer that is not for want of memory is read as one of 200
  succeeds : (w : WorldState) → IsSound w → (o d n k : ℕ) (name : List ℕ) (journal : List Entry) (way : Way) → seen o d w ≡ Some (name, journal, way) → (reply : Answer) → packet_at w.packets k ≡ Some (answer o d n reply) → reply.status ≢ 500
      → (status : Option ℕ) → IsStatusOf reply status → status ≡ Some 200
  succeeds w h o d n k name journal way is reply packet well status read = by (pair.between.held.lands.answers k n reply packet)
    where
      pair : PairAt w o d name journal way
      pair = pair_at w h o d name journal way is

      by : IsAnswerOf (kept_for pair.between.log w.epoch n) reply → status ≡ Some 200
      by (inl no_memory) = absurd (well (ap (λ (r : Answer). r.status) no_memory))
      by (inr (body, is, kept)) = read_as_200 body status (pair.between.held.lands.short n body kept) (subst (λ r. IsStatusOf r status) is read)

  pub settles : (a b due : ℕ) (w new : WorldState) → IsSound w → due ≤ max_moment → IsBrought a b due w new → NoneFailed w new → Settles a b due w new
  settles a b due w new h within is none = by (outcome.Posted is.request) is.posted is.is_posted refl is.is_taken
    where
      by : (told : Outcome) (sent : WorldState) → IsPosted a b (risen_to due w) told sent → told ≡ outcome.Posted is.request → IsTaken is.request sent (outcome.Answered is.answer is.status) is.answered → Settles a b due w new
      by _ _ (packets.no_sender none) e takes = absurd (cc)
      by _ _ (packets.no_way s at none) e takes = absurd (cc)
      by _ _ (packets.nothing s way on none) e takes = absurd (cc)
      by _ _ (packets.not_due s way t on unanswered early) e takes = absurd (cc)
      by _ _ (packets.posted s way t name on unanswered due_now name_is readable) e takes =
          let sent = packets.with_packet (risen_to due w) (request_for w a s b name t) in
          let posted : IsPosted a b (risen_to due w) (outcome.Posted (length w.packets + 1)) sent = packets.posted s way t name on unanswered due_now name_is readable in
          let there : packet_at sent.packets is.request ≡ Some (request_for w a s b name t) = subst (λ k. packet_at sent.packets k ≡ Some (request_for w a s b name t)) (number e) (at_the_end w.packets (request_for w a s b name t)) in
          let given = answered_by a b t.number _ is.request is.answer is.status sent _ is.answered there takes refl in
          let settling_so = settled_by a b t.number given.reply is.answer is.answered is.told new given.last is.is_settled in
          let reach = one_more _ _ _ (one_more _ _ _ (wait_reach w due within) (steps.posted a b posted)) (steps.taken is.request takes) in
          let longer = length-append w.packets (request_for w a s b name t ∷ []) in
          let newest = given.newest in
          let later : length w.packets < is.answer = omega (arith, longer, newest) in
          let stays = packet_stays is.answered new is.answer _ (reached_longer is.answered new (one_more _ _ _ steps.no_step (steps.settled is.answer is.is_settled))) given.last in
          let seen_is : seen a b w ≡ Some (s.name, s.journal, way) = ap (option_and_then (λ x. seen_in x b)) on.server_is ∙ ap (option_map {U = Seen} (λ (l : Way). (s.name, s.journal, l))) on.way_is in
          let same = λ (o d : ℕ). seen_taken o d is.request sent _ is.answered takes in
          let sound = reached_sound laws w is.answered reach h in
          let status_is = succeeds is.answered sound a b t.number is.answer s.name s.journal way (same a b ∙ seen_is) given.reply given.last (none is.answer a b t.number given.reply later stays) settling_so.status settling_so.read in
          record {
            name = s.name;
            journal = s.journal;
            way = way;
            t = t;
            seen_is = seen_is;
            unanswered = unanswered;
            before = is.answered;
            told = is.told;
            does = subst (λ status. AtServer a (IsOnWay b (settling t.number status is.answered.now)) is.answered is.told new) status_is settling_so.does;
            same = same;
            by = λ bound all. taken_by bound is.request sent _ is.answered takes (record { each = all.each });
            now = sym (taken_now is.request sent _ is.answered takes);
          }
        where
          number : outcome.Posted (length w.packets + 1) ≡ outcome.Posted is.request → length w.packets + 1 ≡ is.request
          number e = cc

-- ---- collecting all that waits

-- so many parcels are collected
abbrev pub collected_times : ℕ → Way → Way
collected_times zero way = way
collected_times (suc n) way = collected (collected_times n way)

seen_collected : (o d : ℕ) (w : WorldState) (n : ℕ) (new : WorldState) (name : List ℕ) (journal : List Entry) (way : Way) → seen o d w ≡ Some (name, journal, way) → Times (CollectsOne o d) w n new
    → seen o d new ≡ Some (name, journal, collected_times n way)
seen_collected o d w _ _ name journal way is never = is
seen_collected o d w _ _ name journal way is (once_more n between new before does) =
    seen_on o d _ between does.0 new name journal (collected_times n way) (seen_collected o d w n between name journal way is before) does.1

-- it takes no time, and no transaction is due later
pub times_now : (o d : ℕ) (w : WorldState) (n : ℕ) (new : WorldState) → Times (CollectsOne o d) w n new → new.now ≡ w.now
times_now o d w _ _ never = refl
times_now o d w _ _ (once_more n between new before does) = sym (at_server_now o _ between does.0 new does.1) ∙ times_now o d w n between before

pub times_by : (bound o d : ℕ) (w : WorldState) (n : ℕ) (new : WorldState) → Times (CollectsOne o d) w n new → AllBy bound w → AllBy bound new
times_by bound o d w _ _ never all = all
times_by bound o d w _ _ (once_more n between new before does) all = collects_by bound o d between does.0 new does.1 (times_by bound o d w n between before all)

-- how many events, and EDUs, of the way are not settled
abbrev pub left : Way → ℕ
left way = length (unanswered_pdus way.outbox.unanswered) + length (way.outbox.waiting ++ events_of way.queue)

abbrev pub left_edus : Way → ℕ
left_edus way = length (unanswered_edus way.outbox.unanswered) + length (way.outbox.waiting_edus ++ edus_of way.queue)

-- the first n parcels of the queue were collected: nothing is lost, and nothing else has changed
record IsDrained (d : ℕ) (placed : List Parcel) (n : ℕ) (old new : Way) : Type 0 where
  pub follows : Follows d placed new
  pub queue : new.queue ≡ drop n old.queue
  pub unanswered : new.outbox.unanswered ≡ old.outbox.unanswered
  pub waiting : new.outbox.waiting ++ events_of new.queue ≡ old.outbox.waiting ++ events_of old.queue
  pub waiting_edus : new.outbox.waiting_edus ++ edus_of new.queue ≡ old.outbox.waiting_edus ++ edus_of old.queue

abbrev pub Next : Type 0
Next = (d : ℕ) (entries : List Entry) (parcel : Parcel) (later : List Parcel) (o : OutboxState) → Follows d (parcels entries d) (record { queue = parcel ∷ later; outbox = o }) → fits o parcel.place ≡ true

drop_one_more : {A : Type 0} (n : ℕ) (xs : List A) (rest : List A) → rest ≡ drop n xs → drop 1 rest ≡ drop (suc n) xs
drop_one_more n xs rest is = ap (drop 1) is ∙ by n xs
  where
    by : {A : Type 0} (n : ℕ) (xs : List A) → drop 1 (drop n xs) ≡ drop (suc n) xs
    by zero xs = refl
    by (suc n) [] = refl
    by (suc n) (x ∷ xs) = by n xs

module _ (laws : Laws) (next : Next) (d : ℕ) (journal : List Entry) where
  -- one parcel more
  loaded : (load : Load) (place : _) (later : List Parcel) (o : OutboxState)
      → ((with_load o load).unanswered ≡ o.unanswered)
      × ((with_load o load).waiting ++ events_of later ≡ o.waiting ++ events_of (record { place = place; load = load } ∷ later))
      × ((with_load o load).waiting_edus ++ edus_of later ≡ o.waiting_edus ++ edus_of (record { place = place; load = load } ∷ later))
  loaded (Event event) place later o = (refl, append_assoc o.waiting (event ∷ []) (events_of later), refl)
  loaded (Edu edu) place later o = (refl, refl, append_assoc o.waiting_edus (edu ∷ []) (edus_of later))
  loaded End place later o = (refl, refl, refl)

  one_drained : (n : ℕ) (old new : Way) → IsDrained d (parcels journal d) n old new → IsDrained d (parcels journal d) (suc n) old (collected new)
  one_drained n old new h = by new.queue refl
    where
      by : (queue : List Parcel) → new.queue ≡ queue → IsDrained d (parcels journal d) (suc n) old (collected new)
      by [] is =
          let same : collected new ≡ new = ap (λ q. collected_of q new.outbox) is ∙ ap (λ q. record { queue = q; outbox = new.outbox }) (sym is) in
          subst (IsDrained d (parcels journal d) (suc n) old) (sym same)
          (record { follows = h.follows; queue = is ∙ ap (drop 1) (sym is) ∙ drop_one_more n old.queue new.queue h.queue; unanswered = h.unanswered; waiting = h.waiting; waiting_edus = h.waiting_edus })
      by (p ∷ ps) is =
          let there : Follows d (parcels journal d) (record { queue = p ∷ ps; outbox = new.outbox }) = subst (λ q. Follows d (parcels journal d) (record { queue = q; outbox = new.outbox })) is h.follows in
          let fitting = next d journal p ps new.outbox there in
          let moves : collected new ≡ record { queue = ps; outbox = with_load new.outbox p.load } =
          ap (λ q. collected_of q new.outbox) is ∙ ap (λ b. if b then record { queue = ps; outbox = with_load new.outbox p.load } else record { queue = p ∷ ps; outbox = new.outbox }) fitting in
          let one = loaded p.load p.place ps new.outbox in
          record {
            follows = laws.collected d journal new h.follows;
            queue = ap (λ (l : Way). l.queue) moves ∙ ap (drop 1) (sym is) ∙ drop_one_more n old.queue new.queue h.queue;
            unanswered = ap (λ (l : Way). l.outbox.unanswered) moves ∙ one.0 ∙ h.unanswered;
            waiting = ap (λ (l : Way). l.outbox.waiting ++ events_of l.queue) moves ∙ one.1 ∙ ap (λ q. new.outbox.waiting ++ events_of q) (sym is) ∙ h.waiting;
            waiting_edus = ap (λ (l : Way). l.outbox.waiting_edus ++ edus_of l.queue) moves ∙ one.2 ∙ ap (λ q. new.outbox.waiting_edus ++ edus_of q) (sym is) ∙ h.waiting_edus;
          }

  drained : (n : ℕ) (way : Way) → Follows d (parcels journal d) way → IsDrained d (parcels journal d) n way (collected_times n way)
  drained zero way follows = record { follows = follows; queue = refl; unanswered = refl; waiting = refl; waiting_edus = refl }
  drained (suc n) way follows = one_drained n way (collected_times n way) (drained n way follows)

-- ---- what is left after a round

-- nothing is unanswered and nothing queued; and where nothing was unanswered before, 50 events and 100 EDUs fewer are left
pub record IsAfter (old new : Way) : Type 0 where
  pub unanswered : new.outbox.unanswered ≡ None
  pub less : old.outbox.unanswered ≡ None → (left new ≡ left old - 50) × (left_edus new ≡ left_edus old - 100)
  pub no_more : (left new ≤ left old) × (left_edus new ≤ left_edus old)

-- all parcels were collected
record IsEmptied (old new : Way) : Type 0 where
  pub queue : new.queue ≡ []
  pub unanswered : new.outbox.unanswered ≡ old.outbox.unanswered
  pub waiting : new.outbox.waiting ≡ old.outbox.waiting ++ events_of old.queue
  pub waiting_edus : new.outbox.waiting_edus ≡ old.outbox.waiting_edus ++ edus_of old.queue

drop_all : {A : Type 0} (xs : List A) → drop (length xs) xs ≡ []
drop_all [] = refl
drop_all (x ∷ xs) = drop_all xs

emptied : (laws : Laws) (next : Next) (d : ℕ) (journal : List Entry) (way : Way) → Follows d (parcels journal d) way → IsEmptied way (collected_times (length way.queue) way)
emptied laws next d journal way follows =
    let h = drained laws next d journal (length way.queue) way follows in
    let empty_way = collected_times (length way.queue) way in
    let none : empty_way.queue ≡ [] = h.queue ∙ drop_all way.queue in
    record {
      queue = none;
      unanswered = h.unanswered;
      waiting = sym (append-nil empty_way.outbox.waiting) ∙ ap (λ q. empty_way.outbox.waiting ++ events_of q) (sym none) ∙ h.waiting;
      waiting_edus = sym (append-nil empty_way.outbox.waiting_edus) ∙ ap (λ q. empty_way.outbox.waiting_edus ++ edus_of q) (sym none) ∙ h.waiting_edus;
    }

-- nothing waits: no transaction is made
empty_where : {A : Type 0} (xs : List A) → is_empty xs ≡ true → xs ≡ []
empty_where [] e = refl
empty_where (x ∷ xs) e = absurd (true≢false (sym e))

both_empty : {A B : Type 0} (xs : List A) (ys : List B) → (is_empty xs && is_empty ys) ≡ true → (xs ≡ []) × (ys ≡ [])
both_empty [] ys e = (refl, empty_where ys e)
both_empty (x ∷ xs) ys e = absurd (true≢false (sym e))

no_cut_where : (o : OutboxState) → o.unanswered ≡ None → can_cut o ≡ false → (o.waiting ≡ []) × (o.waiting_edus ≡ [])
no_cut_where o none is = both_empty o.waiting o.waiting_edus (by (is_empty o.waiting && is_empty o.waiting_edus) (ap (λ u. not (is_unanswered u) && not (is_empty o.waiting && is_empty o.waiting_edus)) (sym none) ∙ is))
  where
    by : (b : Bool) → not b ≡ false → b ≡ true
    by true e = refl
    by false e = absurd (true≢false e)

-- while one is unanswered, no other is made
no_cut_while : (o : OutboxState) (t : TransactionValue) → o.unanswered ≡ Some t → (now : ℕ) → cut o now ≡ o
no_cut_while o t some now = same (ap (λ u. not (is_unanswered u) && not (is_empty o.waiting && is_empty o.waiting_edus)) some)
  where
    same : can_cut o ≡ false → cut o now ≡ o
    same e = rw e refl

settled_is : (o : OutboxState) (t : TransactionValue) (now : ℕ) → o.unanswered ≡ Some t → answered o t.number (Some 200) now ≡ taken o
settled_is o t now some = same (ap (λ u. has_number u t.number) some ∙ eq-eqb t.number t.number refl)
  where
    same : has_number o.unanswered t.number ≡ true → settle o t.number 200 now ≡ taken o
    same e = rw e refl

-- the way after the unanswered transaction was settled
taken_way : Way → Way
taken_way way = with_outbox way (taken way.outbox)

-- when the unanswered transaction is due
due_seen : (w : WorldState) (o d : ℕ) (way : Way) → way_from w o d ≡ Some way → due_at w o d ≡ (if is_unanswered way.outbox.unanswered then Some way.outbox.due_at else None)
due_seen w o d way is = ap (option_and_then (λ (l : Way). if is_unanswered l.outbox.unanswered then Some l.outbox.due_at else None)) is

-- ---- the exchange of a round

module _ (laws : Laws) (o d : ℕ) (name : List ℕ) (journal : List Entry) (way : Way) (w new : WorldState) (h : IsSound w) (is : seen o d w ≡ Some (name, journal, way)) (bound : ℕ) (within : bound ≤ max_moment) (all : AllBy bound w)
    (none : NoneFailed w new) where
  pair : PairAt w o d name journal way
  pair = pair_at w h o d name journal way is

  due_is : due_at w o d ≡ (if is_unanswered way.outbox.unanswered then Some way.outbox.due_at else None)
  due_is = due_seen w o d way (way_is_from w o d name journal way pair)

  is_soon : way.outbox.due_at ≤ bound
  is_soon = all.each o pair.os pair.of d way (way_there pair.os d way pair.leads).is

  -- nothing is unanswered: nothing is done
  pub idle : IsExchanged o d w new → way.outbox.unanswered ≡ None → seen o d new ≡ Some (name, journal, way)
  idle exchange unanswered = by new exchange
    where
      no_due : due_at w o d ≡ None
      no_due = due_is ∙ ap (λ u. if is_unanswered u then Some way.outbox.due_at else None) unanswered

      by : (after : WorldState) → IsExchanged o d w after → seen o d after ≡ Some (name, journal, way)
      by _ (nothing e) = is
      by _ (left_alone due e late) = absurd (not_none due (sym no_due ∙ e))
      by _ (brought due after e early done) = absurd (not_none due (sym no_due ∙ e))

  -- what is unanswered is settled
  pub exchanged : IsExchanged o d w new → (t : TransactionValue) → way.outbox.unanswered ≡ Some t → seen o d new ≡ Some (name, journal, with_outbox way (taken way.outbox))
  exchanged exchange t unanswered = by new exchange none
    where
      due_now : due_at w o d ≡ Some way.outbox.due_at
      due_now = due_is ∙ ap (λ u. if is_unanswered u then Some way.outbox.due_at else None) unanswered

      by : (after : WorldState) → IsExchanged o d w after → NoneFailed w after → seen o d after ≡ Some (name, journal, with_outbox way (taken way.outbox))
      by _ (nothing e) good = absurd (not_none way.outbox.due_at (sym e ∙ due_now))
      by _ (left_alone due e late) good = let same = same_some due way.outbox.due_at (sym e ∙ due_now) in let soon = is_soon in absurd (omega (arith, same, late, soon, within))
      by _ (brought due after e early done) good =
          let s = settles laws o d due w after h early done good in
          let same_way : s.way ≡ way = ap (λ (x : Seen). x.2) (same_some (s.name, s.journal, s.way) (name, journal, way) (sym s.seen_is ∙ is)) in
          let same_t : s.t ≡ t = same_some s.t t (sym s.unanswered ∙ ap (λ (l : Way). l.outbox.unanswered) same_way ∙ unanswered) in
          let there = seen_on o d _ s.before s.told after name journal way (s.same o d ∙ is) s.does in
          there ∙ ap (λ (out : OutboxState). Some (name, journal, with_outbox way out))
          (ap (λ (u : TransactionValue). answered way.outbox u.number (Some 200) s.before.now) same_t ∙ settled_is way.outbox t s.before.now unanswered)

-- ---- a whole round, for this way

module _ (laws : Laws) (next : Next) (o d : ℕ) (name : List ℕ) (journal : List Entry) (way : Way) (w new : WorldState) (h : IsSound w) (is : seen o d w ≡ Some (name, journal, way)) (bound : ℕ) (within : bound ≤ max_moment)
    (early : w.now ≤ bound) (all : AllBy bound w) (none : (between : WorldState) → Reached w between → NoneFailed between new) (calm : IsCalmWay o d w new) where
  first : PairAt w o d name journal way
  first = pair_at w h o d name journal way is

  count : length (queue_at w o d) ≡ length way.queue
  count = ap length (queue_seen (way_is_from w o d name journal way first))
    where
      queue_seen : way_from w o d ≡ Some way → queue_at w o d ≡ way.queue
      queue_seen e = rw e refl

  abbrev empty_way : Way
  empty_way = collected_times (length way.queue) way

  reach_collected : Reached w calm.collected
  reach_collected = times_reach (CollectsOne o d) (collect_reach o d) w _ calm.collected calm.collects

  reach_cut : Reached w calm.cut
  reach_cut = reached_then w calm.collected calm.cut reach_collected (cut_reach o d calm.collected calm.cut calm.cuts)

  is_emptied : IsEmptied way empty_way
  is_emptied = emptied laws next d journal way (subst (λ j. Follows d (parcels j d) way) first.journal_is first.between.held.follows)

  abbrev cut_then : Way
  cut_then = with_outbox empty_way (cut empty_way.outbox calm.collected.now)

  seen_cut : seen o d calm.cut ≡ Some (name, journal, with_outbox empty_way (cut empty_way.outbox calm.collected.now))
  seen_cut =
      seen_on o d _ calm.collected calm.cuts.0 calm.cut name journal empty_way
      (seen_collected o d w (length way.queue) calm.collected name journal way is (subst (λ n. Times (CollectsOne o d) w n calm.collected) count calm.collects)) calm.cuts.1

  sound_cut : IsSound calm.cut
  sound_cut = reached_sound laws w calm.cut reach_cut h

  all_cut : AllBy bound calm.cut
  all_cut =
      let still = times_now o d w _ calm.collected calm.collects in
      cuts_by bound o d calm.collected calm.cuts.0 calm.cut (omega (arith, still, early)) calm.cuts.1 (times_by bound o d w _ calm.collected calm.collects all)

  none_cut : NoneFailed calm.cut new
  none_cut = none calm.cut reach_cut

  -- how many wait empty_way
  waits : length empty_way.outbox.waiting ≡ length (way.outbox.waiting ++ events_of way.queue)
  waits = ap length is_emptied.waiting

  waits_edus : length empty_way.outbox.waiting_edus ≡ length (way.outbox.waiting_edus ++ edus_of way.queue)
  waits_edus = ap length is_emptied.waiting_edus

  -- with nothing queued
  as_waiting : (xs : List CheckedEvent) → length (xs ++ events_of empty_way.queue) ≡ length xs
  as_waiting xs = ap (λ q. length (xs ++ events_of q)) is_emptied.queue ∙ ap length (append-nil xs)

  as_waiting_edus : (xs : List Data) → length (xs ++ edus_of empty_way.queue) ≡ length xs
  as_waiting_edus xs = ap (λ q. length (xs ++ edus_of q)) is_emptied.queue ∙ ap length (append-nil xs)

  abbrev Result : Type 0
  Result = (later : Way) × (seen o d new ≡ Some (name, journal, later)) × IsAfter way later

  -- one was unanswered
  was_unanswered : (t : TransactionValue) → way.outbox.unanswered ≡ Some t → Result
  was_unanswered t some =
      let still : empty_way.outbox.unanswered ≡ Some t = is_emptied.unanswered ∙ some in
      let no_more = ap (λ (out : OutboxState). with_outbox empty_way out) (no_cut_while empty_way.outbox t still calm.collected.now) in
      let there : seen o d calm.cut ≡ Some (name, journal, empty_way) = seen_cut ∙ ap (λ (l : Way). Some (name, journal, l)) no_more in
      let done = exchanged laws o d name journal empty_way calm.cut new sound_cut there bound within all_cut none_cut calm.exchanged t still in
      let few : length (unanswered_pdus way.outbox.unanswered) ≡ length t.pdus = ap (λ u. length (unanswered_pdus u)) some in
      let few_edus : length (unanswered_edus way.outbox.unanswered) ≡ length t.edus = ap (λ u. length (unanswered_edus u)) some in
      let now = as_waiting empty_way.outbox.waiting in
      let now_edus = as_waiting_edus empty_way.outbox.waiting_edus in (
        with_outbox empty_way (taken empty_way.outbox),
        done,
        record {
          unanswered = refl;
          less = λ none. absurd (not_none t (sym none ∙ some));
          no_more = (omega (arith, waits, few, now), omega (arith, waits_edus, few_edus, now_edus));
        },
      )

  -- none was, and one was made
  was_made : way.outbox.unanswered ≡ None → can_cut empty_way.outbox ≡ true → Result
  was_made none can =
      let t = next_transaction empty_way.outbox calm.collected.now in
      let is_cut = cut_where empty_way.outbox calm.collected.now can in
      let made : (cut empty_way.outbox calm.collected.now).unanswered ≡ Some t = ap (λ (out : OutboxState). out.unanswered) is_cut in
      let rest : (cut empty_way.outbox calm.collected.now).waiting ≡ drop 50 empty_way.outbox.waiting = ap (λ (out : OutboxState). out.waiting) is_cut in
      let rest_edus : (cut empty_way.outbox calm.collected.now).waiting_edus ≡ drop 100 empty_way.outbox.waiting_edus = ap (λ (out : OutboxState). out.waiting_edus) is_cut in
      let done = exchanged laws o d name journal cut_then calm.cut new sound_cut seen_cut bound within all_cut none_cut calm.exchanged t made in
      let now = as_waiting (cut empty_way.outbox calm.collected.now).waiting in
      let now_edus = as_waiting_edus (cut empty_way.outbox calm.collected.now).waiting_edus in
      let size = ap length rest ∙ length-drop 50 empty_way.outbox.waiting in
      let size_edus = ap length rest_edus ∙ length-drop 100 empty_way.outbox.waiting_edus in
      let few : length (unanswered_pdus way.outbox.unanswered) ≡ 0 = ap (λ u. length (unanswered_pdus u)) none in
      let few_edus : length (unanswered_edus way.outbox.unanswered) ≡ 0 = ap (λ u. length (unanswered_edus u)) none in (
        with_outbox cut_then (taken cut_then.outbox),
        done,
        record {
          unanswered = refl;
          less = λ _. (omega (arith, waits, now, size, few), omega (arith, waits_edus, now_edus, size_edus, few_edus));
          no_more = (omega (arith, waits, now, size, few), omega (arith, waits_edus, now_edus, size_edus, few_edus));
        },
      )

  -- there was nothing to send
  was_idle : way.outbox.unanswered ≡ None → can_cut empty_way.outbox ≡ false → Result
  was_idle none cannot =
      let still : empty_way.outbox.unanswered ≡ None = is_emptied.unanswered ∙ none in
      let nothing_waits = no_cut_where empty_way.outbox still cannot in
      let there : seen o d calm.cut ≡ Some (name, journal, empty_way) = seen_cut ∙ ap (λ (out : OutboxState). Some (name, journal, with_outbox empty_way out)) (no_cut empty_way.outbox cannot) in
      let done = idle laws o d name journal empty_way calm.cut new sound_cut there bound within all_cut none_cut calm.exchanged still in
      let now = as_waiting empty_way.outbox.waiting in
      let now_edus = as_waiting_edus empty_way.outbox.waiting_edus in
      let zero_wait = ap length nothing_waits.0 in
      let zero_edus = ap length nothing_waits.1 in
      let few : length (unanswered_pdus way.outbox.unanswered) ≡ 0 = ap (λ u. length (unanswered_pdus u)) none in
      let few_edus : length (unanswered_edus way.outbox.unanswered) ≡ 0 = ap (λ u. length (unanswered_edus u)) none in
      let few_then : length (unanswered_pdus empty_way.outbox.unanswered) ≡ 0 = ap (λ u. length (unanswered_pdus u)) still in
      let few_edus_then : length (unanswered_edus empty_way.outbox.unanswered) ≡ 0 = ap (λ u. length (unanswered_edus u)) still in (
        empty_way,
        done,
        record {
          unanswered = still;
          less = λ _. (omega (arith, waits, now, zero_wait, few, few_then), omega (arith, waits_edus, now_edus, zero_edus, few_edus, few_edus_then));
          no_more = (omega (arith, waits, now, zero_wait, few, few_then), omega (arith, waits_edus, now_edus, zero_edus, few_edus, few_edus_then));
        },
      )
    where
      no_cut : (out : OutboxState) → can_cut out ≡ false → cut out calm.collected.now ≡ out
      no_cut out e = rw e refl

  pub after_round : (later : Way) × (seen o d new ≡ Some (name, journal, later)) × IsAfter way later
  after_round = by way.outbox.unanswered refl (cases_Bool (can_cut empty_way.outbox))
    where
      by : (u : Option TransactionValue) → way.outbox.unanswered ≡ u → (can_cut empty_way.outbox ≡ true) ⊎ (can_cut empty_way.outbox ≡ false) → Result
      by (Some t) some cuts = was_unanswered t some
      by None none (inl can) = was_made none can
      by None none (inr cannot) = was_idle none cannot
