-- A request that is taken leaves a world in which what is so of every world is so.
use Rattle.std.proofs.Common.{◌≡◌, ◌≢◌, ℕ, ◌+◌, ◌<◌, ◌^◌, nat_lt, List, [], ◌∷◌, ◌++◌, length, map, filter, set, Option, Some, None, refl, sym, ap, subst, ◌∙◌, ◌⊎◌, inl, inr, arith}
use Rattle.std.specs.Prelude.{slice_get}
use Rattle.std.specs.FinMap as finite
use Rattle.std.proofs.lemmas.Bool.{cases_eq, lt-ltb}
use Rattle.std.proofs.lemmas.List.{length-set, append-nil}
use Rattle.fed_json.specs.CanonicalText.{canonical_text}
use Rattle.fed_keys.specs.StandIn.{stand_in_checks}
use Rattle.fed_event.specs.Checked.{CheckedEvent}
use Rattle.fed_dest.specs.ServerName.{IsServerName}
use Rattle.fed_http.specs.Message.{RequestValue}
use Rattle.fed_txn.specs.Writing.{received}
use Rattle.fed_inbox.specs.declared.refusal.Refusal.TheVariants.{OutOfMemory}
use Rattle.fed_inbox.specs.Reply.{Answer, accepted, refused}
use Rattle.fed_inbox.specs.Log.{LogState}
use Rattle.fed_inbox.specs.Inbox.{log_at, pdus_by, edus_by, taken_of, taken_edus_of}
use Rattle.fed_inbox.specs.Answer.{with_taking}
use Rattle.fed_journal.specs.Edu.{is_edu}
use Rattle.fed_inbox.specs.Taking.{Taking, taking_of}
use Rattle.fed_inbox.specs.WholeRequest.{IsAnsweredWhole}
use Rattle.fed_outbox.specs.Collecting.{Way}
use Rattle.fed_sim.specs.declared.outcome.Outcome.{Outcome}
use Rattle.fed_exchange.specs.Messages.{IsRequestIn, HasNoRequest}
use Rattle.fed_sim.specs.Packets.{packet_at, with_packet, IsTaken, no_request, no_text, no_receiver, taken}
use Rattle.fed_sim.specs.Server.{ServerState}
use Rattle.fed_inbox.specs.Queues.{queues_from}
use Rattle.fed_sim.specs.Taking.{IsTakeAt}
use Rattle.fed_sim.specs.Headline.{WasGiven, IsAllTaken, IsAnswered, IsAnsweredOnce}
use Rattle.fed_sim.specs.Headline as answers
use Rattle.fed_sim.specs.Ways.{way_to}
use Rattle.fed_sim.specs.World.{PacketState, request, answer, WorldState, with_server}
use Rattle.fed_sim.proofs.Ids.{txn_id}
use Rattle.fed_sim.proofs.Servers.{listed}
use Rattle.fed_exchange.proofs.Sent as sent
use Rattle.fed_sim.proofs.Comings.{Comes, nothing, again, first, HasTaken, whole}
use Rattle.fed_sim.proofs.Landing.{texts, last_or_before, IsForeign, IsRequestOf, IsAnswerOf, kept_for, Lands, lands_answered, lands_taken}
use Rattle.fed_sim.proofs.WayMoves.{IsHeld, sent_of}
use Rattle.fed_sim.proofs.Between.{same_some, not_none, set_or_other, IsServerAt, IsWay, IsBetween, IsSound, way_there, there_way}
use Rattle.fed_sim.proofs.Posting.{held_foreign}
use Rattle.fed_sim.proofs.Delivered.{same_texts}

-- nothing new stands in front of the rooms
nothing_arrives : (k : ℕ) (known : List (List ℕ)) (queues : List (List CheckedEvent)) → queues_from k known [] queues ≡ queues
nothing_arrives k known [] = refl
nothing_arrives k known (queue ∷ queues) = (λ i. append-nil queue i ∷ nothing_arrives (k + 1) known queues i)

not_success : (reply : Answer) → reply.status ≡ 200 → reply ≡ refused OutOfMemory → ⊥
not_success reply ok is = absurd (let status = ap (λ (a : Answer). a.status) is in omega (arith, ok, status))

module _ (w : WorldState) (h : IsSound w) (k server dest n : ℕ) (bytes : List ℕ) (packet : packet_at w.packets k ≡ Some (request server dest n bytes)) where
  -- ---- who sent it

  pub is_way : IsWay (length w.servers) server dest
  is_way = h.ways k server dest n bytes packet

  module _ (before : ServerState) (at : slice_get w.servers dest ≡ Some before) where
    pub sender : (os : ServerState) × (slice_get w.servers server ≡ Some os)
    sender = listed w.servers server is_way.from

    abbrev pub os : ServerState
    os = sender.0

    of : slice_get w.servers server ≡ Some os
    of = sender.1

    os_is : IsServerAt w.names (length w.servers) server os
    os_is = h.servers server os of

    ds_is : IsServerAt w.names (length w.servers) dest before
    ds_is = h.servers dest before at

    pub way_listed : (way : Way) × (slice_get os.ways dest ≡ Some way)
    way_listed = listed os.ways dest (let to = is_way.to in omega (arith, to, os_is.ways))

    abbrev pub way : Way
    way = way_listed.0

    way_is : way_to os dest ≡ Some way
    way_is =
        there_way os dest way (record {
          apart = λ e. is_way.apart (e ∙ os_is.own);
          within = lt-ltb dest (length os.ways) (let to = is_way.to in omega (arith, to, os_is.ways));
          is = way_listed.1;
        })

    pub between : IsBetween server dest w.epoch os before way w.packets
    between = h.pairs server dest os before way of at way_is

    pub asks : IsRequestOf os.name before.name w.epoch (sent_of way.outbox) between.log n bytes
    asks = between.held.lands.requests k n bytes packet

    -- its bytes begin with a request
    pub is_read : HasNoRequest bytes → ⊥
    is_read none =
        none (sent.sent os.name before.name w.epoch asks.t os_is.named ds_is.named asks.takable.limits asks.readable)
        (subst (λ b. IsRequestIn b (sent.sent os.name before.name w.epoch asks.t os_is.named ds_is.named asks.takable.limits asks.readable)) (sym asks.bytes_are)
        (sent.posted_is_read os.name before.name w.epoch asks.t os_is.named ds_is.named asks.takable.limits asks.readable))

    module _ (r : RequestValue) (after : ServerState) (reply : Answer) (reads : IsRequestIn bytes r) (is : IsTakeAt w.known r before reply after) where
      -- ---- what it came to

      request_is : r ≡ sent.sent os.name before.name w.epoch asks.t os_is.named ds_is.named asks.takable.limits asks.readable
      request_is = sent.read_as_posted os.name before.name w.epoch asks.t os_is.named ds_is.named asks.takable.limits asks.readable r (subst (λ b. IsRequestIn b r) asks.bytes_are reads)

      abbrev pub taking : Taking
      taking = taking_of stand_in_checks before.inbox.rooms (received os.name asks.t)

      pub comes : Comes (txn_id w.epoch asks.t.number) os.name taking between.log before.inbox reply after.inbox is.taken.fresh
      comes =
          whole os.name before.name w.epoch asks.t os_is.named ds_is.named asks.takable.limits asks.readable before.inbox ds_is.inbox_own between.log between.log_is reply after.inbox is.taken.fresh
          (subst (λ x. IsAnsweredWhole stand_in_checks before.inbox x reply after.inbox is.taken.fresh) request_is is.taken.answered)

      same_numbers : txn_id w.epoch asks.t.number ≡ txn_id w.epoch n
      same_numbers = ap (txn_id w.epoch) asks.number_is

      small : n < 2 ^ 64
      small = subst (λ x. x < 2 ^ 64) asks.number_is asks.readable.number_fits

      -- ---- the receiver

      own_stays : after.own ≡ before.own
      own_stays = ap (λ s. s.own) is.others

      name_stays : after.name ≡ before.name
      name_stays = ap (λ s. s.name) is.others

      journal_stays : after.journal ≡ before.journal
      journal_stays = ap (λ s. s.journal) is.others

      ways_stay : after.ways ≡ before.ways
      ways_stay = ap (λ s. s.ways) is.others

      inbox_own : after.inbox.own ≡ before.inbox.own
      inbox_own = by comes
        where
          by : Comes (txn_id w.epoch asks.t.number) os.name taking between.log before.inbox reply after.inbox is.taken.fresh → after.inbox.own ≡ before.inbox.own
          by (nothing said same none) = ap (λ i. i.own) same
          by (again kept has said same none) = ap (λ i. i.own) same
          by (first none said takes fresh) = takes.own

      other_logs : (o : List ℕ) → o ≢ os.name → log_at o after.inbox.logs ≡ log_at o before.inbox.logs
      other_logs o apart = by comes
        where
          by : Comes (txn_id w.epoch asks.t.number) os.name taking between.log before.inbox reply after.inbox is.taken.fresh → log_at o after.inbox.logs ≡ log_at o before.inbox.logs
          by (nothing said same none) = ap (λ i. log_at o i.logs) same
          by (again kept has said same none) = ap (λ i. log_at o i.logs) same
          by (first none said takes fresh) = takes.others o apart

      -- ---- what landed

      abbrev one : PacketState
      one = answer server dest n reply

      record Landed : Type 0 where
        log : LogState
        log_is : log_at os.name after.inbox.logs ≡ Some log
        lands : Lands server dest w.epoch os.name before.name (sent_of way.outbox) log (w.packets ++ one ∷ [])

      kept_is : (kept : List ℕ) → finite.get between.log.replies (txn_id w.epoch asks.t.number) ≡ Some kept → kept_for between.log w.epoch n ≡ Some kept
      kept_is kept has = rw (lt-ltb n (2 ^ 64) small) (ap (finite.get between.log.replies) (sym same_numbers) ∙ has)

      not_kept : finite.get between.log.replies (txn_id w.epoch asks.t.number) ≡ None → (o : Option (List ℕ)) → kept_for between.log w.epoch n ≡ o → o ≡ None
      not_kept none o e = sym e ∙ rw (lt-ltb n (2 ^ 64) small) (ap (finite.get between.log.replies) (sym same_numbers) ∙ none)

      unanswered : finite.get between.log.replies (txn_id w.epoch asks.t.number) ≡ None → ((given : List ℕ) × (kept_for between.log w.epoch n ≡ Some given)) ⊎ (way.outbox.unanswered ≡ Some asks.t)
          → way.outbox.unanswered ≡ Some asks.t
      unanswered none (inl (given, kept)) = absurd (not_none given (sym (not_kept none (Some given) kept)))
      unanswered none (inr it) = it

      landed_so : Landed
      landed_so = by comes
        where
          without : IsAnswerOf (kept_for between.log w.epoch n) reply → after.inbox ≡ before.inbox → Landed
          without given same = record {
            log = between.log;
            log_is = ap (λ i. log_at os.name i.logs) same ∙ between.log_is;
            lands = lands_answered server dest w.epoch os.name before.name (sent_of way.outbox) between.log w.packets n reply given between.held.lands;
          }

          by : Comes (txn_id w.epoch asks.t.number) os.name taking between.log before.inbox reply after.inbox is.taken.fresh → Landed
          by (nothing said same none) = without (inl said) same
          by (again kept has said same none) = without (inr (kept, said, kept_is kept has)) same
          by (first none said takes fresh) = record {
            log = with_taking between.log (txn_id w.epoch asks.t.number) taking;
            log_is = takes.now;
            lands =
                subst (λ p. Lands server dest w.epoch os.name before.name (sent_of way.outbox) (with_taking between.log (txn_id w.epoch asks.t.number) taking) (w.packets ++ p ∷ []))
                (λ i. answer server dest (asks.number_is i) (sym said i))
                (lands_taken server dest w.epoch os.name before.name (sent_of way.outbox) between.log w.packets before.inbox.rooms asks.t asks.takable asks.readable.number_fits none (unanswered none asks.alive)
                between.held.lands);
          }

      -- ---- the world

      pub taken_so : IsSound (with_packet (with_server w dest after) one)
      taken_so = record {
        distinct = h.distinct;
        moment = h.moment;
        servers = λ j s e. placed j s (set_or_other w.servers dest after j s e);
        ways = λ j a b m text e. ways j a b m text (last_or_before w.packets one j (request a b m text) e);
        pairs = λ o d os' ds l eo ed there. pair o d os' ds l there (set_or_other w.servers dest after o os' eo) (set_or_other w.servers dest after d ds ed);
      }
        where
          count : length (set w.servers dest after) ≡ length w.servers
          count = length-set w.servers dest after

          now : IsServerAt w.names (length w.servers) dest after
          now = record {
            own = own_stays ∙ ds_is.own;
            name_is = ds_is.name_is ∙ ap Some (sym name_stays);
            named = subst IsServerName (sym name_stays) ds_is.named;
            inbox_own = inbox_own ∙ ds_is.inbox_own ∙ sym name_stays;
            ways = ap length ways_stay ∙ ds_is.ways;
          }

          placed : (j : ℕ) (s : ServerState) → ((j ≡ dest) × (after ≡ s)) ⊎ ((j ≢ dest) × (slice_get w.servers j ≡ Some s)) → IsServerAt w.names (length (set w.servers dest after)) j s
          placed j s (inl (here, it)) =
              subst (λ c. IsServerAt w.names c j s) (sym count) (subst (λ x. IsServerAt w.names (length w.servers) x s) (sym here) (subst (IsServerAt w.names (length w.servers) dest) it now))
          placed j s (inr (elsewhere, it)) = subst (λ c. IsServerAt w.names c j s) (sym count) (h.servers j s it)

          not_a_request : (a b m : ℕ) (text : List ℕ) → one ≡ request a b m text → ⊥
          not_a_request a b m text e = absurd (cc)

          ways : (j a b m : ℕ) (text : List ℕ) → (packet_at w.packets j ≡ Some (request a b m text)) ⊎ (one ≡ request a b m text) → IsWay (length (set w.servers dest after)) a b
          ways j a b m text (inl earlier) = subst (λ c. IsWay c a b) (sym count) (h.ways j a b m text earlier)
          ways j a b m text (inr last) = absurd (not_a_request a b m text last)

          same_ends : (a b m : ℕ) (given : Answer) → one ≡ answer a b m given → (server ≡ a) × (dest ≡ b)
          same_ends a b m given e = (cc, cc)

          elsewhere : (o d : ℕ) → ((server ≡ o) × (dest ≡ d) → ⊥) → IsForeign o d one
          elsewhere o d other = record { no_request = λ m text e. not_a_request o d m text e; no_answer = λ m given e. other (same_ends o d m given e) }

          -- from another server to the receiver
          to_it : (o : ℕ) (s : ServerState) (l : Way) → slice_get w.servers o ≡ Some s → way_to s dest ≡ Some l → (o ≡ server) ⊎ (o ≢ server) → IsBetween o dest w.epoch s after l (w.packets ++ one ∷ [])
          to_it o s l eo there (inl from) =
              let same_server : os ≡ s = same_some os s (sym of ∙ ap (slice_get w.servers) (sym from) ∙ eo) in
              let same_way : way ≡ l = same_some way l (sym way_is ∙ ap (λ x. way_to x dest) same_server ∙ there) in
              let main : IsBetween server dest w.epoch os after way (w.packets ++ one ∷ []) = record {
                log = landed_so.log;
                log_is = landed_so.log_is;
                held = record {
                  sound = between.held.sound;
                  follows = between.held.follows;
                  lands = subst (λ x. Lands server dest w.epoch os.name x (sent_of way.outbox) landed_so.log (w.packets ++ one ∷ [])) (sym name_stays) landed_so.lands;
                };
              } in
              subst (λ a. IsBetween a dest w.epoch s after l (w.packets ++ one ∷ [])) (sym from)
              (subst (λ x. IsBetween server dest w.epoch x after l (w.packets ++ one ∷ [])) same_server (subst (λ y. IsBetween server dest w.epoch os after y (w.packets ++ one ∷ [])) same_way main))
          to_it o s l eo there (inr other) =
              let b = held_foreign o dest w.epoch s before l w.packets one (elsewhere o dest (λ same. other (sym same.0))) (h.pairs o dest s before l eo at there) in
              let apart : s.name ≢ os.name = λ e. other (h.distinct o server s.name (h.servers o s eo).name_is (os_is.name_is ∙ ap Some (sym e))) in
              record {
                log = b.log;
                log_is = other_logs s.name apart ∙ b.log_is;
                held = subst (λ x. IsHeld o dest w.epoch s.name x s.journal l b.log (w.packets ++ one ∷ [])) (sym name_stays) b.held;
              }

          -- from the receiver
          from_it : (d : ℕ) (ds : ServerState) (l : Way) → slice_get w.servers d ≡ Some ds → way_to after d ≡ Some l → IsBetween dest d w.epoch after ds l (w.packets ++ one ∷ [])
          from_it d ds l ed there =
              let leads = way_there after d l there in
              let old_way = there_way before d l (record { apart = λ e. leads.apart (e ∙ sym own_stays); within = ap (λ x. nat_lt d (length x)) (sym ways_stay) ∙ leads.within; is = ap (λ x. slice_get x d) (sym ways_stay) ∙ leads.is }) in
              let b = held_foreign dest d w.epoch before ds l w.packets one (elsewhere dest d (λ same. is_way.apart (sym same.0))) (h.pairs dest d before ds l at ed old_way) in
              record {
                log = b.log;
                log_is = ap (λ x. log_at x ds.inbox.logs) name_stays ∙ b.log_is;
                held =
                    subst (λ x. IsHeld dest d w.epoch x ds.name after.journal l b.log (w.packets ++ one ∷ [])) (sym name_stays)
                    (subst (λ j. IsHeld dest d w.epoch before.name ds.name j l b.log (w.packets ++ one ∷ [])) (sym journal_stays) b.held);
              }

          pair : (o d : ℕ) (s ds : ServerState) (l : Way) → way_to s d ≡ Some l → ((o ≡ dest) × (after ≡ s)) ⊎ ((o ≢ dest) × (slice_get w.servers o ≡ Some s))
              → ((d ≡ dest) × (after ≡ ds)) ⊎ ((d ≢ dest) × (slice_get w.servers d ≡ Some ds)) → IsBetween o d w.epoch s ds l (w.packets ++ one ∷ [])
          pair o d s ds l there (inl (here, it)) (inl (here_too, it_too)) = absurd ((way_there s d l there).apart (here_too ∙ sym now.own ∙ ap (λ x. x.own) it))
          pair o d s ds l there (inl (here, it)) (inr (differs, ed)) =
              subst (λ a. IsBetween a d w.epoch s ds l (w.packets ++ one ∷ [])) (sym here)
              (subst (λ x. IsBetween dest d w.epoch x ds l (w.packets ++ one ∷ [])) it (from_it d ds l ed (ap (λ x. way_to x d) it ∙ there)))
          pair o d s ds l there (inr (differs, eo)) (inl (here, it)) =
              subst (λ b. IsBetween o b w.epoch s ds l (w.packets ++ one ∷ [])) (sym here)
              (subst (λ x. IsBetween o dest w.epoch s x l (w.packets ++ one ∷ [])) it (to_it o s l eo (ap (λ b. way_to s b) (sym here) ∙ there) (cases_eq o server)))
          pair o d s ds l there (inr (differs, eo)) (inr (differs_too, ed)) =
              held_foreign o d w.epoch s ds l w.packets one (elsewhere o d (λ same. differs_too (sym same.1))) (h.pairs o d s ds l eo ed there)

      -- ---- the answer

      stays_whole : is.taken.fresh ≡ [] → after.inbox ≡ before.inbox → after ≡ before
      stays_whole none same =
          is.others ∙ (λ i. record {
            own = before.own;
            name = before.name;
            rooms = before.rooms;
            arrivals = (is.taken.queued ∙ ap (λ fresh. queues_from 0 w.known fresh before.arrivals) none ∙ nothing_arrives 0 w.known before.arrivals) i;
            journal = before.journal;
            ways = before.ways;
            inbox = same i;
          })

      given_before : (earlier : Answer) → WasGiven w server dest n earlier → (body : List ℕ) × (earlier ≡ accepted body) × (kept_for between.log w.epoch n ≡ Some body)
      given_before earlier was = by (between.held.lands.answers was.packet n earlier was.packet_is)
        where
          by : IsAnswerOf (kept_for between.log w.epoch n) earlier → (body : List ℕ) × (earlier ≡ accepted body) × (kept_for between.log w.epoch n ≡ Some body)
          by (inl no_memory) = absurd (not_success earlier was.ok no_memory)
          by (inr it) = it

      all_taken : (none : finite.get between.log.replies (txn_id w.epoch asks.t.number) ≡ None) → HasTaken (txn_id w.epoch asks.t.number) os.name taking between.log before.inbox after.inbox
          → IsAllTaken os.name asks.t before after
      all_taken none takes = record {
        events = ap pdus_by takes.now ∙ ap (λ l. l ++ texts asks.t.pdus) (sym (ap pdus_by between.log_is)) ∙ ap (λ l. taken_of before.inbox os.name ++ l) (same_texts asks.t.pdus);
        edus =
            ap edus_by takes.now ∙ ap (λ l. l ++ map canonical_text (filter is_edu asks.t.edus)) (sym (ap edus_by between.log_is))
            ∙ ap (λ l. taken_edus_of before.inbox os.name ++ map canonical_text l) asks.takable.edus;
      }

      pub answered_so : IsAnswered w server dest n bytes before reply after
      answered_so = by comes
        where
          by : Comes (txn_id w.epoch asks.t.number) os.name taking between.log before.inbox reply after.inbox is.taken.fresh → IsAnswered w server dest n bytes before reply after
          by (nothing said same none) = subst (λ a. IsAnswered w server dest n bytes before a after) (sym said) (subst (IsAnswered w server dest n bytes before (refused OutOfMemory)) (sym (stays_whole none same)) answers.no_memory)
          by (again kept has said same none) =
              let there = between.held.lands.replied n kept (kept_is kept has) in
              let given : WasGiven w server dest n reply = record { packet = there.0; packet_is = there.1 ∙ ap (λ a. Some (answer server dest n a)) (sym said); ok = ap (λ (a : Answer). a.status) said } in
              subst (IsAnswered w server dest n bytes before reply) (sym (stays_whole none same))
              (answers.again reply given (λ earlier was.
              let it = given_before earlier was in
              it.1 ∙ ap accepted (same_some it.0 kept (sym it.2 ∙ kept_is kept has)) ∙ sym said))
          by (first none said takes fresh) =
              answers.first reply after os way asks.t
              (λ earlier was. let it = given_before earlier was in not_none it.0 (sym (not_kept none (Some it.0) it.2)))
              (ap (λ (a : Answer). a.status) said) (record { server_is = of; way_is = way_is }) (unanswered none asks.alive) asks.number_is asks.bytes_are (all_taken none takes)

pub taken_lasts : (k : ℕ) (w : WorldState) (told : Outcome) (new : WorldState) → IsTaken k w told new → IsSound w → IsSound new
taken_lasts k w _ _ (no_request none) h = h
taken_lasts k w _ _ (no_text server dest n bytes packet none) h = h
taken_lasts k w _ _ (no_receiver server dest n bytes packet none) h = h
taken_lasts k w _ _ (taken server dest n bytes r before after reply packet reads at is) h = taken_so w h k server dest n bytes packet before at r after reply reads is

same_packet : (a b m : ℕ) (text : List ℕ) (c d n : ℕ) (other : List ℕ) → Some (request a b m text) ≡ Some (request c d n other) → (a ≡ c) × (b ≡ d) × (m ≡ n) × (text ≡ other)
same_packet a b m text c d n other e = (cc, cc, cc, cc)

-- the request of a packet is answered in one of those ways
pub taken_once : (w : WorldState) → IsSound w → (k server dest n : ℕ) (bytes : List ℕ) → packet_at w.packets k ≡ Some (request server dest n bytes) → (told : Outcome) (new : WorldState) → IsTaken k w told new
    → IsAnsweredOnce w server dest n bytes new
taken_once w h k server dest n bytes packet _ _ (no_request none) = absurd (none server dest n bytes packet)
taken_once w h k server dest n bytes packet _ _ (no_text a b m text other none) =
    let same = same_packet server dest n bytes a b m text (sym packet ∙ other) in
    absurd (with_receiver (listed w.servers dest (is_way w h k server dest n bytes packet).to) (subst HasNoRequest (sym same.3) none))
  where
    with_receiver : (before : ServerState) × (slice_get w.servers dest ≡ Some before) → HasNoRequest bytes → ⊥
    with_receiver (before, at) = is_read w h k server dest n bytes packet before at
taken_once w h k server dest n bytes packet _ _ (no_receiver a b m text other none) =
    let same = same_packet server dest n bytes a b m text (sym packet ∙ other) in
    let there = listed w.servers dest (is_way w h k server dest n bytes packet).to in
    absurd (not_none there.0 (sym (ap (slice_get w.servers) same.1 ∙ none) ∙ there.1))
taken_once w h k server dest n bytes packet _ _ (taken a b m text r before after reply other reads at is) =
    by a b m text (same_packet server dest n bytes a b m text (sym packet ∙ other)) reads at
  where
    by : (a b m : ℕ) (text : List ℕ) → (server ≡ a) × (dest ≡ b) × (n ≡ m) × (bytes ≡ text) → IsRequestIn text r → slice_get w.servers b ≡ Some before
        → IsAnsweredOnce w server dest n bytes (with_packet (with_server w b after) (answer a b m reply))
    by a b m text same reads_it at_it =
        let there = ap (slice_get w.servers) same.1 ∙ at_it in
        let read = subst (λ t. IsRequestIn t r) (sym same.3) reads_it in
        record {
          before = before;
          after = after;
          reply = reply;
          before_is = there;
          answered = answered_so w h k server dest n bytes packet before there r after reply read is;
          new_is = λ i. with_packet (with_server w (sym same.1 i) after) (answer (sym same.0 i) (sym same.1 i) (sym same.2 i) reply);
        }
