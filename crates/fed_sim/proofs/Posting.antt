-- A request that is posted, and what is settled, leave a world in which what is so of every world is so.
use Rattle.std.proofs.Common.{◌≡◌, ◌≢◌, ℕ, List, [], ◌∷◌, ◌++◌, length, Option, Some, refl, sym, ap, subst, ◌∙◌, ◌⊎◌, inl, inr, arith}
use Rattle.std.specs.Prelude.{slice_get}
use Rattle.std.proofs.lemmas.Bool.{cases_eq, ltb-true}
use Rattle.std.proofs.lemmas.Option.{slice_get_within}
use Rattle.fed_inbox.specs.Reply.{Answer}
use Rattle.fed_outbox.specs.Collecting.{Way}
use Rattle.fed_outbox.specs.Transaction.{TransactionValue}
use Rattle.fed_sim.specs.declared.outcome.Outcome.{Outcome}
use Rattle.fed_exchange.specs.Messages.{IsReadable, IsStatusIn, IsStatusOf}
use Rattle.fed_sim.specs.Packets.{packet_at, with_packet, IsOn, request_for, IsPosted, no_sender, no_way, nothing, not_due, posted, IsSettled, no_answer, settled}
use Rattle.fed_sim.specs.Server.{ServerState}
use Rattle.fed_sim.specs.Ways.{way_to, IsOnWay, settling}
use Rattle.fed_sim.specs.World.{PacketState, request, answer, WorldState, AtServer, nowhere, somewhere}
use Rattle.fed_sim.proofs.Landing.{last_or_before, IsForeign, IsAnswerOf, kept_for, Lands, lands_other, lands_posted}
use Rattle.fed_sim.proofs.WayMoves.{Laws, sent_of, held_settled}
use Rattle.fed_sim.proofs.Between.{same_some, IsServerAt, IsWay, IsBetween, IsSound, WayTo, way_there}
use Rattle.fed_sim.proofs.Lasting.{on_its_way}
use Rattle.fed_sim.proofs.Statuses.{no_memory_is_no_success}

-- ---- one packet more

pub held_foreign : (o d epoch : ℕ) (os ds : ServerState) (way : Way) (packets : List PacketState) (p : PacketState) → IsForeign o d p → IsBetween o d epoch os ds way packets
    → IsBetween o d epoch os ds way (packets ++ p ∷ [])
held_foreign o d epoch os ds way packets p foreign b = record {
  log = b.log;
  log_is = b.log_is;
  held = record { sound = b.held.sound; follows = b.held.follows; lands = lands_other o d epoch os.name ds.name (sent_of way.outbox) b.log packets p foreign b.held.lands };
}

module _ (w : WorldState) (h : IsSound w) (server dest : ℕ) (s : ServerState) (way : Way) (t : TransactionValue) (name : List ℕ) (on : IsOn w server dest s way) (unanswered : way.outbox.unanswered ≡ Some t)
    (name_is : slice_get w.names dest ≡ Some name) (readable : IsReadable s.name w.epoch t) where
  abbrev one : PacketState
  one = request_for w server s dest name t

  sender : IsServerAt w.names (length w.servers) server s
  sender = h.servers server s on.server_is

  leads : WayTo s dest way
  leads = way_there s dest way on.way_is

  is_way : IsWay (length w.servers) server dest
  is_way =
      let below = ltb-true dest (length s.ways) leads.within in
      record { from = slice_get_within w.servers server s on.server_is; to = omega (arith, below, sender.ways); apart = λ e. leads.apart (e ∙ sym sender.own) }

  posted_so : IsSound (with_packet w one)
  posted_so = record {
    distinct = h.distinct;
    moment = h.moment;
    servers = h.servers;
    ways = λ k a b n bytes e. ways k a b n bytes (last_or_before w.packets one k (request a b n bytes) e);
    pairs = λ o d os ds l eo ed there. pair o d os ds l eo ed there (cases_eq o server) (cases_eq d dest);
  }
    where
      same_ends : (a b n : ℕ) (bytes : List ℕ) → one ≡ request a b n bytes → (server ≡ a) × (dest ≡ b)
      same_ends a b n bytes e = (cc, cc)

      ways : (k a b n : ℕ) (bytes : List ℕ) → (packet_at w.packets k ≡ Some (request a b n bytes)) ⊎ (one ≡ request a b n bytes) → IsWay (length w.servers) a b
      ways k a b n bytes (inl before) = h.ways k a b n bytes before
      ways k a b n bytes (inr last) =
          let same = same_ends a b n bytes last in
          subst (λ x. IsWay (length w.servers) x b) same.0 (subst (λ x. IsWay (length w.servers) server x) same.1 is_way)

      not_an_answer : (o d n : ℕ) (reply : Answer) → one ≡ answer o d n reply → ⊥
      not_an_answer o d n reply e = absurd (cc)

      elsewhere : (o d : ℕ) → ((server ≡ o) × (dest ≡ d) → ⊥) → IsForeign o d one
      elsewhere o d other = record { no_request = λ n bytes e. other (same_ends o d n bytes e); no_answer = λ n reply e. not_an_answer o d n reply e }

      here : (ds : ServerState) → slice_get w.servers dest ≡ Some ds → IsBetween server dest w.epoch s ds way w.packets → IsBetween server dest w.epoch s ds way (w.packets ++ one ∷ [])
      here ds to b =
          let names : name ≡ ds.name = same_some name ds.name (sym name_is ∙ (h.servers dest ds to).name_is) in
          let newest = b.held.lands.newest t unanswered in
          record {
            log = b.log;
            log_is = b.log_is;
            held = record {
              sound = b.held.sound;
              follows = b.held.follows;
              lands =
                  subst (λ x. Lands server dest w.epoch s.name ds.name (sent_of way.outbox) b.log (w.packets ++ request_for w server s dest x t ∷ [])) (sym names)
                  (lands_posted server dest w.epoch s.name ds.name (sent_of way.outbox) b.log w.packets t.number _
                  (record { t = t; number_is = refl; bytes_are = refl; readable = readable; takable = newest.1; alive = inr unanswered }) b.held.lands);
            };
          }

      pair : (o d : ℕ) (os ds : ServerState) (l : Way) → slice_get w.servers o ≡ Some os → slice_get w.servers d ≡ Some ds → way_to os d ≡ Some l → (o ≡ server) ⊎ (o ≢ server) → (d ≡ dest) ⊎ (d ≢ dest)
          → IsBetween o d w.epoch os ds l (w.packets ++ one ∷ [])
      pair o d os ds l eo ed there (inl from) (inl to) =
          let same_server : s ≡ os = same_some s os (sym on.server_is ∙ ap (slice_get w.servers) (sym from) ∙ eo) in
          let same_way : way ≡ l = same_some way l (sym on.way_is ∙ (λ i. way_to (same_server i) (sym to i)) ∙ there) in
          let P : ℕ → ℕ → ServerState → Way → Type 0 = λ a b x y. IsBetween a b w.epoch x ds y (w.packets ++ one ∷ []) in
          subst (λ a. P a d os l) (sym from) (subst (λ b. P server b os l) (sym to) (subst (λ x. P server dest x l) same_server (subst (λ y. P server dest s y) same_way
          (here ds (ap (slice_get w.servers) (sym to) ∙ ed) (h.pairs server dest s ds way on.server_is (ap (slice_get w.servers) (sym to) ∙ ed) on.way_is)))))
      pair o d os ds l eo ed there (inr other) to = held_foreign o d w.epoch os ds l w.packets one (elsewhere o d (λ same. other (sym same.0))) (h.pairs o d os ds l eo ed there)
      pair o d os ds l eo ed there (inl from) (inr other) = held_foreign o d w.epoch os ds l w.packets one (elsewhere o d (λ same. other (sym same.1))) (h.pairs o d os ds l eo ed there)

pub posted_lasts : (server dest : ℕ) (w : WorldState) (told : Outcome) (new : WorldState) → IsPosted server dest w told new → IsSound w → IsSound new
posted_lasts server dest w _ _ (no_sender none) h = h
posted_lasts server dest w _ _ (no_way s is none) h = h
posted_lasts server dest w _ _ (nothing s way on none) h = h
posted_lasts server dest w _ _ (not_due s way t on is early) h = h
posted_lasts server dest w _ _ (posted s way t name on unanswered due name_is readable) h = posted_so w h server dest s way t name on unanswered name_is readable

-- ---- settling

pub settled_lasts : (laws : Laws) (k : ℕ) (w : WorldState) (told : Outcome) (new : WorldState) → IsSettled k w told new → IsSound w → IsSound new
settled_lasts laws k w told new (no_answer none says same) h = subst IsSound (sym same) h
settled_lasts laws k w told new (settled server dest n reply status packet read does) h = by told new does
  where
    kept : (o : Option (List ℕ)) → IsAnswerOf o reply → status ≡ Some 200 → (body : List ℕ) × (o ≡ Some body)
    kept o (inl no_memory) ok =
        absurd (no_memory_is_no_success 200 (subst (λ (r : Answer). IsStatusIn r 200) no_memory (subst (IsStatusOf reply) ok read)) refl)
    kept o (inr (body, is, has)) ok = (body, has)

    by : (out : Outcome) (after : WorldState) → AtServer server (IsOnWay dest (settling n status w.now)) w out after → IsSound after
    by _ _ (nowhere none) = h
    by _ _ (somewhere out before after at leads) =
        on_its_way w server before at h dest (settling n status w.now) out after
        (λ way ds to there log log_is held. held_settled laws server dest w.epoch before.name ds.name log w.packets before.journal n w.now status way (kept (kept_for log w.epoch n) (held.lands.answers k n reply packet)) held) leads
