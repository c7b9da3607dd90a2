-- What a step between two servers, or at one, leaves of the way between two others.
use Rattle.std.proofs.Common.{◌≡◌, ◌≢◌, ◌⊎◌, inl, inr, ℕ, zero, suc, ◌+◌, ◌==◌, ◌&&◌, not, nat_lt, Bool, true, false, if◌then◌else◌, List, [], ◌∷◌, ◌++◌, length, Option, Some, None, refl, sym, ap, subst, ◌∙◌}
use Rattle.std.specs.Prelude.{slice_get, set, option_and_then, option_map}
use Rattle.std.specs.Option.{option_map_or}
use Rattle.std.proofs.lemmas.Bool.{cases_eq}
use Rattle.std.proofs.lemmas.List.{length-set, append-nil, append_assoc}
use Rattle.fed_journal.specs.declared.entry.Entry.{Entry}
use Rattle.fed_outbox.specs.Collecting.{Way}
use Rattle.fed_inbox.specs.Reply.{Answer}
use Rattle.fed_exchange.specs.Messages.{IsStatusOf}
use Rattle.fed_sim.specs.declared.outcome.Outcome.{Outcome}
use Rattle.fed_sim.specs.declared.outcome.Outcome.TheVariants as outcome
use Rattle.fed_sim.specs.Applying.{IsAppliedAt, no_room, nothing, arrived}
use Rattle.fed_sim.specs.Packets as packets
use Rattle.fed_sim.specs.Packets.{packet_at, with_packet, IsPosted, IsTaken, IsSettled, request_for}
use Rattle.fed_sim.specs.Server.{ServerState}
use Rattle.fed_sim.specs.Steps.{Moves, collected, cut, posted, taken, settled, given, risen, Reached, no_step, one_more}
use Rattle.fed_sim.specs.Ways.{way_to, with_way, IsOnWay, settling}
use Rattle.fed_sim.specs.World.{PacketState, request, answer, WorldState, with_server, at_moment, max_moment, ticked, AtServer, nowhere, somewhere}
use Rattle.fed_sim.proofs.Between.{way_there, there_way}
use Rattle.fed_sim.proofs.Landing.{same_some, not_none, at_the_end}

-- ---- places of a list

pub get_set : {A : Type 0} (xs : List A) (p : ℕ) (x y : A) → slice_get xs p ≡ Some x → slice_get (set xs p y) p ≡ Some y
get_set [] p x y at = absurd (not_none x at)
get_set (z ∷ xs) zero x y at = refl
get_set (z ∷ xs) (suc p) x y at = get_set xs p x y at

pub get_set_other : {A : Type 0} (xs : List A) (p k : ℕ) (y : A) → k ≢ p → slice_get (set xs p y) k ≡ slice_get xs k
get_set_other [] p k y other = refl
get_set_other (z ∷ xs) zero zero y other = absurd (other refl)
get_set_other (z ∷ xs) zero (suc k) y other = refl
get_set_other (z ∷ xs) (suc p) zero y other = refl
get_set_other (z ∷ xs) (suc p) (suc k) y other = get_set_other xs p k y (λ same. other (ap suc same))

-- ---- what is seen of the way from o to d

-- the name of the server, its journal, and the way
abbrev pub Seen : Type 0
Seen = List ℕ × List Entry × Way

abbrev pub seen_in : ServerState → ℕ → Option Seen
seen_in s d = option_map {U = Seen} (λ (way : Way). (s.name, s.journal, way)) (way_to s d)

abbrev pub seen : ℕ → ℕ → WorldState → Option Seen
seen o d w = option_and_then (λ s. seen_in s d) (slice_get w.servers o)

-- ---- at another place, or on another way

module _ (o d : ℕ) where
  -- the server is another one
  seen_with : (w : WorldState) (a : ℕ) (before after : ServerState) → slice_get w.servers a ≡ Some before → (a ≡ o → seen_in after d ≡ seen_in before d) → seen o d (with_server w a after) ≡ seen o d w
  seen_with w a before after at same = by (cases_eq o a)
    where
      by : (o ≡ a) ⊎ (o ≢ a) → seen o d (with_server w a after) ≡ seen o d w
      by (inl here) =
          ap (option_and_then (λ s. seen_in s d)) (ap (slice_get (set w.servers a after)) here ∙ get_set w.servers a before after at)
          ∙ same (sym here) ∙ ap (option_and_then (λ s. seen_in s d)) (sym at ∙ ap (slice_get w.servers) (sym here))
      by (inr elsewhere) = ap (option_and_then (λ s. seen_in s d)) (get_set_other w.servers a o after elsewhere)

  pub seen_at : (a : ℕ) (DoesIt : ServerState → Outcome → ServerState → Type 0) (w : WorldState) (told : Outcome) (new : WorldState)
      → ((before : ServerState) (out : Outcome) (after : ServerState) → a ≡ o → DoesIt before out after → seen_in after d ≡ seen_in before d) → AtServer a DoesIt w told new → seen o d new ≡ seen o d w
  seen_at a DoesIt w _ _ each (nowhere none) = refl
  seen_at a DoesIt w _ _ each (somewhere told before after at does) = seen_with w a before after at (λ here. each before told after here does)

  -- another way of the server
  other_way : (b : ℕ) (way : Way) (s : ServerState) → d ≢ b → seen_in (with_way s b way) d ≡ seen_in s d
  other_way b way s other =
      ap (option_map {U = Seen} (λ (l : Way). (s.name, s.journal, l)))
      (ap (λ n. if not (d == s.own) && nat_lt d n then slice_get (set s.ways b way) d else None) (length-set s.ways b way)
      ∙ ap (λ (found : Option Way). if not (d == s.own) && nat_lt d (length s.ways) then found else None) (get_set_other s.ways b d way other))

  on_other_way : (b : ℕ) (step : Way → Outcome × Way) (before : ServerState) (told : Outcome) (after : ServerState) → d ≢ b → IsOnWay b step before told after → seen_in after d ≡ seen_in before d
  on_other_way b step before told after other is = by (way_to before b) is
    where
      by : (found : Option Way) → ◌≡◌ {A = Outcome × ServerState} (told, after) (option_map_or (λ way. ((step way).0, with_way before b (step way).1)) found (outcome.NoSuchServer, before)) → seen_in after d ≡ seen_in before d
      by None e = ap (λ pair. seen_in pair.1 d) e
      by (Some way) e = ap (λ pair. seen_in pair.1 d) e ∙ other_way b (step way).1 before other

  -- something is done on a way other than that from o to d
  pub seen_elsewhere : (a b : ℕ) (step : Way → Outcome × Way) (w : WorldState) (told : Outcome) (new : WorldState) → (a ≡ o → d ≢ b) → AtServer a (IsOnWay b step) w told new → seen o d new ≡ seen o d w
  seen_elsewhere a b step w told new other does = seen_at a (IsOnWay b step) w told new (λ before out after here is. on_other_way b step before out after (other here) is) does

  pub seen_given : (a place : ℕ) (w : WorldState) (told : Outcome) (new : WorldState) → AtServer a (IsAppliedAt place) w told new → seen o d new ≡ seen o d w
  seen_given a place w told new does = seen_at a (IsAppliedAt place) w told new (λ before out after here is. same before out after is) does
    where
      same : (before : ServerState) (out : Outcome) (after : ServerState) → IsAppliedAt place before out after → seen_in after d ≡ seen_in before d
      same before _ _ (no_room none) = refl
      same before _ _ (nothing none) = refl
      same before _ _ (arrived room after event later told next applied) = refl

  pub seen_posted : (a b : ℕ) (w : WorldState) (told : Outcome) (new : WorldState) → IsPosted a b w told new → seen o d new ≡ seen o d w
  seen_posted a b w _ _ (packets.no_sender none) = refl
  seen_posted a b w _ _ (packets.no_way s at none) = refl
  seen_posted a b w _ _ (packets.nothing s way on none) = refl
  seen_posted a b w _ _ (packets.not_due s way t on unanswered early) = refl
  seen_posted a b w _ _ (packets.posted s way t name on unanswered due name_is readable) = refl

  pub seen_taken : (k : ℕ) (w : WorldState) (told : Outcome) (new : WorldState) → IsTaken k w told new → seen o d new ≡ seen o d w
  seen_taken k w _ _ (packets.no_request none) = refl
  seen_taken k w _ _ (packets.no_text server dest n bytes packet none) = refl
  seen_taken k w _ _ (packets.no_receiver server dest n bytes packet none) = refl
  seen_taken k w _ _ (packets.taken server dest n bytes r before after reply packet reads at is) = seen_with w dest before after at (λ here. ap (λ s. seen_in s d) is.others)

  -- something is done on the very way
  pub seen_on : (step : Way → Outcome × Way) (w : WorldState) (told : Outcome) (new : WorldState) (name : List ℕ) (journal : List Entry) (way : Way) → seen o d w ≡ Some (name, journal, way) → AtServer o (IsOnWay d step) w told new
      → seen o d new ≡ Some (name, journal, (step way).1)
  seen_on step w _ _ name journal way is (nowhere none) = absurd (not_none (name, journal, way) (ap (option_and_then (λ s. seen_in s d)) (sym none) ∙ is))
  seen_on step w _ _ name journal way is (somewhere told before after at does) =
      ap (option_and_then (λ s. seen_in s d)) (get_set w.servers o before after at)
      ∙ by (way_to before d) refl (ap (option_and_then (λ s. seen_in s d)) (sym at) ∙ is) does
    where
      own_way : (s : ServerState) (old new : Way) → way_to s d ≡ Some old → way_to (with_way s d new) d ≡ Some new
      own_way s old new leads =
          let there = way_there s d old leads in
          there_way (with_way s d new) d new (record { apart = there.apart; within = ap (λ n. nat_lt d n) (length-set s.ways d new) ∙ there.within; is = get_set s.ways d old new there.is })

      by : (found : Option Way) → way_to before d ≡ found → option_map {U = Seen} (λ (l : Way). (before.name, before.journal, l)) found ≡ Some (name, journal, way)
          → ◌≡◌ {A = Outcome × ServerState} (told, after) (option_map_or (λ way. ((step way).0, with_way before d (step way).1)) found (outcome.NoSuchServer, before)) → seen_in after d ≡ Some (name, journal, (step way).1)
      by None leads there e = absurd (not_none (name, journal, way) there)
      by (Some l) leads there e =
          ap (λ pair. seen_in pair.1 d) e ∙ ap (option_map {U = Seen} (λ (x : Way). (before.name, before.journal, x))) (own_way before l (step l).1 leads)
          ∙ ap (λ (t : Seen). Some (t.0, t.1, (step t.2).1)) (same_some (before.name, before.journal, l) (name, journal, way) there)

-- ---- a request that is posted and taken, and its answer

-- what was posted by the server a for b is a request of it
pub record IsPostedBy (a b k : ℕ) (w new : WorldState) : Type 0 where
  pub n : ℕ
  pub bytes : List ℕ
  pub request_is : packet_at new.packets k ≡ Some (request a b n bytes)

pub posted_by : (a b k : ℕ) (w : WorldState) (told : Outcome) (new : WorldState) → IsPosted a b w told new → told ≡ outcome.Posted k → IsPostedBy a b k w new
posted_by a b k w _ _ (packets.no_sender none) is = absurd (cc)
posted_by a b k w _ _ (packets.no_way s at none) is = absurd (cc)
posted_by a b k w _ _ (packets.nothing s way on none) is = absurd (cc)
posted_by a b k w _ _ (packets.not_due s way t on unanswered early) is = absurd (cc)
posted_by a b k w _ _ (packets.posted s way t name on unanswered due name_is readable) is =
    let one = request_for w a s b name t in
    record { n = t.number; bytes = _; request_is = subst (λ j. packet_at (w.packets ++ one ∷ []) j ≡ Some one) (number (length w.packets + 1) k is) (at_the_end w.packets one) }
  where
    number : (x y : ℕ) → outcome.Posted x ≡ outcome.Posted y → x ≡ y
    number x y e = cc

-- its answer goes the way back
pub record IsAnsweredBy (a b n k status : ℕ) (w new : WorldState) : Type 0 where
  pub reply : Answer
  pub last : packet_at new.packets k ≡ Some (answer a b n reply)
  pub newest : k ≡ length w.packets + 1
  pub status_is : reply.status ≡ status
  pub more : new.packets ≡ w.packets ++ answer a b n reply ∷ []

same_request : (a b m : ℕ) (s : List ℕ) (c d n : ℕ) (t : List ℕ) → Some (request a b m s) ≡ Some (request c d n t) → (a ≡ c) × (b ≡ d) × (m ≡ n)
same_request a b m s c d n t e = (cc, cc, cc)

pub answered_by : (a b n : ℕ) (bytes : List ℕ) (k j status : ℕ) (w : WorldState) (told : Outcome) (new : WorldState) → packet_at w.packets k ≡ Some (request a b n bytes) → IsTaken k w told new → told ≡ outcome.Answered j status
    → IsAnsweredBy a b n j status w new
answered_by a b n bytes k j status w _ _ there (packets.no_request none) is = absurd (cc)
answered_by a b n bytes k j status w _ _ there (packets.no_text x y m text at none) is = absurd (cc)
answered_by a b n bytes k j status w _ _ there (packets.no_receiver x y m text at none) is = absurd (cc)
answered_by a b n bytes k j status w _ _ there (packets.taken x y m text r before after reply packet reads at received) is =
    let same = same_request x y m text a b n bytes (sym packet ∙ there) in
    let told = number (length w.packets + 1) reply.status j status is in
    let one : answer x y m reply ≡ answer a b n reply = λ i. answer (same.0 i) (same.1 i) (same.2 i) reply in
    record {
      reply = reply;
      last = ap (packet_at (w.packets ++ answer x y m reply ∷ [])) (sym told.0) ∙ at_the_end w.packets (answer x y m reply) ∙ ap Some one;
      newest = sym told.0;
      status_is = told.1;
      more = ap (λ p. w.packets ++ p ∷ []) one;
    }
  where
    number : (x y u v : ℕ) → outcome.Answered x y ≡ outcome.Answered u v → (x ≡ u) × (y ≡ v)
    number x y u v e = (cc, cc)

-- what is settled by an answer
pub record IsSettledBy (a b n : ℕ) (reply : Answer) (w : WorldState) (told : Outcome) (new : WorldState) : Type 0 where
  pub status : Option ℕ
  pub read : IsStatusOf reply status
  pub does : AtServer a (IsOnWay b (settling n status w.now)) w told new

same_answer : (a b m : ℕ) (s : Answer) (c d n : ℕ) (t : Answer) → Some (answer a b m s) ≡ Some (answer c d n t) → (a ≡ c) × (b ≡ d) × (m ≡ n) × (s ≡ t)
same_answer a b m s c d n t e = (cc, cc, cc, cc)

pub settled_by : (a b n : ℕ) (reply : Answer) (k : ℕ) (w : WorldState) (told : Outcome) (new : WorldState) → packet_at w.packets k ≡ Some (answer a b n reply) → IsSettled k w told new → IsSettledBy a b n reply w told new
settled_by a b n reply k w told new there (packets.no_answer none says same) = absurd (none a b n reply there)
settled_by a b n reply k w told new there (packets.settled x y m other status packet read does) =
    let same = same_answer x y m other a b n reply (sym packet ∙ there) in
    record {
      status = status;
      read = subst (λ r. IsStatusOf r status) same.3 read;
      does = subst (λ v. AtServer v (IsOnWay b (settling n status w.now)) w told new) same.0
          (subst (λ v. AtServer x (IsOnWay v (settling n status w.now)) w told new) same.1 (subst (λ v. AtServer x (IsOnWay y (settling v status w.now)) w told new) same.2 does));
    }

-- ---- packets stay

pub at_server_packets : (a : ℕ) (DoesIt : ServerState → Outcome → ServerState → Type 0) (w : WorldState) (told : Outcome) (new : WorldState) → AtServer a DoesIt w told new → new.packets ≡ w.packets
at_server_packets a DoesIt w _ _ (nowhere none) = refl
at_server_packets a DoesIt w _ _ (somewhere told before after at does) = refl

-- more are sent behind those that were
abbrev pub IsLonger : WorldState → WorldState → Type 0
IsLonger w new = (more : List PacketState) × (new.packets ≡ w.packets ++ more)

as_many : (w new : WorldState) → new.packets ≡ w.packets → IsLonger w new
as_many w new same = ([], same ∙ sym (append-nil w.packets))

posted_longer : (a b : ℕ) (w : WorldState) (told : Outcome) (new : WorldState) → IsPosted a b w told new → IsLonger w new
posted_longer a b w _ _ (packets.no_sender none) = as_many w w refl
posted_longer a b w _ _ (packets.no_way s at none) = as_many w w refl
posted_longer a b w _ _ (packets.nothing s way on none) = as_many w w refl
posted_longer a b w _ _ (packets.not_due s way t on unanswered early) = as_many w w refl
posted_longer a b w _ _ (packets.posted s way t name on unanswered due name_is readable) = (_, refl)

taken_longer : (k : ℕ) (w : WorldState) (told : Outcome) (new : WorldState) → IsTaken k w told new → IsLonger w new
taken_longer k w _ _ (packets.no_request none) = as_many w w refl
taken_longer k w _ _ (packets.no_text server dest n bytes packet none) = as_many w w refl
taken_longer k w _ _ (packets.no_receiver server dest n bytes packet none) = as_many w w refl
taken_longer k w _ _ (packets.taken server dest n bytes r before after reply packet reads at is) = (_, refl)

settled_longer : (k : ℕ) (w : WorldState) (told : Outcome) (new : WorldState) → IsSettled k w told new → IsLonger w new
settled_longer k w told new (packets.no_answer none says same) = as_many w new (ap (λ (x : WorldState). x.packets) same)
settled_longer k w told new (packets.settled server dest n reply status packet read does) = as_many w new (at_server_packets server _ w told new does)

ticked_longer : (ms : ℕ) (w : WorldState) (told : Outcome) (new : WorldState) → ◌≡◌ {A = Outcome × WorldState} (told, new) (ticked ms w) → IsLonger w new
ticked_longer ms w told new is = by (nat_lt max_moment (w.now + ms)) is
  where
    by : (b : Bool) → ◌≡◌ {A = Outcome × WorldState} (told, new) (if b then (outcome.TooLate, w) else (outcome.Now (w.now + ms), at_moment w (w.now + ms))) → IsLonger w new
    by true e = as_many w new (ap (λ pair. pair.1.packets) e)
    by false e = as_many w new (ap (λ pair. pair.1.packets) e)

moved_longer : (w : WorldState) (told : Outcome) (new : WorldState) → Moves w told new → IsLonger w new
moved_longer w told new (collected server dest does) = as_many w new (at_server_packets server _ w told new does)
moved_longer w told new (cut server dest does) = as_many w new (at_server_packets server _ w told new does)
moved_longer w told new (posted server dest is) = posted_longer server dest w told new is
moved_longer w told new (taken packet is) = taken_longer packet w told new is
moved_longer w told new (settled packet is) = settled_longer packet w told new is
moved_longer w told new (given server place does) = as_many w new (at_server_packets server _ w told new does)
moved_longer w told new (risen ms is) = ticked_longer ms w told new is

pub reached_longer : (w new : WorldState) → Reached w new → IsLonger w new
reached_longer w _ no_step = as_many w w refl
reached_longer w _ (one_more between new told before moves) =
    let first = reached_longer w between before in
    let last = moved_longer between told new moves in
    (first.0 ++ last.0, last.1 ∙ ap (λ ps. ps ++ last.0) first.1 ∙ append_assoc w.packets first.0 last.0)

-- a packet that was sent is there at all later times
pub packet_stays : (w new : WorldState) (k : ℕ) (p : PacketState) → IsLonger w new → packet_at w.packets k ≡ Some p → packet_at new.packets k ≡ Some p
packet_stays w new k p more at = ap (λ ps. packet_at ps k) more.1 ∙ front w.packets more.0 k at
  where
    front : (packets more : List PacketState) (k : ℕ) → packet_at packets k ≡ Some p → packet_at (packets ++ more) k ≡ Some p
    front packets more zero at = absurd (not_none p at)
    front [] more (suc k) at = absurd (not_none p at)
    front (q ∷ packets) more (suc zero) at = at
    front (q ∷ packets) more (suc (suc k)) at = front packets more (suc k) at
