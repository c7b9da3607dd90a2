-- Packets as they are sent and found.
use Rattle.std.proofs.Common.{arith, ◌≡◌, ℕ, zero, suc, ◌-◌, ◌<◌, ◌&&◌, Bool, true, false, true≢false, nat_lt, nat_le, List, [], ◌∷◌, ◌++◌, length, map, set, get_or, Option, Some, None, IfSome, IfNone, Result, Ok, Err, refl, sym, ap, ◌∙◌, subst, if◌then◌else◌}
use Rattle.std.specs.List.{slice_get}
use Rattle.std.specs.Option.{option_map, option_and_then}
use Rattle.std.specs.Result.{is_ok}
use Rattle.std.proofs.lemmas.Bool.{leb-true, leb-false, lt-ltb}
use Rattle.std.proofs.lemmas.List.{length-map, map-append}
use Rattle.std.proofs.lemmas.Option.{slice_get-map, slice_get-get_or, slice_get_past, slice_get_within, same_Some, none-some}
use Rattle.fed_http.specs.Message.{RequestValue}
use Rattle.fed_inbox.specs.Reply.{Answer}
use Rattle.fed_exchange.specs.Messages.{IsRequestIn, HasNoRequest}
use Rattle.fed_sim.specs.declared.outcome.Outcome.{Outcome}
use Rattle.fed_sim.specs.declared.packet.Packet.{Packet}
use Rattle.fed_sim.specs.declared.server.Server.{Server}
use Rattle.fed_sim.specs.Packets.{packet_at, NoRequestAt, NoAnswerAt, with_packet, way_from}
use Rattle.fed_outbox.specs.Collecting.{Way}
use Rattle.fed_sim.specs.Server.{ServerState}
use Rattle.fed_sim.specs.ServerParts.{server_of}
use Rattle.fed_sim.specs.Ways.{way_to}
use Rattle.fed_sim.specs.World.{PacketState, request, answer, WorldState, with_server}
use Rattle.fed_sim.specs.WorldParts.{packet_of}
use Rattle.fed_sim.proofs.Places.{second}
use Rattle.fed_sim.proofs.Worlds.{seen_of, world_at}

abbrev pub sent_of : Packet → PacketState
sent_of p = packet_of p

-- whether there is a packet of a number
abbrev pub has_packet : List Packet → ℕ → Bool
has_packet packets k = nat_lt 0 k && nat_le k (length packets)

pub packet_is : (packets : List Packet) (k : ℕ) (p : Packet) → has_packet packets k ≡ true → p ≡ get_or packets (k - 1) p → packet_at (map sent_of packets) k ≡ Some (packet_of p)
packet_is packets zero p has value = absurd (true≢false (sym has))
packet_is packets (suc k) p has value =
    let below = leb-true _ _ (second (nat_lt 0 (suc k)) (nat_le (suc k) (length packets)) has) in
    let within : k < length packets = omega (arith, below) in
    let at : suc k - 1 ≡ k = omega arith in
    slice_get-map sent_of packets k ∙ ap (option_map sent_of) (slice_get-get_or packets k p within ∙ ap Some (sym (value ∙ ap (λ i. get_or packets i p) at)))

pub no_packet : (packets : List Packet) (k : ℕ) → has_packet packets k ≡ false → packet_at (map sent_of packets) k ≡ None
no_packet packets zero none = refl
no_packet packets (suc k) none =
    let first : nat_lt 0 (suc k) ≡ true = lt-ltb 0 (suc k) (omega arith) in
    let past = leb-false (suc k) (length packets) (ap (λ b. b && nat_le (suc k) (length packets)) (sym first) ∙ none) in
    let all = length-map packets sent_of in
    slice_get_past (map sent_of packets) k (omega (arith, past, all))

pub no_request_in : (packets : List PacketState) (k : ℕ) → packet_at packets k ≡ None → NoRequestAt packets k
no_request_in packets k none = λ server dest n bytes is. none-some _ (sym none ∙ is)

pub answer_no_request : (packets : List PacketState) (k server dest n : ℕ) (reply : Answer) → packet_at packets k ≡ Some (answer server dest n reply) → NoRequestAt packets k
answer_no_request packets k server dest n reply here = λ s d m bytes is. let same = same_Some _ _ (sym here ∙ is) in absurd (cc)

pub request_no_answer : (packets : List PacketState) (k server dest n : ℕ) (bytes : List ℕ) → packet_at packets k ≡ Some (request server dest n bytes) → NoAnswerAt packets k
request_no_answer packets k server dest n bytes here = λ s d m reply is. let same = same_Some _ _ (sym here ∙ is) in absurd (cc)

-- other packets
abbrev pub packets_at : WorldState → List Packet → WorldState
packets_at w packets = record { names = w.names; known = w.known; epoch = w.epoch; servers = w.servers; packets = map sent_of packets; now = w.now }

pub one_more : (w : WorldState) (old new : List Packet) (p : Packet) (q : PacketState) → new ≡ old ++ p ∷ [] → packet_of p ≡ q → with_packet (packets_at w old) q ≡ packets_at w new
one_more w old new p q more is =
    let all : map sent_of new ≡ map sent_of old ++ q ∷ [] = ap (map sent_of) more ∙ map-append sent_of old (p ∷ []) ∙ ap (λ x. map sent_of old ++ x ∷ []) is in
    λ i. record { names = w.names; known = w.known; epoch = w.epoch; servers = w.servers; packets = sym all i; now = w.now }

-- a server is listed from which there is a way
pub sender_listed : (w : WorldState) (server dest : ℕ) (way : Way) → way_from w server dest ≡ Some way → server < length w.servers
sender_listed w server dest way is = by (slice_get w.servers server) refl is
  where
    by : (s : Option ServerState) → slice_get w.servers server ≡ s → option_and_then (λ s. way_to s dest) s ≡ Some way → server < length w.servers
    by None none e = absurd (none-some way e)
    by (Some s) there e = slice_get_within w.servers server s there

-- another outcome and another world that are the same
pub same_told : (P : Outcome → WorldState → Type 0) (a b : Outcome) (v w : WorldState) → a ≡ b → v ≡ w → P a v → P b w
same_told P a b v w told world p = subst (P b) world (subst (λ o. P o v) told p)

-- what was read of bytes
pub none_read : (bytes : List ℕ) (found : Option RequestValue) → found ≡ None → IfNone found (HasNoRequest bytes) → HasNoRequest bytes
none_read bytes None is told = told
none_read bytes (Some r) is told = absurd (cc)

pub one_read : (bytes : List ℕ) (found : Option RequestValue) (r : RequestValue) → found ≡ Some r → IfSome found (IsRequestIn bytes) → IsRequestIn bytes r
one_read bytes None r is told = absurd (cc)
one_read bytes (Some q) r is told = subst (IsRequestIn bytes) (same_Some q r is) told

-- a server was given a request, and its answer was sent
pub answered_then : (w : WorldState) (servers now : List Server) (place : ℕ) (after : Server) → set (map seen_of servers) place (server_of after) ≡ map seen_of now → (old new : List Packet) (p : Packet) (q : PacketState)
    → new ≡ old ++ p ∷ [] → packet_of p ≡ q → with_packet (with_server (packets_at (world_at w servers) old) place (server_of after)) q ≡ packets_at (world_at w now) new
answered_then w servers now place after states old new p q more is =
    let all : map sent_of new ≡ map sent_of old ++ q ∷ [] = ap (map sent_of) more ∙ map-append sent_of old (p ∷ []) ∙ ap (λ x. map sent_of old ++ x ∷ []) is in
    λ i. record { names = w.names; known = w.known; epoch = w.epoch; servers = states i; packets = sym all i; now = w.now }

-- a packet may have been pushed
pub pushed : (P : List Packet → Type 0) (b : Bool) (old more new : List Packet) → new ≡ (if b then more else old) → (new ≡ more → P new) → P old → P new
pushed P true old more new is grown same = grown is
pushed P false old more new is grown same = subst P (sym is) same

-- it was pushed
pub if_ok : {T E A : Type 0} (r : Result T E) (x : T) (xs a b : A) → r ≡ Ok x → xs ≡ (if is_ok r then a else b) → xs ≡ a
if_ok (Ok y) x xs a b is made = made
if_ok (Err e) x xs a b is made = absurd (cc)
