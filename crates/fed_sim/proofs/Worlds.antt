-- Worlds as they change.
use Rattle.std.proofs.Common.{arith, ◌≡◌, ℕ, ◌<◌, ◌↔◌, List, map, set, get_or, Option, Some, None, IsSome, Result, Ok, Err, IfOk, OnErr, Vec, vec_len, Global, sym, ap, ◌∙◌, subst}
use Rattle.std.specs.List.{slice_get}
use Rattle.std.specs.Option.{option_map}
use Rattle.std.proofs.lemmas.List.{length-map, map-set}
use Rattle.std.proofs.lemmas.Option.{slice_get-map, slice_get_past, slice_get-get_or}
use Rattle.fed_sim.specs.declared.outcome.Outcome.{Outcome}
use Rattle.fed_sim.specs.declared.outcome.Outcome.TheVariants.{NoSuchServer}
use Rattle.fed_sim.specs.declared.server.Server.{Server}
use Rattle.fed_sim.specs.Server.{ServerState}
use Rattle.fed_sim.specs.ServerParts.{server_of}
use Rattle.fed_sim.specs.World.{WorldState, AtServer, AtServerInPart, nowhere, somewhere}
use Rattle.fed_sim.proofs.OfRuns.{with_servers, Comes, comes_same}
use Rattle.fed_sim.proofs.Servers.{there_past, there_below}
use Rattle.fed_sim.proofs.WayQueues.{same_seen}

abbrev pub seen_of : Server → ServerState
seen_of s = server_of s

-- other servers
abbrev pub world_at : WorldState → List Server → WorldState
world_at w servers = with_servers w (map seen_of servers)

-- a server was asked for by its place
module _ {R : Type 0} (w : WorldState) (servers : Vec Server Global) (place k : ℕ) (at : k ≡ place) (found : Option R) (there : IsSome found ↔ (k < vec_len servers)) where
  -- there is none
  pub not_there : found ≡ None → slice_get (map seen_of servers.items) place ≡ None
  not_there none = let all = length-map servers.items seen_of in let beyond = there_past servers k found there none in slice_get_past (map seen_of servers.items) place (omega (arith, all, beyond, at))

  pub at_none : {Does : ServerState → Outcome → ServerState → Type 0} → found ≡ None → AtServer place Does (world_at w servers.items) NoSuchServer (world_at w servers.items)
  at_none none = nowhere (not_there none)

  module _ (before after : Server) (some : R) (is : found ≡ Some some) (value : before ≡ get_or servers.items k before) where
    -- the server that stands there
    pub server_is : slice_get (map seen_of servers.items) place ≡ Some (server_of before)
    server_is =
        let within = there_below servers k found there some is in
        ap (slice_get (map seen_of servers.items)) (sym at) ∙ slice_get-map seen_of servers.items k ∙ ap (option_map seen_of) (slice_get-get_or servers.items k before within ∙ ap Some (sym value))

    pub afterwards : set (map seen_of servers.items) place (server_of after) ≡ map seen_of (set servers.items k after)
    afterwards = ap (λ p. set (map seen_of servers.items) p (server_of after)) (sym at) ∙ sym (map-set seen_of servers.items k after)

    -- it was done there
    pub at_place : {Does : ServerState → Outcome → ServerState → Type 0} → (told : Outcome) → Does (server_of before) told (server_of after)
        → AtServer place Does (world_at w servers.items) told (world_at w (set servers.items k after))
    at_place {Does} told does =
        subst (λ states. AtServer place Does (world_at w servers.items) told (with_servers w states)) afterwards (somewhere told (server_of before) (server_of after) server_is does)

    pub in_part : {Does : ServerState → ServerState → Type 0} → Does (server_of before) (server_of after) → AtServerInPart place Does (world_at w servers.items) (world_at w (set servers.items k after))
    in_part {Does} does = record { before = server_of before; after = server_of after; server_is = server_is; does = does; new_is = ap (with_servers w) (sym afterwards) }

    -- the server is the same to others
    pub same_servers : server_of after ≡ server_of before → world_at w (set servers.items k after) ≡ world_at w servers.items
    same_servers same = ap (with_servers w) (same_seen seen_of servers.items k after before (same ∙ ap seen_of value))

    -- the world comes of a run still
    pub comes_at : {E : Type 0} (Does : ServerState → Outcome → ServerState → Type 0) (r : Result Outcome E)
        → ((told : Outcome) (new : WorldState) → AtServer place Does (world_at w servers.items) told new → Comes (world_at w servers.items) → Comes new)
        → IfOk r (λ told. Does (server_of before) told (server_of after)) → OnErr r (server_of after ≡ server_of before) → Comes (world_at w servers.items) → Comes (world_at w (set servers.items k after))
    comes_at Does (Ok told) step does same = step told (world_at w (set servers.items k after)) (at_place told does)
    comes_at Does (Err e) step does same = comes_same (world_at w servers.items) (world_at w (set servers.items k after)) (same_servers same)

    -- the same where an error leaves it in part
    pub comes_in_part_at : {E : Type 0} (Does : ServerState → Outcome → ServerState → Type 0) (Part : ServerState → ServerState → Type 0) (r : Result Outcome E)
        → ((told : Outcome) (new : WorldState) → AtServer place Does (world_at w servers.items) told new → Comes (world_at w servers.items) → Comes new)
        → ((new : WorldState) → AtServerInPart place Part (world_at w servers.items) new → Comes (world_at w servers.items) → Comes new)
        → IfOk r (λ told. Does (server_of before) told (server_of after)) → OnErr r (Part (server_of before) (server_of after)) → Comes (world_at w servers.items) → Comes (world_at w (set servers.items k after))
    comes_in_part_at Does Part (Ok told) step part does stopped = step told (world_at w (set servers.items k after)) (at_place told does)
    comes_in_part_at Does Part (Err e) step part does stopped = part (world_at w (set servers.items k after)) (in_part stopped)
