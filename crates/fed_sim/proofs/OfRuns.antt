-- Worlds that come of runs: by each step they come of one still.
use Rattle.std.proofs.Common.{◌≡◌, ℕ, List, Result, Ok, Err, IfOk, OnErr, sym, ap, subst}
use Rattle.std.proofs.Math.Logic.{∥∥₁_map}
use Rattle.fed_sim.specs.declared.outcome.Outcome.{Outcome}
use Rattle.fed_sim.specs.declared.setup.Setup.{Setup}
use Rattle.fed_sim.specs.declared.step.Step.{Step}
use Rattle.fed_sim.specs.Applying.{IsAppliedInPart, IsGivenTo, unknown_room, known_room, IsGivenInPart}
use Rattle.fed_sim.specs.Running.{Begins, ComesOfRun, IsRun, begins_run, by_step, within_round}
use Rattle.fed_sim.specs.Steps.{Moves, given, Reached, no_step, one_more, before_it, in_it, ReachedInPart, Does, made, Ran, begun, next}
use Rattle.fed_sim.specs.World.{WorldState, with_server, AtServer, nowhere, somewhere, AtServerInPart}
use Rattle.fed_sim.specs.Server.{ServerState}
use Rattle.fed_sim.proofs.Between.{set_same}

abbrev pub with_servers : WorldState → List ServerState → WorldState
with_servers w states = record { names = w.names; known = w.known; epoch = w.epoch; servers = states; packets = w.packets; now = w.now }

abbrev pub Comes : WorldState → Type 0
Comes w = ∥ ComesOfRun w ∥₁

pub comes_by : (step : Step) (old : WorldState) (told : Outcome) (new : WorldState) → Does step old told new → Comes old → Comes new
comes_by step old told new does comes = ∥∥₁_map comes (λ c. by_step step old told new c (made does))

pub comes_same : (old new : WorldState) → new ≡ old → Comes old → Comes new
comes_same old new same = subst Comes (sym same)

comes_within : (old new : WorldState) → ReachedInPart old new → Comes old → Comes new
comes_within old new reached comes = ∥∥₁_map comes (λ c. within_round old new c reached)

pub comes_reached : (old new : WorldState) → Reached old new → Comes old → Comes new
comes_reached old new reached comes = comes_within old new (before_it reached) comes

pub comes_moved : (old : WorldState) (told : Outcome) (new : WorldState) → Moves old told new → Comes old → Comes new
comes_moved old told new moves = comes_reached old new (one_more old new told no_step moves)

pub comes_in_part : (old new : WorldState) (server place : ℕ) → AtServerInPart server (IsAppliedInPart place) old new → Comes old → Comes new
comes_in_part old new server place is comes = comes_within old new (in_it old server place no_step is) comes

-- a room is given an event
pub comes_given : (server : ℕ) (known : List (List ℕ)) (id : List ℕ) (old : WorldState) (told : Outcome) (new : WorldState) → AtServer server (IsGivenTo known id) old told new → Comes old → Comes new
comes_given server known id old _ _ (nowhere none) comes = comes
comes_given server known id old _ _ (somewhere told before after at is) comes = by told after is
  where
    by : (told : Outcome) (after : ServerState) → IsGivenTo known id before told after → Comes (with_server old server after)
    by _ _ (unknown_room none) = comes_same old (with_server old server before) (ap (with_servers old) (set_same old.servers server before at)) comes
    by _ _ (known_room told after place is arrives) = comes_moved old told (with_server old server after) (given server place (somewhere told before after at arrives)) comes

pub comes_given_in_part : (server : ℕ) (known : List (List ℕ)) (id : List ℕ) (old new : WorldState) → AtServerInPart server (IsGivenInPart known id) old new → Comes old → Comes new
comes_given_in_part server known id old new is =
    comes_in_part old new server is.does.place (record { before = is.before; after = is.after; server_is = is.server_is; does = is.does.in_part; new_is = is.new_is })

-- by what is done, or as it was
pub comes_either : {E : Type 0} (r : Result Outcome E) (old new : WorldState) (Did : Outcome → Type 0) → ((told : Outcome) → Did told → Comes old → Comes new) → IfOk r Did → OnErr r (new ≡ old) → Comes old → Comes new
comes_either (Ok told) old new Did by did same = by told did
comes_either (Err e) old new Did by did same = comes_same old new same

-- the world after the steps of a run comes of one
comes_of_ran : (setup : Setup) (begin : WorldState) → Begins setup begin → (steps : List Step) (replies : List Outcome) (w : WorldState) → Ran begin steps replies w → ComesOfRun w
comes_of_ran setup begin begins _ _ _ begun = begins_run setup begin begins
comes_of_ran setup begin begins _ _ _ (next steps replies old new step told before makes) = by_step step old told new (comes_of_ran setup begin begins steps replies old before) makes

pub comes_of_run : (setup : Setup) (steps : List Step) (replies : List Outcome) (w : WorldState) → IsRun setup steps replies w → ComesOfRun w
comes_of_run setup steps replies w is = comes_of_ran setup is.begin is.begins steps replies w is.ran
