-- After each step of a run, what is so of every world is so.
use Rattle.std.proofs.Common.{◌≡◌, ℕ, List, Some, sym, subst}
use Rattle.std.specs.Prelude.{slice_get, string_bytes}
use Rattle.fed_sim.specs.declared.outcome.Outcome.{Outcome}
use Rattle.fed_sim.specs.declared.step.Step.{Step}
use Rattle.fed_sim.specs.declared.step.Step.TheVariants.{Offer, OfferEdu, Close, Collect, Cut, Failed, Post, Take, Settle, Apply, Tick, Show, Calm}
use Rattle.fed_sim.specs.Applying.{IsGivenInPart}
use Rattle.fed_sim.specs.Running.{ComesOfRun, begins_run, by_step, within_round}
use Rattle.fed_sim.specs.Server.{ServerState}
use Rattle.fed_sim.specs.Steps.{Moves, collected, cut, posted, taken, settled, given, risen, Reached, no_step, one_more, ReachedInPart, before_it, in_it, Does, Leaves, Makes, made, refused, Ran, begun, next}
use Rattle.fed_sim.specs.Ways.{IsOnWay, collecting, cutting, failing}
use Rattle.fed_sim.specs.World.{WorldState, with_server, AtServer, nowhere, somewhere, AtServerInPart}
use Rattle.fed_sim.proofs.WayMoves.{Laws, held_collected, held_cut, held_failed}
use Rattle.fed_sim.proofs.Between.{IsSound}
use Rattle.fed_sim.proofs.Lasting.{offered, edu_offered, closed_for, arrived_so, arrived_in_part, given_to, on_its_way, ticked_so}
use Rattle.fed_sim.proofs.Posting.{posted_lasts, settled_lasts}
use Rattle.fed_sim.proofs.Taken.{taken_lasts}
use Rattle.fed_sim.proofs.CalmSteps.{rounds_reach, rounds_in_part}
use Rattle.fed_sim.proofs.Beginning.{begins_sound}

module _ (laws : Laws) where
  at_server : (place : ℕ) (DoesIt : ServerState → Outcome → ServerState → Type 0) (w : WorldState) (told : Outcome) (new : WorldState)
      → ((out : Outcome) (before after : ServerState) → slice_get w.servers place ≡ Some before → DoesIt before out after → IsSound (with_server w place after))
      → AtServer place DoesIt w told new → IsSound w → IsSound new
  at_server place DoesIt w _ _ each (nowhere none) h = h
  at_server place DoesIt w _ _ each (somewhere told before after at does) h = each told before after at does

  in_part : (place : ℕ) (DoesIt : ServerState → ServerState → Type 0) (w new : WorldState)
      → ((before after : ServerState) → slice_get w.servers place ≡ Some before → DoesIt before after → IsSound (with_server w place after))
      → AtServerInPart place DoesIt w new → IsSound new
  in_part place DoesIt w new each is = subst IsSound (sym is.new_is) (each is.before is.after is.server_is is.does)

  -- ---- the steps on a way

  collects : (server dest : ℕ) (w : WorldState) (told : Outcome) (new : WorldState) → AtServer server (IsOnWay dest collecting) w told new → IsSound w → IsSound new
  collects server dest w told new does h =
      at_server server (IsOnWay dest collecting) w told new
      (λ out before after at leads. on_its_way w server before at h dest collecting out after
      (λ way ds to there log log_is held. held_collected laws server dest w.epoch before.name ds.name log w.packets before.journal way held) leads) does h

  cuts : (server dest : ℕ) (w : WorldState) (told : Outcome) (new : WorldState) → AtServer server (IsOnWay dest (cutting w.now)) w told new → IsSound w → IsSound new
  cuts server dest w told new does h =
      at_server server (IsOnWay dest (cutting w.now)) w told new
      (λ out before after at leads. on_its_way w server before at h dest (cutting w.now) out after
      (λ way ds to there log log_is held. held_cut laws server dest w.epoch before.name ds.name log w.packets before.journal w.now h.moment way held) leads) does h

  fails : (server dest : ℕ) (w : WorldState) (told : Outcome) (new : WorldState) → AtServer server (IsOnWay dest (failing w.now)) w told new → IsSound w → IsSound new
  fails server dest w told new does h =
      at_server server (IsOnWay dest (failing w.now)) w told new
      (λ out before after at leads. on_its_way w server before at h dest (failing w.now) out after
      (λ way ds to there log log_is held. held_failed laws server dest w.epoch before.name ds.name log w.packets before.journal w.now way held) leads) does h

  -- ---- the steps of a round of calm

  pub moved : (w : WorldState) (told : Outcome) (new : WorldState) → Moves w told new → IsSound w → IsSound new
  moved w told new (collected server dest does) h = collects server dest w told new does h
  moved w told new (cut server dest does) h = cuts server dest w told new does h
  moved w told new (posted server dest is) h = posted_lasts server dest w told new is h
  moved w told new (taken packet is) h = taken_lasts packet w told new is h
  moved w told new (settled packet is) h = settled_lasts laws packet w told new is h
  moved w told new (given server place does) h = at_server server _ w told new (λ out before after at is. arrived_so w server before at h place out after is) does h
  moved w told new (risen ms is) h = ticked_so w ms told new is h

  pub reached_sound : (w new : WorldState) → Reached w new → IsSound w → IsSound new
  reached_sound w _ no_step h = h
  reached_sound w _ (one_more between new told before moves) h = moved between told new moves (reached_sound w between before h)

  reached_in_part : (w new : WorldState) → ReachedInPart w new → IsSound w → IsSound new
  reached_in_part w new (before_it reached) h = reached_sound w new reached h
  reached_in_part w new (in_it between server place reached is) h =
      let there = reached_sound w between reached h in
      in_part server _ between new (λ before after at part. arrived_in_part between server before at there place after part) is

  -- ---- all steps

  pub done : (step : Step) (w : WorldState) (told : Outcome) (new : WorldState) → Does step w told new → IsSound w → IsSound new
  done (Offer server draft) w told new is h = at_server server _ w told new (λ out before after at does. offered laws w server before at h _ out after does) is h
  done (OfferEdu server edu dests) w told new is h = at_server server _ w told new (λ out before after at does. edu_offered laws w server before at h edu dests out after does) is h
  done (Close server dest) w told new is h = at_server server _ w told new (λ out before after at does. closed_for laws w server before at h dest out after does) is h
  done (Collect server dest) w told new is h = collects server dest w told new is h
  done (Cut server dest) w told new is h = cuts server dest w told new is h
  done (Failed server dest) w told new is h = fails server dest w told new is h
  done (Post server dest) w told new is h = posted_lasts server dest w told new is h
  done (Take packet) w told new is h = taken_lasts packet w told new is h
  done (Settle packet) w told new is h = settled_lasts laws packet w told new is h
  done (Apply server room) w told new is h = at_server server _ w told new (λ out before after at does. given_to w server before at h (string_bytes room) out after does) is h
  done (Tick ms) w told new is h = ticked_so w ms told new is h
  done (Show server origin) w told new is h = subst IsSound (sym is.1) h
  done (Calm rounds) w told new is h = reached_sound w new (rounds_reach rounds w new is.1) h

  given_in_part : (server : ℕ) (id : List ℕ) (w new : WorldState) → AtServerInPart server (IsGivenInPart w.known id) w new → IsSound w → IsSound new
  given_in_part server id w new is h = in_part server _ w new (λ before after at part. arrived_in_part w server before at h part.place after part.in_part) is

  same_world : (w new : WorldState) → new ≡ w → IsSound w → IsSound new
  same_world w new same h = subst IsSound (sym same) h

  pub left : (step : Step) (w new : WorldState) → Leaves step w new → IsSound w → IsSound new
  left (Offer server draft) w new is h = same_world w new is h
  left (OfferEdu server edu dests) w new is h = same_world w new is h
  left (Close server dest) w new is h = same_world w new is h
  left (Collect server dest) w new is h = same_world w new is h
  left (Cut server dest) w new is h = absurd is
  left (Failed server dest) w new is h = absurd is
  left (Post server dest) w new is h = same_world w new is h
  left (Take packet) w new is h = same_world w new is h
  left (Settle packet) w new is h = same_world w new is h
  left (Apply server room) w new is h = given_in_part server (string_bytes room) w new is h
  left (Tick ms) w new is h = absurd is
  left (Show server origin) w new is h = absurd is
  left (Calm rounds) w new is h = reached_in_part w new (rounds_in_part rounds w new is) h

  pub makes_sound : (step : Step) (w : WorldState) (told : Outcome) (new : WorldState) → Makes step w told new → IsSound w → IsSound new
  makes_sound step w told new (made does) h = done step w told new does h
  makes_sound step w told new (refused says leaves) h = left step w new leaves h

  pub run_sound : (begin : WorldState) (steps : List Step) (replies : List Outcome) (new : WorldState) → Ran begin steps replies new → IsSound begin → IsSound new
  run_sound begin _ _ _ begun h = h
  run_sound begin _ _ _ (next steps replies old new step told before makes) h = makes_sound step old told new makes (run_sound begin steps replies old before h)

  pub comes_sound : (w : WorldState) → ComesOfRun w → IsSound w
  comes_sound _ (begins_run setup w begins) = begins_sound setup w begins
  comes_sound _ (by_step step old told new before makes) = makes_sound step old told new makes (comes_sound old before)
  comes_sound _ (within_round old new before reached) = reached_in_part old new reached (comes_sound old before)
