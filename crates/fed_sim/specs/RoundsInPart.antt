-- How far rounds get where memory runs out in one: what they are made of is made in its order, up to the step that is refused. That step leaves
-- the world as it was, but where a room was given an event (`Applying.IsAppliedInPart`).
use Rattle.std.specs.Prelude.{◌≡◌, ◌≢◌, ◌≤◌, ◌<◌, ℕ, Some, length}
use Rattle.fed_sim.specs.declared.outcome.Outcome.TheVariants as outcome
use Rattle.fed_sim.specs.Applying.{IsAppliedInPart}
use Rattle.fed_sim.specs.Packets.{IsPosted, IsTaken}
use Rattle.fed_sim.specs.Rounds.{Times, ForEach, queue_at, due_at, CollectsOne, Cuts, risen_to, IsCalmPair, arrivals_at, GivesOne, GivesAll, BringsFrom, GivesRooms, IsRound}
use Rattle.fed_sim.specs.World.{WorldState, AtServerInPart, max_moment}

-- ---- again and again

-- of so many times some were made, and of the next one a part
pub record TimesInPart (Does Part : WorldState → WorldState → Type 0) (old : WorldState) (total : ℕ) (new : WorldState) : Type 0 where
  pub done : ℕ
  pub within : done < total
  pub between : WorldState
  pub before : Times Does old done between
  pub part : Part between new

-- of the places below total the first were done, and of the next one a part
pub record ForEachInPart (Does Part : ℕ → WorldState → WorldState → Type 0) (old : WorldState) (total : ℕ) (new : WorldState) : Type 0 where
  pub place : ℕ
  pub within : place < total
  pub between : WorldState
  pub before : ForEach Does old place between
  pub part : Part place between new

-- ---- from one server to another

-- a step that was refused and left all as it was
abbrev pub IsRefused : WorldState → WorldState → Type 0
IsRefused old new = new ≡ old

-- The moment has risen to when the unanswered transaction is due, and no later; it was not posted, or its request did not arrive, or its answer did
-- not.
pub data IsExchangedInPart (o d : ℕ) (old new : WorldState) : Type 0 where
  not_posted : (due : ℕ) → due_at old o d ≡ Some due → due ≤ max_moment → new ≡ risen_to due old → IsExchangedInPart o d old new
  not_taken : (due request : ℕ) → due_at old o d ≡ Some due → due ≤ max_moment → IsPosted o d (risen_to due old) (outcome.Posted request) new → IsExchangedInPart o d old new
  not_settled : (due request : ℕ) (posted : WorldState) (answer status : ℕ) → due_at old o d ≡ Some due → due ≤ max_moment → IsPosted o d (risen_to due old) (outcome.Posted request) posted
      → IsTaken request posted (outcome.Answered answer status) new → IsExchangedInPart o d old new

-- some of the parcels that wait were collected; or all were, a transaction was made, and what is unanswered was brought in part
pub data IsCalmWayInPart (o d : ℕ) (old new : WorldState) : Type 0 where
  in_collecting : TimesInPart (CollectsOne o d) IsRefused old (length (queue_at old o d)) new → IsCalmWayInPart o d old new
  in_exchange : (collected cut : WorldState) → Times (CollectsOne o d) old (length (queue_at old o d)) collected → Cuts o d collected cut → IsExchangedInPart o d cut new
      → IsCalmWayInPart o d old new

pub record IsCalmPairInPart (o d : ℕ) (old new : WorldState) : Type 0 where
  pub apart : d ≢ o
  pub way : IsCalmWayInPart o d old new

-- ---- into the rooms

-- the room was given some of the events in front of it, and the next one in part
abbrev pub GivesAllInPart : ℕ → ℕ → WorldState → WorldState → Type 0
GivesAllInPart s place old new = TimesInPart (GivesOne s place) (AtServerInPart s (IsAppliedInPart place)) old (length (arrivals_at old s place)) new

-- ---- a round

abbrev pub BringsFromInPart : ℕ → WorldState → WorldState → Type 0
BringsFromInPart o old new = ForEachInPart (IsCalmPair o) (IsCalmPairInPart o) old (length old.names) new

abbrev pub GivesRoomsInPart : ℕ → WorldState → WorldState → Type 0
GivesRoomsInPart s old new = ForEachInPart (GivesAll s) (GivesAllInPart s) old (length old.known) new

-- not every server has brought what waits there; or every one has, and not every one has given its rooms what was taken for them
pub data IsRoundInPart (old new : WorldState) : Type 0 where
  in_bringing : ForEachInPart BringsFrom BringsFromInPart old (length old.names) new → IsRoundInPart old new
  in_giving : (brought : WorldState) → ForEach BringsFrom old (length old.names) brought → ForEachInPart GivesRooms GivesRoomsInPart brought (length brought.names) new → IsRoundInPart old new

-- some of so many rounds, and the next one in part
abbrev pub AreRoundsInPart : ℕ → WorldState → WorldState → Type 0
AreRoundsInPart rounds old new = TimesInPart IsRound IsRoundInPart old rounds new
