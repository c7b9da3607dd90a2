-- What the steps of a world do.
use Rattle.std.specs.Prelude.{◌≡◌, ℕ, List, [], ◌∷◌, ◌++◌, string_bytes}
use Rattle.fed_sim.specs.declared.outcome.Outcome.{Outcome}
use Rattle.fed_sim.specs.declared.outcome.Outcome.TheVariants as outcome
use Rattle.fed_sim.specs.declared.step.Step.{Step}
use Rattle.fed_sim.specs.declared.step.Step.TheVariants.{Offer, OfferEdu, Close, Collect, Cut, Failed, Post, Take, Settle, Apply, Tick, Show, Calm}
use Rattle.fed_sim.specs.Applying.{IsAppliedAt, IsAppliedInPart, IsGivenTo, IsGivenInPart}
use Rattle.fed_sim.specs.Offering.{IsOffered, IsEduOffered, IsClosedFor}
use Rattle.fed_sim.specs.Packets.{IsPosted, IsTaken, IsSettled}
use Rattle.fed_sim.specs.Rounds.{AreRounds}
use Rattle.fed_sim.specs.RoundsInPart.{AreRoundsInPart}
use Rattle.fed_sim.specs.Showing.{IsShown}
use Rattle.fed_sim.specs.Ways.{IsOnWay, collecting, cutting, failing}
use Rattle.fed_sim.specs.World.{WorldState, AtServer, AtServerInPart, dated, ticked}

-- one of the steps that a round of calm is made of: what is told, and the world then
pub data Moves (old : WorldState) (told : Outcome) (new : WorldState) : Type 0 where
  collected : (server dest : ℕ) → AtServer server (IsOnWay dest collecting) old told new → Moves old told new
  cut : (server dest : ℕ) → AtServer server (IsOnWay dest (cutting old.now)) old told new → Moves old told new
  posted : (server dest : ℕ) → IsPosted server dest old told new → Moves old told new
  taken : (packet : ℕ) → IsTaken packet old told new → Moves old told new
  settled : (packet : ℕ) → IsSettled packet old told new → Moves old told new
  given : (server place : ℕ) → AtServer server (IsAppliedAt place) old told new → Moves old told new
  risen : (ms : ℕ) → (told, new) ≡ ticked ms old → Moves old told new

-- the world after some such steps, one after another
pub data Reached (old : WorldState) : WorldState → Type 0 where
  no_step : Reached old old
  one_more : (between new : WorldState) (told : Outcome) → Reached old between → Moves between told new → Reached old new

-- the same where memory ran out in the step after them
pub data ReachedInPart (old new : WorldState) : Type 0 where
  before_it : Reached old new → ReachedInPart old new
  in_it : (between : WorldState) (server place : ℕ) → Reached old between → AtServerInPart server (IsAppliedInPart place) between new → ReachedInPart old new

-- What is told of a step, and the world then.
abbrev pub Does : Step → WorldState → Outcome → WorldState → Type 0
Does (Offer server draft) old = AtServer server (IsOffered old.names old.known (dated draft old.now)) old
Does (OfferEdu server edu dests) old = AtServer server (IsEduOffered edu dests) old
Does (Close server dest) old = AtServer server (IsClosedFor dest) old
Does (Collect server dest) old = AtServer server (IsOnWay dest collecting) old
Does (Cut server dest) old = AtServer server (IsOnWay dest (cutting old.now)) old
Does (Failed server dest) old = AtServer server (IsOnWay dest (failing old.now)) old
Does (Post server dest) old = IsPosted server dest old
Does (Take packet) old = IsTaken packet old
Does (Settle packet) old = IsSettled packet old
Does (Apply server room) old = AtServer server (IsGivenTo old.known (string_bytes room)) old
Does (Tick ms) old = λ told new. (told, new) ≡ ticked ms old
Does (Show server origin) old = λ told new. IsShown server origin old told × (new ≡ old)
Does (Calm rounds) old = λ told new. (told ≡ outcome.Calm new.now) × AreRounds rounds old new

-- What a step leaves where memory runs out: the world as it was, but where a room was given an event, and rounds of calm leave what they were made of
-- up to the step that was refused. Cutting, failing, waiting and showing take no memory.
abbrev pub Leaves : Step → WorldState → WorldState → Type 0
Leaves (Apply server room) old new = AtServerInPart server (IsGivenInPart old.known (string_bytes room)) old new
Leaves (Calm rounds) old new = AreRoundsInPart rounds old new
Leaves (Offer server draft) old new = new ≡ old
Leaves (OfferEdu server edu dests) old new = new ≡ old
Leaves (Close server dest) old new = new ≡ old
Leaves (Collect server dest) old new = new ≡ old
Leaves (Cut server dest) old new = ⊥
Leaves (Failed server dest) old new = ⊥
Leaves (Post server dest) old new = new ≡ old
Leaves (Take packet) old new = new ≡ old
Leaves (Settle packet) old new = new ≡ old
Leaves (Tick ms) old new = ⊥
Leaves (Show server origin) old new = ⊥

-- a step was made, or memory ran out in it
pub data Makes (step : Step) (old : WorldState) (told : Outcome) (new : WorldState) : Type 0 where
  made : Does step old told new → Makes step old told new
  refused : told ≡ outcome.NoMemory → Leaves step old new → Makes step old told new

-- Steps were made one after another: what was told of each, and the world after them.
pub data Ran (begin : WorldState) : List Step → List Outcome → WorldState → Type 0 where
  begun : Ran begin [] [] begin
  next : (steps : List Step) (replies : List Outcome) (old new : WorldState) (step : Step) (told : Outcome) → Ran begin steps replies old → Makes step old told new
      → Ran begin (steps ++ step ∷ []) (replies ++ told ∷ []) new
