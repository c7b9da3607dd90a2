-- A round in which nothing is lost. The standard has no such thing: it is what a script asks for with `calm`.
use Rattle.std.specs.Prelude.{◌≡◌, ◌≢◌, ◌≤◌, ◌<◌, ℕ, zero, suc, max, nat_lt, Bool, true, false, List, [], length, Option, Some, None, option_and_then, slice_get, if◌then◌else◌}
use Rattle.std.specs.Option.{option_map_or}
use Rattle.fed_event.specs.Checked.{CheckedEvent}
use Rattle.fed_journal.specs.declared.parcel.Parcel.{Parcel}
use Rattle.fed_outbox.specs.Collecting.{Way}
use Rattle.fed_outbox.specs.Outbox.{is_unanswered}
use Rattle.fed_sim.specs.declared.outcome.Outcome.{Outcome}
use Rattle.fed_sim.specs.declared.outcome.Outcome.TheVariants as outcome
use Rattle.fed_sim.specs.Applying.{IsAppliedAt}
use Rattle.fed_sim.specs.Packets.{way_from, IsPosted, IsTaken, IsSettled}
use Rattle.fed_sim.specs.Server.{ServerState}
use Rattle.fed_sim.specs.Ways.{IsOnWay, collecting, cutting}
use Rattle.fed_sim.specs.World.{WorldState, AtServer, at_moment, max_moment}

-- ---- again and again

-- something is done so many times, one after another
pub data Times (Does : WorldState → WorldState → Type 0) (old : WorldState) : ℕ → WorldState → Type 0 where
  never : Times Does old zero old
  once_more : (n : ℕ) (between new : WorldState) → Times Does old n between → Does between new → Times Does old (suc n) new

-- something is done for each of the places 0, 1 and on below n, in this order
pub data ForEach (Does : ℕ → WorldState → WorldState → Type 0) (old : WorldState) : ℕ → WorldState → Type 0 where
  for_none : ForEach Does old zero old
  for_one_more : (n : ℕ) (between new : WorldState) → ForEach Does old n between → Does n between new → ForEach Does old (suc n) new

-- ---- from one server to another

-- the parcels of the server o that wait for d
abbrev pub queue_at : WorldState → ℕ → ℕ → List Parcel
queue_at w o d = option_map_or (λ (way : Way). way.queue) (way_from w o d) []

-- when the unanswered transaction of the server o for d is due
abbrev pub due_at : WorldState → ℕ → ℕ → Option ℕ
due_at w o d = option_and_then (λ (way : Way). if is_unanswered way.outbox.unanswered then Some way.outbox.due_at else None) (way_from w o d)

-- the first parcel goes into the outbox
abbrev pub CollectsOne : ℕ → ℕ → WorldState → WorldState → Type 0
CollectsOne o d old new = (told : Outcome) × AtServer o (IsOnWay d collecting) old told new

-- a transaction is made, where none is unanswered and something waits
abbrev pub Cuts : ℕ → ℕ → WorldState → WorldState → Type 0
Cuts o d old new = (told : Outcome) × AtServer o (IsOnWay d (cutting old.now)) old told new

-- the moment rises to this one, where that is later
abbrev pub risen_to : ℕ → WorldState → WorldState
risen_to at_ms w = at_moment w (max w.now at_ms)

-- The unanswered transaction is posted once it is due, its request arrives, and so does the answer.
pub record IsBrought (o d due : ℕ) (old new : WorldState) : Type 0 where
  pub posted : WorldState
  pub request : ℕ
  pub is_posted : IsPosted o d (risen_to due old) (outcome.Posted request) posted
  pub answered : WorldState
  pub answer : ℕ
  pub status : ℕ
  pub is_taken : IsTaken request posted (outcome.Answered answer status) answered
  pub told : Outcome
  pub is_settled : IsSettled answer answered told new

-- The unanswered transaction is brought, but for one that is due past the greatest moment.
pub data IsExchanged (o d : ℕ) (old : WorldState) : WorldState → Type 0 where
  nothing : due_at old o d ≡ None → IsExchanged o d old old
  left_alone : (due : ℕ) → due_at old o d ≡ Some due → max_moment < due → IsExchanged o d old old
  brought : (due : ℕ) (new : WorldState) → due_at old o d ≡ Some due → due ≤ max_moment → IsBrought o d due old new → IsExchanged o d old new

-- all parcels that wait are collected, a transaction is made, and what is unanswered is brought
pub record IsCalmWay (o d : ℕ) (old new : WorldState) : Type 0 where
  pub collected : WorldState
  pub collects : Times (CollectsOne o d) old (length (queue_at old o d)) collected
  pub cut : WorldState
  pub cuts : Cuts o d collected cut
  pub exchanged : IsExchanged o d cut new

-- between a server and itself nothing is done
pub data IsCalmPair (o d : ℕ) (old : WorldState) : WorldState → Type 0 where
  itself : d ≡ o → IsCalmPair o d old old
  apart : (new : WorldState) → d ≢ o → IsCalmWay o d old new → IsCalmPair o d old new

-- ---- into the rooms

-- the events that were taken by a server for the room at a place, and that it was not given yet
abbrev pub arrivals_at : WorldState → ℕ → ℕ → List CheckedEvent
arrivals_at w s place = option_map_or (λ (events : List CheckedEvent). events) (option_and_then (λ (server : ServerState). slice_get server.arrivals place) (slice_get w.servers s)) []

-- the room is given the first of them, and then stores what is ready
abbrev pub GivesOne : ℕ → ℕ → WorldState → WorldState → Type 0
GivesOne s place old new = (told : Outcome) × AtServer s (IsAppliedAt place) old told new

-- the room is given all of them
abbrev pub GivesAll : ℕ → ℕ → WorldState → WorldState → Type 0
GivesAll s place old new = Times (GivesOne s place) old (length (arrivals_at old s place)) new

-- ---- a round

-- what waits at the server o for each other one is brought
abbrev pub BringsFrom : ℕ → WorldState → WorldState → Type 0
BringsFrom o old new = ForEach (IsCalmPair o) old (length old.names) new

-- the server s gives its rooms what was taken for them
abbrev pub GivesRooms : ℕ → WorldState → WorldState → Type 0
GivesRooms s old new = ForEach (GivesAll s) old (length old.known) new

-- first every server brings what waits there, in the order of the names; then every server gives its rooms what was taken for them
pub record IsRound (old new : WorldState) : Type 0 where
  pub brought : WorldState
  pub ways : ForEach BringsFrom old (length old.names) brought
  pub rooms : ForEach GivesRooms brought (length brought.names) new

-- so many rounds
abbrev pub AreRounds : ℕ → WorldState → WorldState → Type 0
AreRounds rounds old new = Times IsRound old rounds new

-- the moment rises to this one, unless it is past the greatest: whether it has been reached, and the world then
abbrev pub waited_until : ℕ → WorldState → Bool × WorldState
waited_until at_ms w = if nat_lt max_moment at_ms then (false, w) else (true, risen_to at_ms w)
