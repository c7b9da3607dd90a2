-- Kept states and places of them, for the clauses of private functions.
use Rattle.std.specs.Prelude.{◌≡◌, ◌≢◌, ◌<◌, ℕ, ⊤, [], List, All, IfSome, length}
use Rattle.fed_event.specs.Event.{Event}
use Rattle.fed_event.specs.EventId.{event_id_of}
use Rattle.fed_event.specs.Fields.{kind_of, state_key_of}
use Rattle.fed_auth.specs.AuthState.{with_id_at}
use Rattle.fed_room_contract.specs.State.{StateMap}
use Rattle.fed_room_contract.specs.Steps.{IsAlikeBut, state_at}
use Rattle.fed_resolve.specs.declared.kept.Merged.{Merged}
pub use Rattle.fed_resolve.specs.KeptParts.{at_places}
use Rattle.fed_room.specs.declared.after.After.{After}
use Rattle.fed_room.specs.declared.after.After.TheVariants.{Same, Laid, Changed, Whole}
use Rattle.fed_room.specs.declared.before.Before.{Before}
use Rattle.fed_room.specs.declared.before.Before.TheVariants as before
use Rattle.fed_room.specs.declared.resolved.Resolved.{Resolved}
use Rattle.fed_room.specs.declared.resolved.Resolved.TheVariants.{Kept, Made}

-- the state that a `Resolved` stands for
abbrev pub seen : Resolved → StateMap
seen (Kept states place) = state_at states.now.after place
seen (Made over merged) = merged.state

-- a state is kept at its place
abbrev pub IsThere : Resolved → Type 0
IsThere (Kept states place) = place < length states.now.after
IsThere (Made over merged) = ⊤

-- what was made of several states differs from the one at a place at its keys alone
abbrev pub IsMadeOver : List StateMap → Merged → ℕ → Type 0
IsMadeOver kept merged place = (place < length kept) × IsAlikeBut merged.keys (state_at kept place) merged.state

-- the same, where these states are kept
abbrev pub IsKeptIn : List StateMap → Resolved → Type 0
IsKeptIn kept (Kept states place) = (states.now.after ≡ kept) × (place < length kept)
IsKeptIn kept (Made over merged) = IfSome over (IsMadeOver kept merged)

-- the state that a `Before` stands for, beside these states
abbrev pub before_seen : List StateMap → Before → StateMap
before_seen states (before.Kept place) = state_at states place
before_seen states (before.Made state) = state

abbrev pub IsThereBefore : List StateMap → Before → Type 0
IsThereBefore states (before.Kept place) = place < length states
IsThereBefore states (before.Made state) = ⊤

-- the one state at these places
pub record IsOne (states : List StateMap) (places : List ℕ) (place : ℕ) : Type 0 where
  pub some : places ≢ []
  pub within : place < length states
  pub same : All (λ other. state_at states other ≡ state_at states place) places

-- the state after an event that an `After` stands for, beside these states
abbrev pub after_seen : List StateMap → Event → After → StateMap
after_seen states event (Same place) = state_at states place
after_seen states event (Laid place) = with_id_at (state_at states place) (kind_of event) (state_key_of event) (event_id_of event)
after_seen states event (Changed over state keys) = state
after_seen states event (Whole state) = state

abbrev pub IsThereIn : List StateMap → After → Type 0
IsThereIn states (Same place) = place < length states
IsThereIn states (Laid place) = place < length states
IsThereIn states (Changed over state keys) = (over < length states) × IsAlikeBut keys (state_at states over) state
IsThereIn states (Whole state) = ⊤
