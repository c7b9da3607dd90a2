-- The verdict on an event (Matrix, Server-Server API, "Checks performed on receipt of a PDU", checks 4 to 6), by the events that were
-- stored before it. The first check that it fails decides.
use Rattle.std.specs.Prelude.{List, ⊤, Result, Ok, Err}
use Rattle.fed_event.specs.Checked.{CheckedEvent}
use Rattle.fed_room_contract.specs.declared.rule.Rule.{Rule}
use Rattle.fed_room_contract.specs.declared.verdict.Verdict.{Verdict}
use Rattle.fed_room_contract.specs.declared.verdict.Verdict.TheVariants.{Accepted, Rejected, SoftFailed}
use Rattle.fed_room_contract.specs.declared.graph.Stored.{Stored}
use Rattle.fed_room_contract.specs.State.{StateMap}
use Rattle.fed_auth.specs.AuthState.{auth_state_of}
use Rattle.fed_auth.specs.Allowed.{allowed_of}
use Rattle.fed_room.specs.States.{state_before, current_state}

-- check 6: by the current state it is allowed, or it is soft-failed
abbrev pub softly : Result ⊤ Rule → Verdict
softly (Ok done) = Accepted
softly (Err rule) = SoftFailed rule

module _ (events : List Stored) (event : CheckedEvent) where
  -- check 4: by the state of its auth events, which rule 2 is about
  abbrev pub allowed_by_auth : Result StateMap Rule → Result ⊤ Rule
  allowed_by_auth (Ok state) = allowed_of events event state
  allowed_by_auth (Err rule) = Err rule

  -- check 5: by the state before it
  abbrev pub allowed_by_both : Result ⊤ Rule → Result ⊤ Rule
  allowed_by_both (Ok done) = allowed_of events event (state_before events event.event)
  allowed_by_both (Err rule) = Err rule

  -- what fails check 4 or 5 is rejected
  abbrev pub decided : Result ⊤ Rule → Verdict
  decided (Ok done) = softly (allowed_of events event (current_state events))
  decided (Err rule) = Rejected rule

  abbrev pub verdict_of : Verdict
  verdict_of = decided (allowed_by_both (allowed_by_auth (auth_state_of events event.event)))
