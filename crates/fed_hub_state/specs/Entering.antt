-- What a journal that sends tells of what is offered, and what it and the token of the client are then.
use Rattle.std.specs.Prelude.{◌≡◌, ◌++◌, ◌∷◌, [], ℕ, List, true, false, length, Result, Ok, Err}
use Rattle.fed_journal.specs.declared.offered.Offered.{Offered}
use Rattle.fed_dest.specs.ServerSet.{is_among}
use Rattle.fed_journal.specs.Offered.{entry_of, number_of}
use Rattle.fed_journal.specs.Offering.{open_among, has_place, with_lost, AreLost}
use Rattle.fed_hub_state.specs.declared.full_wire.FullWire.{FullWire}
use Rattle.fed_hub_state.specs.declared.sending_journal.EnterFault.{EnterFault}
use Rattle.fed_hub_state.specs.declared.sending_journal.EnterFault.TheVariants.{Memory, ShutDown, Limit, Full}
use Rattle.fed_hub_state.specs.ClientToken.{ClientShare, with_told}
use Rattle.fed_hub_state.specs.SendingJournal.{SendingState}

-- It is refused, and all is as it was: the journal is shut down; or it has no place for the entry and for closing each outbox that it reaches;
-- or memory ran out, behind these tests, or the wire to one of its open outboxes was found to have no room. Else it stands in the journal, behind the closings of the outboxes that turned out to be lost, and
-- the client is told its number.
pub data Enters (offered : Offered) (dests : List ℕ) (old : SendingState) (client : ClientShare) : Result ℕ EnterFault → SendingState → ClientShare → Type 0 where
  shut_down : old.is_shut ≡ true → Enters offered dests old client (Err ShutDown) old client
  no_place : old.is_shut ≡ false → has_place old.entries (length (open_among old.entries dests)) ≡ false → Enters offered dests old client (Err Limit) old client
  no_memory : old.is_shut ≡ false → has_place old.entries (length (open_among old.entries dests)) ≡ true → Enters offered dests old client (Err Memory) old client
  full : (full : FullWire) → old.is_shut ≡ false → has_place old.entries (length (open_among old.entries dests)) ≡ true → is_among (open_among old.entries dests) full.dest ≡ true
      → Enters offered dests old client (Err (Full full)) old client
  entered : (lost : List ℕ) → old.is_shut ≡ false → has_place old.entries (length (open_among old.entries dests)) ≡ true → AreLost old.entries dests lost
      → Enters offered dests old client (Ok (number_of offered (with_lost old.entries lost ++ entry_of offered dests ∷ [])))
      (record { entries = with_lost old.entries lost ++ entry_of offered dests ∷ []; is_shut = old.is_shut }) (with_told client offered)
