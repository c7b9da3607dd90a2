-- A load that is on the way to its destinations.
use Rattle.std.specs.Prelude.{◌≡◌, ◌<◌, ◌++◌, ℕ, true, List, [], ◌∷◌, length}
use Rattle.fed_dest.specs.ServerSet.{is_among}
use Rattle.fed_journal.specs.declared.entry.Entry.{Entry}
use Rattle.fed_journal.specs.declared.parcel.Load.{Load}
use Rattle.fed_journal.specs.declared.parcel.Parcel.{Parcel}
use Rattle.fed_journal.specs.Journal.{JournalState}
use Rattle.fed_journal.specs.Offering.{with_lost}
use Rattle.fed_wires.specs.SendEnd.{Sender}
use Rattle.fed_wires.specs.WireId.{WireId}
use Rattle.fed_hub_state.specs.declared.unplaced.Unplaced.{Unplaced}
use Rattle.fed_hub_state.specs.Spreading.{AreAll, AreSentTo, dests_of}
use Rattle.fed_hub_state.specs.WireRoom.{HaveRoom}

-- some of the others, in their order
pub data AreSome : List ℕ → List ℕ → Type 0 where
  none : AreSome [] []
  left : (x : ℕ) (xs ys : List ℕ) → AreSome xs ys → AreSome xs (x ∷ ys)
  kept : (x : ℕ) (xs ys : List ℕ) → AreSome xs ys → AreSome (x ∷ xs) (x ∷ ys)

-- The load went to the first of these servers, and goes to those of `rest` yet. The outboxes of some of the first turned out to be lost.
pub record IsUnderWay (wires : List (WireId Parcel)) (load : Load) (servers : List ℕ) (before : List Entry) (rest : List Unplaced) (journal : JournalState) (ends : List (Sender Parcel)) : Type 0 where
  pub given : List ℕ
  pub lost : List ℕ
  pub all : servers ≡ given ++ dests_of rest
  pub same : AreAll load rest
  pub some : AreSome lost given
  pub entries : journal.entries ≡ with_lost before lost
  pub sent : AreSentTo wires journal.entries load given ends
  pub room : length rest < journal.reserved
  pub credits : HaveRoom (λ d. is_among (dests_of rest) d ≡ true) ends
