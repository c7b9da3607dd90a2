-- What a room keeps as it stores one event more.
use Rattle.std.proofs.Common.{◌≡◌, List, [], ◌∷◌, ◌++◌, Bool, true, false, true≢false, Option, None, Some, IfSome, refl, sym, ap, ◌∙◌, subst, if◌then◌else◌, nat_lt, length}
use Rattle.fed_event.specs.Checked.{CheckedEvent}
use Rattle.fed_room_contract.specs.declared.verdict.Verdict.{Verdict}
use Rattle.fed_room_contract.specs.declared.verdict.Verdict.TheVariants.{Accepted, Rejected}
use Rattle.fed_room_contract.specs.declared.receipt.Receipt.{Receipt}
use Rattle.fed_room_contract.specs.declared.receipt.Receipt.TheVariants as receipt
use Rattle.fed_room_contract.specs.declared.graph.Stored.{Stored}
use Rattle.fed_room_contract.specs.Arrival.{IsTold}
use Rattle.fed_room_contract.specs.Graph.{IsGraph, id_of, is_stored, is_ready}
use Rattle.fed_room_contract.specs.Room.{Rules, RoomState, event_id, is_known, most_waiting}
use Rattle.fed_room_contract.specs.State.{StateMap}
use Rattle.fed_room_contract.specs.Store.{StoreState}
use Rattle.fed_room_contract.specs.Verdict.{no_rule}
use Rattle.fed_room_contract.proofs.Graphs.{graph_grows}
use Rattle.fed_room.specs.Room.{room_rules}
use Rattle.fed_room.specs.Start.{is_taken}
use Rattle.fed_room.specs.States.{state_with, state_before, states_after}
use Rattle.fed_room_contract.specs.Steps.{KeptStates}
use Rattle.fed_room.specs.RoomLawful.{kept-push}

-- the graph and the kept states with one event more
module _ (events : List Stored) (kept : List StateMap) (last : Stored) (graph : IsGraph events) (same : kept ≡ states_after events)
    (new : is_stored events (id_of last) ≡ false) (ready : is_ready events last.event.event ≡ true) where
  pub graph-more : IsGraph (events ++ last ∷ [])
  graph-more = graph_grows events last graph (record { new = new; ready = ready })

  pub kept-more : (pushed : KeptStates) (next : Option StateMap) → next ≡ Some (state_with (state_before events last.event.event) last)
      → IfSome next (λ state. pushed ≡ record { after = kept ++ state ∷ []; next = None }) → pushed.after ≡ states_after (events ++ last ∷ [])
  kept-more pushed next e h =
      let is : pushed ≡ record { after = kept ++ state_with (state_before events last.event.event) last ∷ []; next = None } =
      subst (λ (o : Option StateMap). IfSome o (λ state. pushed ≡ record { after = kept ++ state ∷ []; next = None })) e h in
      ap (λ (s : KeptStates). s.after) is ∙ kept-push events last kept (state_with (state_before events last.event.event) last) graph-more same refl

-- ---- what is told without a verdict stores nothing

abbrev deciding : Verdict → Rules
deciding verdict = record { decide = λ events event. verdict; before = room_rules.before; current = room_rules.current; parts = room_rules.parts }

neither : (known ready few : Bool) (verdict : Verdict)
    → (if known then receipt.Known else if ready then receipt.Stored Accepted else if few then receipt.Waiting else receipt.Dropped) ≡ receipt.Stored verdict
    → (if known then receipt.Known else if ready then receipt.Stored (Rejected no_rule) else if few then receipt.Waiting else receipt.Dropped) ≡ receipt.Stored verdict → ⊥
neither true ready few verdict a b = absurd (cc)
neither false true few verdict a b = true≢false (ap is_taken (a ∙ sym b))
neither false false true verdict a b = absurd (cc)
neither false false false verdict a b = absurd (cc)

pub told-keeps : (old new : StoreState) (event : CheckedEvent) (r : Receipt) → IsTold old event r new → new.room.stored ≡ old.room.stored
told-keeps old new event receipt.Known told = ap (λ (room : RoomState). room.stored) told.after
told-keeps old new event receipt.Waiting told = ap (λ (room : RoomState). room.stored) told.after
told-keeps old new event receipt.Dropped told = ap (λ (room : RoomState). room.stored) told.after
told-keeps old new event (receipt.Stored verdict) told =
    absurd (neither (is_known old.room (event_id event)) (is_ready old.room.stored event.event) (nat_lt (length old.room.waiting) most_waiting) verdict
    (told.told (deciding Accepted)) (told.told (deciding (Rejected no_rule))))
