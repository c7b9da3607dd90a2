-- What is made ready of an event, for its destinations.
use Rattle.std.proofs.Common.{◌≡◌, ◌<◌, ℕ, List, Result, Ok, Err, sym, ap, ◌∙◌, subst}
use Rattle.std.specs.List.{All}
use Rattle.std.specs.Result.{IfOk}
use Rattle.std.specs.declared.alloc.AllocError.{AllocError}
use Rattle.fed_dest.specs.Joined.{AreDestinations, is_destination}
use Rattle.fed_dest.specs.ServerSet.{is_among}
use Rattle.fed_hub_told.specs.Told.{ToldState}
use Rattle.fed_room_contract.specs.Draft.{DraftFields}
use Rattle.fed_room_contract.specs.declared.graph.Stored.{Stored}
use Rattle.fed_room_contract.specs.Prepared.{PreparedEvent}
use Rattle.fed_hub.specs.declared.ready.Ready.{Ready}
use Rattle.fed_hub.specs.Ready.{IsReady, IsReadyFor}

pub ready_for : (events : List Stored) (servers : List (List ℕ)) (own wires : ℕ) (prepared : PreparedEvent) (draft : Result DraftFields AllocError) (one : DraftFields) (told : ToldState) (dests : List ℕ) (made : Result Ready AllocError)
    → draft ≡ Ok one → ((place : ℕ) → is_among dests place ≡ is_destination events prepared.before servers own place) → All (λ d. d < wires) dests → 0 < told.free_events
    → IfOk made (λ r. IsReadyFor prepared dests one r) → IfOk made (λ r. IsReady events servers own wires prepared draft told r)
ready_for events servers own wires prepared draft one told dests (Ok r) is are within free made = record {
  same_draft = is ∙ ap Ok (sym made.same_draft);
  destinations = subst (AreDestinations events prepared.before servers own) (sym made.reached) (record { rising = made.rising; each = are });
  within = subst (All (λ d. d < wires)) (sym made.reached) within;
  made = subst (λ ds. IsReadyFor prepared ds r.draft r) (sym made.reached) (subst (λ x. IsReadyFor prepared dests x r) (sym made.same_draft) made);
  room = free;
}
ready_for events servers own wires prepared draft one told dests (Err e) is are within free made = tt
