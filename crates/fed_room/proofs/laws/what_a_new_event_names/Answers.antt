use Rattle.std.proofs.Common.{subst, refl, sym}
use Rattle.fed_room_contract.specs.Room.{extremities_of}
use Rattle.fed_room.specs.Laws.{ArePrevEvents, IsDepthAfter}
use Rattle.fed_room.specs.Links.{links_of}
use Rattle.fed_room.proofs.ByDepth.{prev_events-are, depth-is, depth-in_range, one_more}
use Rattle.fed_room.proofs.Made.{prev_events-sealed, depth-sealed}
use Rattle.fed_room.proofs.laws.what_a_new_event_names.Goals as goal

pub returns : goal.returns
returns c = record {
  prev_events = λ signer events draft. subst (ArePrevEvents events) (sym (prev_events-sealed signer.name signer.key signer.sign (links_of events draft) draft _ _ refl refl)) (prev_events-are events);
  depth = λ signer events draft. subst (IsDepthAfter events (extremities_of events)) (sym (depth-sealed signer.name signer.key signer.sign (links_of events draft) draft (depth-in_range events))) (depth-is events);
  one_more = one_more;
}
