use Rattle.std.proofs.Common.{arith}
use Rattle.fed_outbox.specs.Outbox.{new_outbox}
use Rattle.fed_outbox.proofs.Runs.{calls_grow}
use Rattle.fed_outbox.proofs.laws.accepted_places_have_no_gap.Goals as goal

pub returns : goal.returns
returns c = record {
  places = λ d calls. (calls_grow (new_outbox d) calls).places;
  parcels = λ d calls. (calls_grow (new_outbox d) calls).numbered;
  events = λ d calls. (calls_grow (new_outbox d) calls).events;
  edus = λ d calls. (calls_grow (new_outbox d) calls).edus;
  number = λ d calls. let number = (calls_grow (new_outbox d) calls).number in omega arith;
  dest = λ d calls. (calls_grow (new_outbox d) calls).dest;
}
