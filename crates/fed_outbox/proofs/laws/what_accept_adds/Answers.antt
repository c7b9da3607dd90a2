use Rattle.fed_outbox.proofs.Steps.{call_adds, call_keeps, same_expected}
use Rattle.fed_outbox.specs.Runs.{after_call}
use Rattle.fed_outbox.proofs.laws.what_accept_adds.Goals as goal

pub returns : goal.returns
returns c = record {
  events = λ o call parcel e. (call_adds o call parcel e).events;
  edus = λ o call parcel e. (call_adds o call parcel e).edus;
  number = λ o call parcel e. (call_adds o call parcel e).number;
  others = λ o call e. let same = call_keeps o call e in (same.events, same.edus, same_expected o (after_call o call) same);
}
