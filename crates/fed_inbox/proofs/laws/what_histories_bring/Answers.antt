use Rattle.fed_inbox.proofs.Histories.{histories_bring, whole_few, whole_ids_apart}
use Rattle.fed_inbox.proofs.laws.what_histories_bring.Goals as goal

pub returns : goal.returns
returns c = record {
  all = histories_bring;
  few = λ checks old new request answer fresh is. whole_few checks old request answer new fresh is;
  apart = λ checks old new request answer fresh is. whole_ids_apart checks old request answer new fresh is;
}
