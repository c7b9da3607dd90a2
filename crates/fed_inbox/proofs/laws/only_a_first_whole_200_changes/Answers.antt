use Rattle.fed_inbox.proofs.Histories.{whole_refused_stays, whole_first}
use Rattle.fed_inbox.proofs.laws.only_a_first_whole_200_changes.Goals as goal

pub returns : goal.returns
returns c = record {
  refused = λ checks old new request answer fresh is no_ok. (whole_refused_stays checks old request answer new fresh is no_ok).0;
  refused_brings_nothing = λ checks old new request answer fresh is no_ok. (whole_refused_stays checks old request answer new fresh is no_ok).1;
  first = λ checks old new request answer fresh heading is reads ok none. whole_first checks old request answer new fresh is heading reads ok none;
}
