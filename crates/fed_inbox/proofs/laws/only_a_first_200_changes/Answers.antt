use Rattle.fed_inbox.proofs.Runs.{refused_stays, repeat_stays}
use Rattle.fed_inbox.proofs.laws.only_a_first_200_changes.Goals as goal

pub returns : goal.returns
returns c = record {
  refused = λ checks s r found no_ok. (refused_stays checks s r found no_ok).0;
  refused_brings_nothing = λ checks s r found no_ok. (refused_stays checks s r found no_ok).1;
  repeat = λ checks s r found reply kept. (repeat_stays checks s r found reply kept).0;
  repeat_brings_nothing = λ checks s r found reply kept. (repeat_stays checks s r found reply kept).1;
}
