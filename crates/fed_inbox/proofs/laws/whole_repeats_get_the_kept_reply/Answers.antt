use Rattle.fed_inbox.proofs.Histories.{whole_repeats, whole_repeat_stays, later_repeats, later_brings_nothing}
use Rattle.fed_inbox.proofs.laws.whole_repeats_get_the_kept_reply.Goals as goal

pub returns : goal.returns
returns c = record {
  answer = λ checks old new request answer fresh heading reply is reads kept. whole_repeats checks old request answer new fresh is heading reads reply kept;
  state = λ checks old new request answer fresh heading reply is reads kept. (whole_repeat_stays checks old request answer new fresh is heading reads reply kept).0;
  fresh = λ checks old new request answer fresh heading reply is reads kept. (whole_repeat_stays checks old request answer new fresh is heading reads reply kept).1;
  later = λ checks begin end points point heading reply history among reads kept. later_repeats checks begin end points point history among heading reads reply kept;
  later_brings_nothing = λ checks begin end points point heading reply history among reads kept. later_brings_nothing checks begin end points point history among heading reads reply kept;
}
