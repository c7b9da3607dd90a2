use Rattle.fed_inbox.proofs.Histories.{histories_keep, ok_was_read, ok_stays_kept, histories_answered}
use Rattle.fed_inbox.proofs.laws.histories_keep_replies.Goals as goal

pub returns : goal.returns
returns c = record {
  stays = histories_keep;
  read = ok_was_read;
  kept = λ checks begin end points point heading history among ok reads. ok_stays_kept checks begin end points point history among heading reads ok;
  answered = histories_answered;
}
