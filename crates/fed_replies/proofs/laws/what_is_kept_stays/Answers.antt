use Rattle.fed_replies.proofs.Kept.{there, others, stays, none_of_empty}
use Rattle.fed_replies.proofs.laws.what_is_kept_stays.Goals as goal

pub returns : goal.returns
returns c = record { there = there; others = others; stays = stays; none = none_of_empty }
