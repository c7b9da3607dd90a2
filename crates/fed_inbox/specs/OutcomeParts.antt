-- What an `Outcome` stands for.
use Rattle.fed_inbox.specs.declared.outcome.Outcome.{Outcome}
use Rattle.fed_inbox.specs.Taking.{Taking}

abbrev pub taking : Outcome → Taking
taking o = record { pdus = o.pdus; edus = o.edus; fresh = o.fresh.items; reply = o.reply.items }
