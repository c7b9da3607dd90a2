use Rattle.fed_journal.proofs.Placing.{others_closed, others_addressed, others_edus, others_parcels, others_place}
use Rattle.fed_journal.proofs.laws.a_close_leaves_the_others.Goals as goal

pub returns : goal.returns
returns c = record { closed = others_closed; addressed = others_addressed; edus = others_edus; parcels = others_parcels; place = others_place }
