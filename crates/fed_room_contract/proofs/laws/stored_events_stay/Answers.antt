use Rattle.fed_room_contract.proofs.Graphs.{stored_at-++, stored_at-last, stored_at-others, ready_stays}
use Rattle.fed_room_contract.proofs.laws.stored_events_stay.Goals as goal

pub returns : goal.returns
returns c = record { found = stored_at-++; last = stored_at-last; others = stored_at-others; ready = ready_stays }
