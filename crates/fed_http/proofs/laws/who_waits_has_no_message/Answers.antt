use Rattle.fed_http.proofs.TextLemmas.{waiting_has_no_text}
use Rattle.fed_http.proofs.laws.who_waits_has_no_message.Goals as goal

pub returns : goal.returns
returns c = waiting_has_no_text
