use Rattle.fed_http.proofs.SentTexts.{sent_text_is}
use Rattle.fed_http.proofs.x_matrix.laws.signed_requests_are_read.Goals as goal

pub returns : goal.returns
returns c = sent_text_is
