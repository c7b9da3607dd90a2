use Rattle.fed_http.proofs.Headers.{same_header}
use Rattle.fed_http.proofs.x_matrix.laws.one_header.Goals as goal

pub returns : goal.returns
returns c = same_header
