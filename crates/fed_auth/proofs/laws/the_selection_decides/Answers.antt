use Rattle.fed_auth.proofs.Deciding.{allowed_alike}
use Rattle.fed_auth.proofs.laws.the_selection_decides.Goals as goal

pub returns : goal.returns
returns c = allowed_alike
