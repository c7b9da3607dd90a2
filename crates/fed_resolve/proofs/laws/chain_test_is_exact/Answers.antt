use Rattle.fed_resolve.proofs.ChainMarks.{chain-from_test, chain-to_test}
use Rattle.fed_resolve.proofs.laws.chain_test_is_exact.Goals as goal

pub returns : goal.returns
returns c = λ events graph p q. (chain-from_test events graph p q, chain-to_test events graph p q)
