use Rattle.fed_resolve.proofs.ChainMarks.{chains_marked}
use Rattle.fed_resolve.proofs.chain.mark_chains.Goals as goal

pub returns : goal.returns
returns c = chains_marked c.args.graph.now.stored c.requires.graph c.args.places.now c.args.marks.now c.mark_auths_of.new.marks c.mark_on.new.marks c.requires.none c.mark_auths_of.ensures c.mark_on.ensures
