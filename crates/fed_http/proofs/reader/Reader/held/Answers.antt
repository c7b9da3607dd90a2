use Rattle.std.proofs.Common.{arith}
use Rattle.fed_http.proofs.Kept.{reading_bound}
use Rattle.fed_http.proofs.reader.Reader.held.Goals as goal

pub held-requires : goal.held-requires
held-requires c = reading_bound c.self.inside.kind c.self.inside.state c.self.inside.has_failed c.self.invariant

pub returns-clause-bound : goal.returns-clause-bound
returns-clause-bound c =
    let bound = reading_bound c.self.inside.kind c.self.inside.state c.self.inside.has_failed c.self.invariant in
    omega (arith, bound, c.held.ensures)
