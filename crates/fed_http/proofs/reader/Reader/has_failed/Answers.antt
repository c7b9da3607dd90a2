use Rattle.fed_http.proofs.Kept.{some_stand}
use Rattle.fed_http.proofs.reader.Reader.has_failed.Goals as goal

pub returns-clause-stands : goal.returns-clause-stands
returns-clause-stands c = some_stand c.args.self.now c.self.inside.kind c.self.inside.state c.self.inside.has_failed c.self.view_is c.self.invariant
