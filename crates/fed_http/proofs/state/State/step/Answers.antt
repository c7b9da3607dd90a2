use Rattle.fed_http.specs.KeepingParts.{kept_of}
use Rattle.fed_http.proofs.TakenBodies.{body_left, data_left}
use Rattle.fed_http.proofs.state.State.step.Goals as goal

pub take_fixed-requires-clause-some : goal.take_fixed-requires-clause-some
take_fixed-requires-clause-some c = body_left (kept_of c.args.self.now) c.in-InBody.left c.in-InBody.is c.requires.sound

pub take_data-requires-clause-some : goal.take_data-requires-clause-some
take_data-requires-clause-some c = data_left (kept_of c.args.self.now) c.in-InData.left c.in-InData.is c.requires.sound
