use Rattle.fed_wires.proofs.Relaying.{receives}
use Rattle.fed_wires.proofs.ends.ReceiveEnd.receive.Goals as goal

pub recv_as-requires-clause-rule : goal.recv_as-requires-clause-rule
recv_as-requires-clause-rule g c = (receives g.N.Numbering.fits _ _ _ c.self.invariant.1, λ queue views h at. tt)

pub try_recv_as-found-requires-clause-rule : goal.try_recv_as-found-requires-clause-rule
try_recv_as-found-requires-clause-rule g c = (receives g.N.Numbering.fits _ _ _ c.self.invariant.1, λ queue views h at. tt)
