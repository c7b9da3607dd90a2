use Rattle.std.proofs.Common.{arith}
use Rattle.fed_tcp.specs.Serving.{begin}
use Rattle.fed_tcp.proofs.serving.serve.Goals as goal

pub loop-init : goal.loop-init
loop-init g c = (begin, omega arith)
