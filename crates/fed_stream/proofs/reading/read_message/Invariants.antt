use Rattle.std.proofs.Common.{◌≡◌}
use Rattle.std.specs.Prelude.{vec_len}
use Rattle.fed_stream.proofs.Pieces.{Stands}
use Rattle.fed_stream.proofs.reading.read_message.Given as goal

abbrev pub invariant-loop : goal.invariant-loop
invariant-loop g l = Stands l.fn.reader.kind (g.R.Read.remaining l.fn.from) (g.R.Read.remaining l.from) l.reader × (vec_len l.buffer ≡ 65536)
