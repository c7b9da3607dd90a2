use Rattle.std.proofs.Common.{length, take}
use Rattle.fed_sim.specs.Script.{Reads, lines_of}
use Rattle.fed_sim.specs.ScriptReadings.{said_by}
use Rattle.fed_sim.proofs.script.read_script.Given as goal

-- the lines so far have said what is read
abbrev pub invariant-loop-place : goal.invariant-loop-place
invariant-loop-place l = Reads (take (length l.yielded) (lines_of l.text)) (said_by l.reading)
