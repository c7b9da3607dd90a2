-- How the run of a script ends, by the bytes of the script and by what was written.
use Rattle.std.specs.Prelude.{◌≡◌, ℕ, List, Option, Result, Ok, Err}
use Rattle.fed_sim.specs.declared.script.faults.ScriptError.{ScriptError}
use Rattle.fed_sim.specs.declared.script.faults.ScriptError.TheVariants.{WrongWords}
use Rattle.fed_sim.specs.declared.setup.Setup.{Setup}
use Rattle.fed_sim.specs.declared.step.Step.{Step}
use Rattle.fed_sim.specs.Running.{CannotBegin}
use Rattle.fed_sim.specs.Script.{IsScript, IsNoScript}
use Rattle.fed_app.specs.declared.sim_fault.SimRunFault.{SimRunFault}
use Rattle.fed_app.specs.declared.sim_fault.SimRunFault.TheVariants.{Memory, At, Io}

-- Why no step of a text is made: the line of this number is wrong in this way; or the text is a script, and no world begins with its setup.
pub data IsNotRun (text : List ℕ) : ℕ → ScriptError → Type 0 where
  no_script : (line : ℕ) (what : ScriptError) → IsNoScript text line what → IsNotRun text line what
  no_world : (setup : Setup) (steps : List Step) → IsScript text setup steps → CannotBegin setup → IsNotRun text 1 WrongWords

-- The text is a script; or it is told why none of its steps is made, and nothing was written; or there is a fault of memory, or of input or output.
abbrev pub IsSimEnd : List ℕ → Option (List ℕ) → Option (List ℕ) → Result (Unit {0}) SimRunFault → Type 0
IsSimEnd text old new (Ok done) = (setup : Setup) × (steps : List Step) × IsScript text setup steps
IsSimEnd text old new (Err (At line what)) = IsNotRun text line what × (new ≡ old)
IsSimEnd text old new (Err Memory) = Unit {0}
IsSimEnd text old new (Err Io) = Unit {0}
