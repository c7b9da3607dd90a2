-- Which fault of a run of a script an earlier one becomes.
use Rattle.std.specs.Prelude.{◌≡◌, ◌≢◌}
use Rattle.std.specs.declared.io.ErrorKind.{ErrorKind}
use Rattle.std.specs.declared.io.ErrorKind.TheVariants.{OutOfMemory}
use Rattle.fed_sim.specs.declared.script.faults.ScriptError.TheVariants.{WrongWords}
use Rattle.fed_sim.specs.declared.script.faults.ScriptFault.{ScriptFault}
use Rattle.fed_sim.specs.declared.script.faults.ScriptFault.TheVariants as script
use Rattle.fed_sim.specs.declared.setup.SimFault.{SimFault}
use Rattle.fed_sim.specs.declared.setup.SimFault.TheVariants as setup
use Rattle.fed_app.specs.declared.sim_fault.SimRunFault.{SimRunFault}
use Rattle.fed_app.specs.declared.sim_fault.SimRunFault.TheVariants.{Memory, At, Io}

-- want of memory stays that, any other kind is a fault of input or output, and none is one of the script
abbrev pub IsSimFaultOf : ErrorKind → SimRunFault → Type 0
IsSimFaultOf kind Memory = kind ≡ OutOfMemory
IsSimFaultOf kind Io = kind ≢ OutOfMemory
IsSimFaultOf kind (At line what) = ⊥

-- that of a line stays what it is
abbrev pub fault_of_script : ScriptFault → SimRunFault
fault_of_script script.Memory = Memory
fault_of_script (script.At line what) = At line what

-- that no world begins is told at the first line
abbrev pub fault_of_setup : SimFault → SimRunFault
fault_of_setup setup.Memory = Memory
fault_of_setup setup.BadSetup = At 1 WrongWords
