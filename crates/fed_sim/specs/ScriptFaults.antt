-- The faults of a line.
use Rattle.std.specs.Prelude.{◌≡◌, ℕ, List, Some}
use Rattle.fed_sim.specs.ScriptSteps.{StepText, step_fault}
use Rattle.fed_dest.specs.declared.server_name.NameFault.{NameFault}
use Rattle.fed_dest.specs.declared.server_name.NameFault.TheVariants as name
use Rattle.fed_json.specs.declared.fault.JsonFault.{JsonFault}
use Rattle.fed_json.specs.declared.fault.JsonFault.TheVariants as json
use Rattle.fed_sim.specs.declared.script.faults.LineFault.{LineFault}
use Rattle.fed_sim.specs.declared.script.faults.LineFault.TheVariants as line
use Rattle.fed_sim.specs.declared.script.faults.ScriptError.{ScriptError}
use Rattle.fed_sim.specs.declared.script.faults.ScriptError.TheVariants.{WrongWords, UnknownServer, BadContent}
use Rattle.fed_sim.specs.declared.setup.SimFault.{SimFault}
use Rattle.fed_sim.specs.declared.setup.SimFault.TheVariants as setup
use Rattle.fed_sim.specs.declared.setup_check.RoomFault.{RoomFault}
use Rattle.fed_sim.specs.declared.setup_check.RoomFault.TheVariants as room

-- a name that is no server name
abbrev pub fault_of_name : NameFault → LineFault
fault_of_name name.Memory = line.Memory
fault_of_name name.BadName = line.Wrong WrongWords

-- names that make no list
abbrev pub fault_of_setup : SimFault → LineFault
fault_of_setup setup.Memory = line.Memory
fault_of_setup setup.BadSetup = line.Wrong WrongWords

-- a room that cannot begin
abbrev pub error_of_room : RoomFault → ScriptError
error_of_room room.Wrong = WrongWords
error_of_room room.UnknownServer = UnknownServer

-- a content that has no value
abbrev pub fault_of_content : JsonFault → LineFault
fault_of_content json.Memory = line.Memory
fault_of_content json.NotJson = line.Wrong BadContent
fault_of_content json.NotCanonicalValue = line.Wrong BadContent
fault_of_content json.TooDeep = line.Wrong BadContent

-- the fault of the words among these servers, or want of memory
abbrev pub HasStepFault : List (List ℕ) → StepText → LineFault → Type 0
HasStepFault servers text line.Memory = Unit {0}
HasStepFault servers text (line.Wrong fault) = step_fault servers text ≡ Some fault
