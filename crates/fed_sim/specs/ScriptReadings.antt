-- What a reading of a script has read.
use Rattle.std.specs.Prelude.{◌≡◌, ℕ, List}
use Rattle.std.specs.List.{All}
use Rattle.fed_dest.specs.ServerName.{IsServerName}
use Rattle.fed_sim.specs.declared.script.faults.LineFault.{LineFault}
use Rattle.fed_sim.specs.declared.script.faults.LineFault.TheVariants.{Memory, Wrong}
use Rattle.fed_sim.specs.declared.script.faults.ScriptError.TheVariants.{WrongWords}
use Rattle.fed_sim.specs.Script.{IsWrong, HasFault, Said, CommandText, servers, room, step, words_in}
use Rattle.fed_sim.specs.ScriptTexts.{text_of}
use Rattle.fed_sim.specs.declared.script.command.Command.{Command}
use Rattle.fed_sim.specs.declared.script.command.Command.TheVariants.{Servers, Room, Step}
use Rattle.fed_sim.specs.declared.script.reading.Reading.{Reading}

abbrev pub command_of : Command → CommandText
command_of (Servers names) = servers (words_in names.now)
command_of (Room id users) = room id.now (words_in users.now)
command_of (Step words) = step (text_of words)

abbrev pub said_by : Reading → Said
said_by reading = record { names = reading.names.items; listed = reading.listed; rooms = reading.rooms.items; steps = reading.steps.items }

-- the same, or want of memory
abbrev pub IsWrongThere : Said → CommandText → LineFault → Type 0
IsWrongThere said command Memory = Unit {0}
IsWrongThere said command (Wrong fault) = IsWrong said command fault

abbrev pub HasLineFault : Said → List ℕ → LineFault → Type 0
HasLineFault said line Memory = Unit {0}
HasLineFault said line (Wrong fault) = HasFault said line fault

-- one of the words is no name of a server, or memory is wanted
abbrev pub AreNoNames : List (List ℕ) → LineFault → Type 0
AreNoNames words Memory = Unit {0}
AreNoNames words (Wrong fault) = (fault ≡ WrongWords) × (¬ (All IsServerName words))
