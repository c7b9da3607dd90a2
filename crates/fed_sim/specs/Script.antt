-- A script: what its lines say, one after another, and what is wrong with the first wrong one.
use Rattle.std.specs.Prelude.{◌≡◌, ◌+◌, ◌==◌, ◌||◌, ℕ, nat_eq, Bool, true, false, List, [], ◌∷◌, ◌++◌, take, slice_get, bytes_eq, codes, Option, Some, None, IsSome, option_map, Result, Ok, Err, if◌then◌else◌}
use Rattle.std.specs.List.{All, slice_split, before_first, after_first, starts_with}
use Rattle.std.specs.List.Sorted.{IsPermutation}
use Rattle.std.specs.Option.{ok_or}
use Rattle.std.specs.Str.{is_utf8}
use Rattle.fed_dest.specs.List.{list_fault}
use Rattle.fed_dest.specs.ListParts.{AreInOrder}
use Rattle.fed_dest.specs.ServerName.{IsServerName}
use Rattle.fed_sim.specs.ScriptWords.{is_space, is_empty, first_word}
use Rattle.fed_sim.specs.ScriptSteps.{StepText, IsStep, step_text, step_fault}
use Rattle.fed_sim.specs.Setup.{id_of, users_of, room_fault_of}
use Rattle.fed_sim.specs.ScriptFaults.{error_of_room}
use Rattle.fed_sim.specs.declared.script.faults.ScriptError.{ScriptError}
use Rattle.fed_sim.specs.declared.script.faults.ScriptError.TheVariants.{WrongWords}
use Rattle.fed_sim.specs.declared.script.faults.ScriptFault.{ScriptFault}
use Rattle.fed_sim.specs.declared.script.faults.ScriptFault.TheVariants as script
use Rattle.fed_sim.specs.declared.setup.RoomSetup.{RoomSetup}
use Rattle.fed_sim.specs.declared.setup.Setup.{Setup}
use Rattle.fed_sim.specs.declared.setup_check.RoomFault.{RoomFault}
use Rattle.fed_sim.specs.declared.step.Step.{Step}

-- ---- a line

-- nothing, or a comment
abbrev pub is_skipped : List ℕ → Bool
is_skipped line = is_empty line || starts_with nat_eq line (codes "#")

-- What the words of a line say.
pub data CommandText : Type 0 where
  servers : (names : List (List ℕ)) → CommandText
  room : (id : List ℕ) → (users : List (List ℕ)) → CommandText
  step : StepText → CommandText

-- the words between spaces
abbrev pub words_in : List ℕ → List (List ℕ)
words_in text = slice_split is_space text

abbrev pub room_text : List ℕ → Result CommandText ScriptError
room_text rest = ok_or (option_map (λ led. room led.0 (words_in led.1)) (first_word rest)) WrongWords

abbrev pub with_step : Result StepText ScriptError → Result CommandText ScriptError
with_step (Ok text) = Ok (step text)
with_step (Err fault) = Err fault

-- what a command of this name and the words behind it say
abbrev pub command_text : List ℕ → List ℕ → Result CommandText ScriptError
command_text name rest =
    if bytes_eq name (codes "servers") then Ok (servers (words_in rest))
    else if bytes_eq name (codes "room") then room_text rest
    else with_step (step_text name rest)

-- what a line says: its name stands before the first space
unfoldable pub line_text : List ℕ → Result CommandText ScriptError
line_text line = if is_utf8 line then command_text (before_first is_space line) (after_first is_space line) else Err WrongWords

-- ---- behind other lines

-- What lines have said: the servers, as they are named and in their order, once they are, and the rooms and the steps.
pub record Said : Type 0 where
  pub names : List (List ℕ)
  pub listed : Option (List (List ℕ))
  pub rooms : List RoomSetup
  pub steps : List Step

abbrev pub nothing : Said
nothing = record { names = []; listed = None; rooms = []; steps = [] }

-- a room of this id and these users
pub record IsRoom (id : List ℕ) (users : List (List ℕ)) (setup : RoomSetup) : Type 0 where
  pub id_is : id_of setup ≡ id
  pub users_are : users_of setup ≡ users

-- What is said with one command more: the servers come first, and once, and the rooms before the steps.
pub data Says (said : Said) : CommandText → Said → Type 0 where
  servers_first : (names listed : List (List ℕ)) → said.listed ≡ None → All IsServerName names → list_fault names ≡ None → IsPermutation names listed → AreInOrder listed
      → Says said (servers names) (record { names = names; listed = Some listed; rooms = said.rooms; steps = said.steps })
  then_rooms : (listed : List (List ℕ)) (id : List ℕ) (users : List (List ℕ)) (setup : RoomSetup) → said.listed ≡ Some listed → said.steps ≡ [] → IsRoom id users setup
      → room_fault_of listed said.rooms setup ≡ None → Says said (room id users) (record { names = said.names; listed = said.listed; rooms = said.rooms ++ setup ∷ []; steps = said.steps })
  then_steps : (listed : List (List ℕ)) (text : StepText) (made : Step) → said.listed ≡ Some listed → IsStep listed text made
      → Says said (step text) (record { names = said.names; listed = said.listed; rooms = said.rooms; steps = said.steps ++ made ∷ [] })

-- What is wrong with a command there.
pub data IsWrong (said : Said) : CommandText → ScriptError → Type 0 where
  servers_again : (names : List (List ℕ)) → IsSome said.listed → IsWrong said (servers names) WrongWords
  no_names : (names : List (List ℕ)) → ¬ (All IsServerName names) → IsWrong said (servers names) WrongWords
  no_list : (names : List (List ℕ)) → IsSome (list_fault names) → IsWrong said (servers names) WrongWords
  room_before_servers : (id : List ℕ) (users : List (List ℕ)) → said.listed ≡ None → IsWrong said (room id users) WrongWords
  room_behind_step : (id : List ℕ) (users : List (List ℕ)) → ¬ (said.steps ≡ []) → IsWrong said (room id users) WrongWords
  no_room : (listed : List (List ℕ)) (id : List ℕ) (users : List (List ℕ)) (setup : RoomSetup) (fault : RoomFault) → said.listed ≡ Some listed → said.steps ≡ [] → IsRoom id users setup
      → room_fault_of listed said.rooms setup ≡ Some fault → IsWrong said (room id users) (error_of_room fault)
  step_before_servers : (text : StepText) → said.listed ≡ None → IsWrong said (step text) WrongWords
  no_step : (listed : List (List ℕ)) (text : StepText) (fault : ScriptError) → said.listed ≡ Some listed → step_fault listed text ≡ Some fault → IsWrong said (step text) fault

-- A line behind those that have said something, and what is said then.
pub data Takes (said : Said) (line : List ℕ) : Said → Type 0 where
  skipped : is_skipped line ≡ true → Takes said line said
  taken : (command : CommandText) (new : Said) → is_skipped line ≡ false → line_text line ≡ Ok command → Says said command new → Takes said line new

-- what is wrong with a line behind those
pub data HasFault (said : Said) (line : List ℕ) (fault : ScriptError) : Type 0 where
  no_text : is_skipped line ≡ false → line_text line ≡ Err fault → HasFault said line fault
  not_there : (command : CommandText) → is_skipped line ≡ false → line_text line ≡ Ok command → IsWrong said command fault → HasFault said line fault

-- lines, one after another, and what they have said
pub data Reads : List (List ℕ) → Said → Type 0 where
  no_line : Reads [] nothing
  one_more : (lines : List (List ℕ)) (line : List ℕ) (old new : Said) → Reads lines old → Takes old line new → Reads (lines ++ line ∷ []) new

-- ---- a whole text

-- its lines, between newlines
abbrev pub lines_of : List ℕ → List (List ℕ)
lines_of text = slice_split (λ byte. byte == 10) text

-- What was said is this setup, with the epoch 1, and these steps.
pub record IsSaid (said : Said) (setup : Setup) (steps : List Step) : Type 0 where
  pub listed : IsSome said.listed
  pub names : setup.servers.items ≡ said.names
  pub rooms : setup.rooms.items ≡ said.rooms
  pub epoch : setup.epoch ≡ 1
  pub steps_are : steps ≡ said.steps

-- the text is a script of this setup and these steps
pub record IsScript (text : List ℕ) (setup : Setup) (steps : List Step) : Type 0 where
  pub said : Said
  pub reads : Reads (lines_of text) said
  pub is_said : IsSaid said setup steps

-- Why a text is none: a line, counted from 1, is wrong behind those before it, or no line is a command.
pub data IsNoScript (text : List ℕ) : ℕ → ScriptError → Type 0 where
  at_line : (place : ℕ) (said : Said) (line : List ℕ) (fault : ScriptError) → Reads (take place (lines_of text)) said → slice_get (lines_of text) place ≡ Some line → HasFault said line fault
      → IsNoScript text (place + 1) fault
  nothing_said : (said : Said) → Reads (lines_of text) said → said.listed ≡ None → IsNoScript text 1 WrongWords

-- the same, or want of memory
abbrev pub IsNoScriptBy : List ℕ → ScriptFault → Type 0
IsNoScriptBy text script.Memory = Unit {0}
IsNoScriptBy text (script.At line fault) = IsNoScript text line fault
