-- What the words that are kept of a line say.
use Rattle.std.specs.Prelude.{option_copied}
use Rattle.fed_sim.specs.ScriptSteps.{StepText, send, edu, apply, between, alone, names_in}
use Rattle.fed_sim.specs.declared.script.sending.SendWords.{SendWords}
use Rattle.fed_sim.specs.declared.script.sending.EduWords.{EduWords}
use Rattle.fed_sim.specs.declared.script.step_words.StepWords.{StepWords}
use Rattle.fed_sim.specs.declared.script.step_words.StepWords.TheVariants.{Send, Edu, Close, Collect, Cut, Failed, Post, Arrive, Answer, Apply, Tick, Calm, Show}
use Rattle.fed_sim.specs.declared.step.Step.TheVariants as step

abbrev pub send_text : SendWords → StepText
send_text words = send words.server.now words.room.now words.sender.now words.kind.now (option_copied words.state_key) words.content.now

abbrev pub edu_text : EduWords → StepText
edu_text words = edu words.server.now words.kind.now (names_in words.dests.now) words.content.now

abbrev pub text_of : StepWords → StepText
text_of (Send words) = send_text words
text_of (Edu words) = edu_text words
text_of (Close pair) = between step.Close pair.server.now pair.other.now
text_of (Collect pair) = between step.Collect pair.server.now pair.other.now
text_of (Cut pair) = between step.Cut pair.server.now pair.other.now
text_of (Failed pair) = between step.Failed pair.server.now pair.other.now
text_of (Post pair) = between step.Post pair.server.now pair.other.now
text_of (Arrive packet) = alone (step.Take packet)
text_of (Answer packet) = alone (step.Settle packet)
text_of (Apply server room) = apply server.now room.now
text_of (Tick ms) = alone (step.Tick ms)
text_of (Calm rounds) = alone (step.Calm rounds)
text_of (Show pair) = between step.Show pair.server.now pair.other.now
