-- The lines of a script.
use Rattle.std.proofs.Common.{◌≡◌, ◌<◌, ◌+◌, ◌++◌, ◌∷◌, [], ℕ, List, true, false, length, get_or, take, Some, None, Ok, Err, IsUtf8, refl, sym, ap, subst, zero-add, ◌∙◌}
use Rattle.std.specs.List.{before_first, after_first, enumerate_from, slice_get}
use Rattle.std.specs.Str.{is_utf8}
use Rattle.std.proofs.lemmas.Str.{is_utf8-from_IsUtf8, IsUtf8-from_is_utf8}
use Rattle.std.proofs.Math.Seq.{take-length}
use Rattle.std.proofs.lemmas.List.{take_more}
use Rattle.std.proofs.lemmas.List.FromFn.{length-enumerate_from, get_or-enumerate_from}
use Rattle.std.proofs.lemmas.Option.{slice_get-get_or}
use Rattle.fed_sim.specs.ScriptWords.{is_space}
use Rattle.fed_sim.specs.Script.{Said, CommandText, is_skipped, command_text, line_text, not_there, Reads, one_more, Takes, lines_of, IsNoScriptBy, at_line, nothing_said}
use Rattle.fed_sim.specs.declared.script.faults.ScriptFault.{ScriptFault}
use Rattle.fed_sim.specs.declared.script.faults.ScriptFault.TheVariants as script
use Rattle.fed_sim.specs.declared.script.faults.ScriptError.{ScriptError}
use Rattle.fed_sim.specs.ScriptReadings.{IsWrongThere, HasLineFault}
use Rattle.fed_sim.specs.declared.script.faults.LineFault.{LineFault}
use Rattle.fed_sim.specs.declared.script.faults.LineFault.TheVariants.{Memory, Wrong}
use Rattle.fed_sim.specs.declared.script.faults.ScriptError.TheVariants.{WrongWords}

pub text_line : (line : List ℕ) → IsUtf8 line → line_text line ≡ command_text (before_first is_space line) (after_first is_space line)
unfolding line_text
text_line line text = rw (is_utf8-from_IsUtf8 line text) refl

pub not_text : (line : List ℕ) → ¬ (IsUtf8 line) → line_text line ≡ Err WrongWords
unfolding line_text
not_text line none =
    let bad : is_utf8 line ≡ false = elim (is_utf8 line) as (λ b. is_utf8 line ≡ b → b ≡ false) [ true ↦ λ t. absurd (none (IsUtf8-from_is_utf8 line t)) | false ↦ λ _. refl ] refl in
    rw bad refl

-- a command that is wrong there, or want of memory
pub command_fault : (said : Said) (line : List ℕ) (command : CommandText) → is_skipped line ≡ false → line_text line ≡ Ok command → (fault : LineFault) → IsWrongThere said command fault → HasLineFault said line fault
command_fault said line command some text Memory wrong = tt
command_fault said line command some text (Wrong fault) wrong = not_there command some text wrong

-- the line that is taken is the next one
module _ (lines : List (List ℕ)) (place : ℕ) (line : List ℕ) (k : ℕ) (within : k < length (enumerate_from 0 lines)) (at : (place, line) ≡ get_or (enumerate_from 0 lines) k (place, line)) where
  inside : k < length lines
  inside = rw length-enumerate_from at within

  this : ◌≡◌ {A = ℕ × List ℕ} (place, line) (0 + k, get_or lines k line)
  this = at ∙ get_or-enumerate_from 0 lines k (place, line) inside

  pub place_is : place ≡ k
  place_is = ap (λ p. p.0) this ∙ zero-add k

  pub line_is : slice_get lines place ≡ Some line
  line_is = ap (λ n. slice_get lines n) place_is ∙ slice_get-get_or lines k line inside ∙ ap Some (sym (ap (λ p. p.1) this))

  pub one_more_line : (yielded : ℕ) (old new : Said) → yielded ≡ k + 1 → Reads (take k lines) old → Takes old line new → Reads (take yielded lines) new
  one_more_line yielded old new count reads takes =
      let all : take yielded lines ≡ take k lines ++ line ∷ [] =
      ap (λ n. take n lines) count ∙ take_more lines k line inside ∙ ap (λ x. take k lines ++ x ∷ []) (sym (ap (λ p. p.1) this)) in
      let P : List (List ℕ) → Type 0 = λ ls. Reads ls new in
      subst P (sym all) (one_more (take k lines) line old new reads takes)

  pub wrong_line : (said : Said) (fault : LineFault) (told : ScriptFault) → (fault ≡ Memory → told ≡ script.Memory) → ((what : ScriptError) → fault ≡ Wrong what → told ≡ script.At (place + 1) what)
      → Reads (take k lines) said → HasLineFault said line fault → (text : List ℕ) → lines ≡ lines_of text → IsNoScriptBy text told
  wrong_line said Memory told memory wrong reads bad text same = rw (memory refl) tt
  wrong_line said (Wrong what) told memory wrong reads bad text same =
      let P : List (List ℕ) → Type 0 = λ ls. Reads (take place ls) said in
      let Q : List (List ℕ) → Type 0 = λ ls. slice_get ls place ≡ Some line in
      let R : ℕ → Type 0 = λ n. Reads (take n lines) said in
      rw (wrong what refl) (at_line place said line what (subst P same (subst R (sym place_is) reads)) (subst Q same line_is) bad)

pub all_lines : (lines : List (List ℕ)) (count : ℕ) (said : Said) → count ≡ length (enumerate_from 0 lines) → Reads (take count lines) said → Reads lines said
all_lines lines count said is reads =
    let all : take count lines ≡ lines = ap (λ n. take n lines) (is ∙ length-enumerate_from 0 lines) ∙ take-length lines in
    let P : List (List ℕ) → Type 0 = λ ls. Reads ls said in
    subst P all reads

-- the lines name no servers
pub no_script : (text : List ℕ) (said : Said) → Reads (lines_of text) said → (told : ScriptFault) → told ≡ script.At 1 WrongWords → said.listed ≡ None → IsNoScriptBy text told
no_script text said reads told is none = rw is (nothing_said said reads none)
