use Rattle.std.proofs.Common.{lit<, refl, sym, ◌∙◌}
use Rattle.std.proofs.lemmas.Str.Pattern.{split_once_first}
use Rattle.fed_sim.proofs.ScriptSpaces.{word_led, none_led, empty_led, unspaced}
use Rattle.fed_sim.proofs.script.words.first_word.Goals as goal
use Rattle.fed_sim.proofs.script.words.first_word.Goals.{in_default-via-in-Some+else-not-is_empty, in_default-via-in_default}

pub returns-in-Some-clause-ok : goal.returns-in-Some-clause-ok
returns-in-Some-clause-ok c =
    let cut = rw c.in-Some.is at (split_once_first 32 c.args.text.now _ c.split_once.ensures.cases (lit< tt)) in
    word_led c.args.text.now c.in-Some.word.now c.in-Some.rest.now cut.0 cut.1 cut.2 (sym c.is_empty.ensures ∙ c.if-not-is_empty.true)

pub returns-in_default-clause-wrong : goal.returns-in_default-clause-wrong
returns-in_default-clause-wrong c =
    elim c.in_default.branch [
      | in_default-via-in-Some+else-not-is_empty w ↦
          let cut = rw w.in-Some.is at (split_once_first 32 c.args.text.now _ c.split_once.ensures.cases (lit< tt)) in
          (refl, empty_led c.args.text.now w.in-Some.word.now cut.1 (sym w.is_empty.ensures ∙ w.if-not-is_empty.false))
      | in_default-via-in_default w ↦
          let cut = rw w.in_default.is at (split_once_first 32 c.args.text.now _ c.split_once.ensures.cases (lit< tt)) in
          (refl, none_led c.args.text.now (unspaced c.args.text.now cut))
    ]
