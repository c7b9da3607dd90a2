use Rattle.std.proofs.Common.{refl, arith, lit<, sym, ◌∙◌}
use Rattle.std.proofs.lemmas.Str.Pattern.{strip_prefix_char}
use Rattle.fed_sim.specs.ScriptWords.{state_key_of}
use Rattle.fed_sim.proofs.ScriptSpaces.{key_led, no_key}
use Rattle.fed_sim.proofs.script.words.state_key_of.Goals as goal

pub returns-then-eq-clause-ok : goal.returns-then-eq-clause-ok
unfolding state_key_of
returns-then-eq-clause-ok c = grind (arith, c.if-eq.ensures)

pub returns-in-Some-clause-ok : goal.returns-in-Some-clause-ok
returns-in-Some-clause-ok c =
    let cut = rw c.in-Some.is at (strip_prefix_char 61 c.args.word.now c.strip_prefix.result c.strip_prefix.ensures.cases (lit< tt)) in
    key_led c.args.word.now c.in-Some.key.now cut

pub returns-in-None-clause-wrong : goal.returns-in-None-clause-wrong
returns-in-None-clause-wrong c =
    let cut = rw c.in-None.is at (strip_prefix_char 61 c.args.word.now c.strip_prefix.result c.strip_prefix.ensures.cases (lit< tt)) in
    (refl, no_key c.args.word.now (sym c.eq.ensures ∙ c.if-eq.false) cut)
