use Rattle.std.proofs.Common.{refl, arith}
use Rattle.fed_sim.specs.ScriptWords.{two_words}
use Rattle.fed_sim.proofs.script.words.two_words.Goals as goal

pub returns-in_err-first-clause-wrong : goal.returns-in_err-first-clause-wrong
unfolding two_words
returns-in_err-first-clause-wrong c = grind (arith, c.in_err-first.ensures.wrong)

pub returns-in_err-only_word-clause-wrong : goal.returns-in_err-only_word-clause-wrong
unfolding two_words
returns-in_err-only_word-clause-wrong c = grind (arith, c.in_ok-first.ensures.ok, c.in_err-only_word.ensures.wrong)

pub returns-clause-ok : goal.returns-clause-ok
unfolding two_words
returns-clause-ok c = rw (c.in_ok-first.ensures.ok, c.in_ok-only_word.ensures.ok) refl
