use Rattle.std.proofs.Common.{refl, rules}
use Rattle.fed_sim.proofs.ScriptSpaces.{one_word, not_one, not_alone}
use Rattle.fed_sim.proofs.script.words.only_word.Goals as goal
use Rattle.fed_sim.proofs.script.words.only_word.Goals.{then-is_empty-via-then-is_empty, then-is_empty-via-else-is_empty+then-contains}

pub returns-then-is_empty-clause-wrong : goal.returns-then-is_empty-clause-wrong
returns-then-is_empty-clause-wrong c =
    elim c.then-is_empty.branch [
      | then-is_empty-via-then-is_empty w ↦ (refl, not_one c.args.text.now (search rules))
      | then-is_empty-via-else-is_empty+then-contains w ↦ (refl, not_alone c.args.text.now (search rules))
    ]

pub returns-clause-ok : goal.returns-clause-ok
returns-clause-ok c = one_word c.args.text.now (search rules) (search rules)
