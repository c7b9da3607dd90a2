use Rattle.std.proofs.Common.{refl, rules, ◌∙◌, sym}
use Rattle.fed_sim.proofs.ScriptSpaces.{no_digits, too_long, number_read, no_number}
use Rattle.fed_sim.proofs.script.words.number_of.Goals as goal
use Rattle.fed_sim.proofs.script.words.number_of.Goals.{then-text-gt-MAX_DIGITS-via-then-text-gt-MAX_DIGITS, then-text-gt-MAX_DIGITS-via-else-text-gt-MAX_DIGITS+then-not-are_digits}

pub returns-then-text-gt-MAX_DIGITS-clause-wrong : goal.returns-then-text-gt-MAX_DIGITS-clause-wrong
returns-then-text-gt-MAX_DIGITS-clause-wrong c =
    elim c.then-text-gt-MAX_DIGITS.branch [
      | then-text-gt-MAX_DIGITS-via-then-text-gt-MAX_DIGITS w ↦ (refl, too_long c.args.text.now (search rules))
      | then-text-gt-MAX_DIGITS-via-else-text-gt-MAX_DIGITS+then-not-are_digits w ↦ (refl, no_digits c.args.text.now (search rules))
    ]

pub returns-in-Ok-clause-ok : goal.returns-in-Ok-clause-ok
returns-in-Ok-clause-ok c =
    number_read c.args.text.now c.parse.result c.in-Ok.number c.parse.ensures.value.0 c.in-Ok.is (sym c.are_digits.ensures ∙ c.if-not-are_digits.false) c.if-text-gt-MAX_DIGITS.false

pub returns-in-Err-clause-wrong : goal.returns-in-Err-clause-wrong
returns-in-Err-clause-wrong c =
    (refl, no_number c.args.text.now c.parse.result _ c.parse.ensures.value.0 c.in-Err.is (sym c.are_digits.ensures ∙ c.if-not-are_digits.false) c.if-text-gt-MAX_DIGITS.false)
