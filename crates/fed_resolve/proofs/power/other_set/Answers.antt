use Rattle.std.proofs.Common.{◌≡◌, ◌&&◌, ◌∙◌, not, List, Bool, length, subst, sym, ap, arith}
use Rattle.fed_resolve.specs.ChainParts.{is_marked}
use Rattle.fed_resolve.specs.Marks.{AreMarks}
use Rattle.fed_resolve.specs.Resolution.{is_other}
use Rattle.fed_resolve.proofs.Marks.{written}
use Rattle.fed_resolve.proofs.Sets.{other-marks}
use Rattle.fed_resolve.proofs.power.other_set.Goals as goal

pub returns-clause-marks : goal.returns-clause-marks
returns-clause-marks c = λ events states are powers.
    let set = c.args.conflicted.items in
    let power = c.args.power.now in
    let marks = c.remove_marks.new.marks in
    let taken : AreMarks (length power) (λ p. is_marked set p && not (is_marked power p)) marks =
    subst (λ (ms : List Bool). AreMarks (length power) (λ p. is_marked ms p && not (is_marked power p)) marks) c.deref_mut.ensures.value c.remove_marks.ensures in
    let long : length marks ≡ c.args.conflicted.len = omega (arith, taken.long, c.requires, ap length c.deref_mut.ensures.value, c.deref_mut.ensures.len) in
    subst (λ (ms : List Bool). AreMarks (length events) (is_other events states) ms) (sym (written c.args.conflicted.len marks set long)) (other-marks events states set are power marks powers taken)

pub returns-clause-long : goal.returns-clause-long
returns-clause-long c =
    let marks = c.remove_marks.new.marks in
    let long : length marks ≡ c.args.conflicted.len = omega (arith, c.remove_marks.ensures.long, c.requires, ap length c.deref_mut.ensures.value, c.deref_mut.ensures.len) in
    ap length (written c.args.conflicted.len marks c.args.conflicted.items long) ∙ c.remove_marks.ensures.long
