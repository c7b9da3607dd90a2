use Rattle.std.proofs.Common.{◌≡◌, Some, None, sym, ap, ◌∙◌}
use Rattle.fed_hub_told.specs.Marks.{are_all_marked}
use Rattle.fed_hub_told.proofs.Marking.{each_once_from, marked_from}
use Rattle.fed_hub_told.proofs.marks.what_marks_tell.Goals as goal

pub returns-clause-all : goal.returns-clause-all
returns-clause-all c = λ n numbers marks told. (
  each_once_from n numbers marks told,
  λ once.
      let all = marked_from n numbers once in
      let same : all.0 ≡ marks = cc (all.1, told) in
      ap are_all_marked (sym same) ∙ all.2,
)

pub returns-clause-refused : goal.returns-clause-refused
returns-clause-refused c = λ n numbers told once.
    let all = marked_from n numbers once in
    let none : None ≡ Some all.0 = sym told ∙ all.1 in
    cc
