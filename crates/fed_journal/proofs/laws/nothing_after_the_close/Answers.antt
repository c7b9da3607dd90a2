use Rattle.std.proofs.Common.{◌++◌, ◌+◌, ◌||◌, None, Some, if◌then◌else◌, ap, ◌∙◌}
use Rattle.fed_journal.specs.Journal.{is_closed, addressed, addressed_edus, loads, placed}
use Rattle.fed_journal.proofs.Entries.{is_closed-more, addressed-more, addressed_edus-more, loads-more}
use Rattle.fed_journal.proofs.laws.nothing_after_the_close.Goals as goal

pub returns : goal.returns
returns c = record {
  place = λ entries d shut. ap (λ b. if b then None else Some (record { dest = d; number = placed entries d + 1 })) shut;
  closed = λ entries more d shut. is_closed-more entries more d ∙ ap (λ b. b || is_closed more d) shut;
  addressed = λ entries more d shut. addressed-more entries more d ∙ ap (λ b. if b then addressed entries d else addressed entries d ++ addressed more d) shut;
  edus = λ entries more d shut. addressed_edus-more entries more d ∙ ap (λ b. if b then addressed_edus entries d else addressed_edus entries d ++ addressed_edus more d) shut;
  loads = λ entries more d shut. loads-more entries more d ∙ ap (λ b. if b then loads entries d else loads entries d ++ loads more d) shut;
}
