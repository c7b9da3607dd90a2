use Rattle.std.proofs.Common.{[], ◌∷◌, ◌++◌, ◌+◌, ◌||◌, length, if◌then◌else◌, ap, ◌∙◌}
use Rattle.fed_journal.specs.Journal.{is_closed, addressed, addressed_edus, loads, placed}
use Rattle.fed_journal.proofs.Entries.{is_closed-more, addressed-more, addressed_edus-more, loads-more, placed-more, is_closed-one, addressed-one, addressed_edus-one, loads-one, all_events-more, all_edus-more}
use Rattle.fed_journal.proofs.laws.what_one_more_entry_adds.Goals as goal

pub returns : goal.returns
returns c = record {
  closed = λ entries entry d. is_closed-more entries (entry ∷ []) d ∙ ap (λ b. is_closed entries d || b) (is_closed-one d entry);
  addressed = λ entries entry d. addressed-more entries (entry ∷ []) d ∙ ap (λ xs. if is_closed entries d then addressed entries d else addressed entries d ++ xs) (addressed-one d entry);
  edus = λ entries entry d. addressed_edus-more entries (entry ∷ []) d ∙ ap (λ xs. if is_closed entries d then addressed_edus entries d else addressed_edus entries d ++ xs) (addressed_edus-one d entry);
  loads = λ entries entry d. loads-more entries (entry ∷ []) d ∙ ap (λ xs. if is_closed entries d then loads entries d else loads entries d ++ xs) (loads-one d entry);
  placed = λ entries entry d. placed-more entries (entry ∷ []) d ∙ ap (λ xs. if is_closed entries d then placed entries d else placed entries d + length xs) (loads-one d entry);
  all_events = all_events-more;
  all_edus = all_edus-more;
}
