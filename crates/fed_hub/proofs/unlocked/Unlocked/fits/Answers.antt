use Rattle.std.proofs.Common.{map, sym, ap, ◌∙◌}
use Rattle.std.proofs.lemmas.Bool.{false≢true}
use Rattle.std.proofs.lemmas.List.{map-id}
use Rattle.fed_hub_state.specs.KeptRoom.{id_of}
use Rattle.fed_hub.proofs.Ending.{of_journal_by, given_by, told_by, sent_by, brought_by, answered_by, told_so}
use Rattle.fed_hub.proofs.unlocked.Unlocked.fits.Goals as goal

pub returns-then-not-are_of_journal : goal.returns-then-not-are_of_journal
returns-then-not-are_of_journal g c = (
  λ no. absurd (false≢true no),
  λ fits. absurd (false≢true (sym c.if-not-are_of_journal.true ∙ c.are_of_journal.ensures.1 (of_journal_by (sym c.entries-entries.ensures) (sym c.deref.ensures.value) fits.accepted))),
)

pub returns-then-not-are_given : goal.returns-then-not-are_given
returns-then-not-are_given g c = (
  λ no. absurd (false≢true no),
  λ fits. absurd (false≢true (sym c.if-not-are_given.true ∙ c.are_given.ensures.1 (given_by (sym c.as_slice-rooms.ensures.value) (sym c.deref-2.ensures.value) fits.given))),
)

pub returns-then-not-branch : goal.returns-then-not-branch
returns-then-not-branch g c = (
  λ no. absurd (false≢true no),
  λ fits. absurd (false≢true (sym c.if-not-branch.true ∙ c.in_ok-is_as_told.ensures.1 (told_by (sym c.deref-3.ensures.value ∙ sym (map-id _)) (sym c.entries-entries.ensures) fits.told))),
)

pub returns-then-not-branch-2 : goal.returns-then-not-branch-2
returns-then-not-branch-2 g c = (
  λ no. absurd (false≢true no),
  λ fits. absurd (false≢true (sym c.if-not-branch-2.true ∙ c.in_ok-are_sent_as_stored.ensures.1 (sent_by _ _ (sym c.as_slice-rooms.ensures.value) (sym c.entries-entries.ensures) fits.sent))),
)

pub returns-then-not-branch-3 : goal.returns-then-not-branch-3
returns-then-not-branch-3 g c = (
  λ no. absurd (false≢true no),
  λ fits. absurd (false≢true (sym c.if-not-branch-3.true ∙ c.in_ok-are_brought.ensures.1 (brought_by _ (sym c.as_slice-rooms.ensures.value) (sym c.points-points.ensures.points) fits.brought))),
)

pub returns : goal.returns
returns g c =
    let rooms = c.as_slice-rooms.ensures.value in
    let entries = c.entries-entries.ensures in
    told_so c.are_answered.result (λ answered. record {
      places = ap (map id_of) (sym rooms) ∙ c.are_in_places.ensures.0 c.if-not-are_in_places.false;
      accepted = of_journal_by entries c.deref.ensures.value (c.are_of_journal.ensures.0 c.if-not-are_of_journal.false);
      given = given_by rooms c.deref-2.ensures.value (c.are_given.ensures.0 c.if-not-are_given.false);
      told = told_by (map-id _ ∙ c.deref-3.ensures.value) entries (c.in_ok-is_as_told.ensures.0 c.if-not-branch.false);
      sent = sent_by _ _ rooms entries (c.in_ok-are_sent_as_stored.ensures.0 c.if-not-branch-2.false);
      brought = brought_by _ rooms c.points-points.ensures.points (c.in_ok-are_brought.ensures.0 c.if-not-branch-3.false);
      answered = answered_by c.points-points.ensures.points c.deref-4.ensures.value answered;
    }) (λ fits. answered_by (sym c.points-points.ensures.points) (sym c.deref-4.ensures.value) fits.answered) c.are_answered.ensures
