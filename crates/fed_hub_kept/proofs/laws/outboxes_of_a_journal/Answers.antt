use Rattle.std.proofs.Common.{[], refl, sym}
use Rattle.fed_journal.specs.Journal.{parcels}
use Rattle.fed_outbox.specs.Runs.{events_of, edus_of}
use Rattle.fed_hub_kept.proofs.Prefixes.{of_journal_follows, all_expected, loads_accepted}
use Rattle.fed_hub_kept.proofs.laws.outboxes_of_a_journal.Goals as goal

pub returns : goal.returns
returns c =
    let lost = c.nothing_is_lost_on_the_way.ensures in
    record {
      new = λ entries d. record {
        front = [];
        later = parcels entries d;
        placed = refl;
        accepted = record { dest = refl; places = refl; next = refl; events = refl; edus = refl; end = refl };
      };
      loads = loads_accepted;
      events = λ entries o is. (events_of is.later, sym (lost.events o.dest entries _ (of_journal_follows entries o is)));
      edus = λ entries o is. (edus_of is.later, sym (lost.edus o.dest entries _ (of_journal_follows entries o is)));
      ended = λ entries o is end. let all = lost.ended o.dest entries _ (of_journal_follows entries o is) end in (all.1.0, (all.1.1, all_expected entries o is all.0));
    }
