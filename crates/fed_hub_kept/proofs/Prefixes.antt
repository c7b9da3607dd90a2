-- An outbox of a journal, on the way of what was placed.
use Rattle.std.proofs.Common.{arith, ◌≡◌, ◌+◌, List, [], ◌∷◌, ◌++◌, length, take, refl, sym, ap, ◌∙◌}
use Rattle.std.specs.List.{filter_map, list_any}
use Rattle.std.proofs.lemmas.List.{append-nil}
use Rattle.fed_journal.specs.declared.parcel.Load.{Load}
use Rattle.fed_journal.specs.declared.entry.Entry.{Entry}
use Rattle.fed_journal.specs.Journal.{loads, parcels, placed}
use Rattle.fed_outbox.specs.Outbox.{OutboxState, accepted, accepted_edus, accepted_count, expected}
use Rattle.fed_outbox.specs.Following.{Follows}
use Rattle.fed_hub_kept.specs.OfJournal.{IsOfJournal}
use Rattle.fed_journal.specs.Loads.{event_in_load, edu_in_load, is_end}
use Rattle.fed_hub_kept.specs.Left.{all_of}
use Rattle.fed_hub_kept.proofs.Comparing.{length-numbered, of_journal_is_front, end_held}

pub of_journal_follows : (entries : List Entry) (o : OutboxState) (is : IsOfJournal entries o) → Follows o.dest (parcels entries o.dest) (record { queue = is.later; outbox = o })
of_journal_follows entries o is = record {
  collected = is.front;
  all = is.placed;
  dest = refl;
  events = is.accepted.events;
  edus = is.accepted.edus;
  next = is.accepted.next;
  end = is.accepted.end;
}

pub all_expected : (entries : List Entry) (o : OutboxState) (is : IsOfJournal entries o) → is.later ≡ [] → expected o ≡ placed entries o.dest + 1
all_expected entries o is none =
    let next = is.accepted.next in
    let whole : length (parcels entries o.dest) ≡ length is.front = ap length (is.placed ∙ ap (λ ps. is.front ++ ps) none ∙ append-nil is.front) in
    let same = length-numbered o.dest 0 (loads entries o.dest) in
    omega arith

take_front : (front later : List Load) → take (length front) (front ++ later) ≡ front
take_front [] later = refl
take_front (x ∷ front) later = ap (λ xs. x ∷ xs) (take_front front later)

pub loads_accepted : (entries : List Entry) (o : OutboxState) → IsOfJournal entries o → let front = take (accepted_count o) (loads entries o.dest) in
    (accepted o ≡ filter_map event_in_load front) × ((accepted_edus o ≡ filter_map edu_in_load front) × (o.has_end ≡ list_any is_end front))
loads_accepted entries o is =
    let f = of_journal_is_front entries o is in
    let front : f.front ≡ take (accepted_count o) (loads entries o.dest) =
    sym (take_front f.front f.later) ∙ ap (λ n. take n (f.front ++ f.later)) f.holds.count ∙ ap (take (accepted_count o)) (sym f.split) in (
      f.holds.events ∙ ap (filter_map event_in_load) front,
      (f.holds.edus ∙ ap (filter_map edu_in_load) front, end_held f.front (all_of o) f.holds ∙ ap (list_any is_end) front),
    )
