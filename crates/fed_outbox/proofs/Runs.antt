-- What calls do, one after another, to all that was accepted.
use Rattle.std.proofs.Common.{◌≡◌, ◌+◌, List, [], ◌∷◌, ◌++◌, length, map, Option, Some, None, refl, sym, ap, ◌∙◌, arith}
use Rattle.std.proofs.lemmas.List.{append_assoc, append-nil}
use Rattle.std.specs.Option.{option_to_list}
use Rattle.std.proofs.lemmas.List.Elements.{filter_map-append}
use Rattle.fed_journal.specs.declared.parcel.Parcel.{Parcel}
use Rattle.fed_journal.specs.Journal.{numbered}
use Rattle.fed_outbox.specs.Outbox.{OutboxState, accepted, accepted_edus, accepted_count, expected}
use Rattle.fed_journal.specs.Loads.{event_in_load, edu_in_load}
use Rattle.fed_outbox.specs.Runs.{Call, after_call, after, accepted_by, accepted_parcels, events_of, edus_of, places_from}
use Rattle.fed_outbox.proofs.Steps.{Same, Adds, Does, call_does, same_expected}

-- from one outbox to another these parcels were accepted
pub record Grows (o : OutboxState) (parcels : List Parcel) (next : OutboxState) : Type 0 where
  pub events : accepted next ≡ accepted o ++ events_of parcels
  pub edus : accepted_edus next ≡ accepted_edus o ++ edus_of parcels
  pub number : expected next ≡ expected o + length parcels
  pub dest : next.dest ≡ o.dest
  pub places : map (λ parcel. parcel.place) parcels ≡ places_from o.dest (expected o) (length parcels)
  pub numbered : parcels ≡ numbered o.dest (accepted_count o) (map (λ parcel. parcel.load) parcels)

none_grows : (o : OutboxState) → Grows o [] o
none_grows o = record { events = sym (append-nil (accepted o)); edus = sym (append-nil (accepted_edus o)); number = omega arith; dest = refl; places = refl; numbered = refl }

same_grows : (o mid next : OutboxState) (parcels : List Parcel) → Same o mid → Grows mid parcels next → Grows o parcels next
same_grows o mid next parcels same more =
    let number : expected mid ≡ expected o = same_expected o mid same in
    let count : accepted_count mid ≡ accepted_count o = omega arith in
    record {
      events = more.events ∙ ap (λ l. l ++ events_of parcels) same.events;
      edus = more.edus ∙ ap (λ l. l ++ edus_of parcels) same.edus;
      number = more.number ∙ ap (λ n. n + length parcels) number;
      dest = more.dest ∙ same.dest;
      places = more.places ∙ ap (λ d. places_from d (expected mid) (length parcels)) same.dest ∙ ap (λ n. places_from o.dest n (length parcels)) number;
      numbered = more.numbered ∙ ap (λ d. numbered d (accepted_count mid) (map (λ parcel. parcel.load) parcels)) same.dest
          ∙ ap (λ n. numbered o.dest n (map (λ parcel. parcel.load) parcels)) count;
    }

adds_grows : (o mid next : OutboxState) (parcel : Parcel) (parcels : List Parcel) → Adds o parcel mid → Grows mid parcels next → Grows o (parcel ∷ parcels) next
adds_grows o mid next parcel parcels adds more =
    let count : accepted_count mid ≡ accepted_count o + 1 = (let number = adds.number in omega arith) in
    record {
      events = more.events ∙ ap (λ l. l ++ events_of parcels) adds.events ∙ append_assoc (accepted o) (events_of (parcel ∷ [])) (events_of parcels)
          ∙ ap (λ l. accepted o ++ l) (sym (filter_map-append (λ parcel. event_in_load parcel.load) (parcel ∷ []) parcels));
      edus = more.edus ∙ ap (λ l. l ++ edus_of parcels) adds.edus ∙ append_assoc (accepted_edus o) (edus_of (parcel ∷ [])) (edus_of parcels)
          ∙ ap (λ l. accepted_edus o ++ l) (sym (filter_map-append (λ parcel. edu_in_load parcel.load) (parcel ∷ []) parcels));
      number = (let first = adds.number in let rest = more.number in omega arith);
      dest = more.dest ∙ adds.dest;
      places = ap (λ p. p ∷ map (λ parcel. parcel.place) parcels) adds.place
          ∙ ap (λ l. record { dest = o.dest; number = expected o } ∷ l)
          (more.places ∙ ap (λ d. places_from d (expected mid) (length parcels)) adds.dest ∙ ap (λ n. places_from o.dest n (length parcels)) adds.number);
      numbered = ap (λ p. record { place = p; load = parcel.load } ∷ parcels) adds.place
          ∙ ap (λ l. record { place = record { dest = o.dest; number = expected o }; load = parcel.load } ∷ l)
          (more.numbered ∙ ap (λ d. numbered d (accepted_count mid) (map (λ parcel. parcel.load) parcels)) adds.dest
          ∙ ap (λ n. numbered o.dest n (map (λ parcel. parcel.load) parcels)) count);
    }

does_grows : (o mid next : OutboxState) (parcel : Option Parcel) (parcels : List Parcel) → Does o parcel mid → Grows mid parcels next → Grows o (option_to_list parcel ++ parcels) next
does_grows o mid next None parcels same more = same_grows o mid next parcels same more
does_grows o mid next (Some parcel) parcels adds more = adds_grows o mid next parcel parcels adds more

pub calls_grow : (o : OutboxState) (calls : List Call) → Grows o (accepted_parcels o calls) (after o calls)
calls_grow o [] = none_grows o
calls_grow o (call ∷ calls) =
    does_grows o (after_call o call) (after (after_call o call) calls) (accepted_by o call) (accepted_parcels (after_call o call) calls) (call_does o call) (calls_grow (after_call o call) calls)
