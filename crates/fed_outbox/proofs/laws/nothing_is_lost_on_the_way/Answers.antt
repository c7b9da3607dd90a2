use Rattle.std.proofs.Common.{[], refl}
use Rattle.std.specs.Option.{option_to_list}
use Rattle.fed_journal.specs.Journal.{loads, parcels}
use Rattle.fed_journal.specs.Loads.{event_in_load, edu_in_load}
use Rattle.fed_journal.specs.Queues.{parcel_after}
use Rattle.fed_outbox.proofs.Following.{next_fits, collected_follows, entered_follows, call_follows, picked_on_the_way, front_accepted, all_accepted}
use Rattle.fed_outbox.proofs.laws.nothing_is_lost_on_the_way.Goals as goal

pub returns : goal.returns
returns c = record {
  new = λ d. record { collected = []; all = refl; dest = refl; events = refl; edus = refl; next = refl; end = refl };
  entered = λ d entries entry way f. entered_follows d (parcels entries d) (option_to_list (parcel_after entries entry d)) _ way (c.what_an_entry_places.ensures.parcels entries entry d) f;
  next = λ d entries parcel later o f. next_fits d (parcels entries d) (loads entries d) (c.what_an_entry_places.ensures.end entries d) (c.places_count.ensures.numbers entries d) parcel later o f;
  collected = λ d entries way f. collected_follows d (parcels entries d) (loads entries d) (c.what_an_entry_places.ensures.end entries d) (c.places_count.ensures.numbers entries d) way.queue way.outbox f;
  others = call_follows;
  events = λ d entries way f. picked_on_the_way event_in_load d entries f.collected way.queue _ _ (c.what_is_addressed_is_placed.ensures.events entries d) f.all f.events;
  edus = λ d entries way f. picked_on_the_way edu_in_load d entries f.collected way.queue _ _ (c.what_is_addressed_is_placed.ensures.edus entries d) f.all f.edus;
  accepted = λ d entries way f. front_accepted d entries way f;
  ended = λ d entries way f e. all_accepted d entries way (c.what_an_entry_places.ensures.end entries d)
      (picked_on_the_way event_in_load d entries f.collected way.queue _ _ (c.what_is_addressed_is_placed.ensures.events entries d) f.all f.events)
      (picked_on_the_way edu_in_load d entries f.collected way.queue _ _ (c.what_is_addressed_is_placed.ensures.edus entries d) f.all f.edus) f e;
}
