-- What the fields of a `Told` stand for.
use Rattle.std.specs.Prelude.{◌-◌, vec_len, vec_capacity}
use Rattle.fed_hub_told.specs.declared.told.Told.TheInside.{Inside}
use Rattle.fed_hub_told.specs.Told.{ToldState}

abbrev pub told_of : Inside → ToldState
told_of t = record {
  events = t.events.items;
  edus = t.edus.items;
  free_events = vec_capacity t.events - vec_len t.events;
  free_edus = vec_capacity t.edus - vec_len t.edus;
}
