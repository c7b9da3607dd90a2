use Rattle.std.proofs.Common.{◌≡◌, ◌<◌, Some, length, refl, sym, ap, ◌∙◌, arith, rules, to_z, of_z, w64}
use Rattle.std.specs.List.{slice_get}
use Rattle.std.proofs.lemmas.Int.{ints, to_z-of_z}
use Rattle.std.proofs.lemmas.Option.{slice_get_read}
use Rattle.fed_event.specs.EventId.{event_id_of}
use Rattle.fed_event.specs.Fields.{origin_server_ts_of, sender_of}
use Rattle.fed_room_contract.specs.declared.graph.Stored.{Stored}
use Rattle.fed_auth.specs.Levels.{user_level}
use Rattle.fed_resolve.specs.LevelsParts.{levels_by}
use Rattle.fed_resolve.proofs.Auths.{levels-read}
use Rattle.fed_resolve.proofs.topological.rank.Goals as goal

pub returns : goal.returns
returns c =
    let events = c.args.graph.now.stored in
    let stored = c.index-events-place.result in
    let list : c.events.result.now ≡ events = c.events.ensures.stored in
    let below : c.args.place < length c.events.result.now = omega (arith, ap length list) in
    let here : slice_get events c.args.place ≡ Some stored =
    ap (λ es. slice_get es c.args.place) (sym list) ∙ slice_get_read c.events.result.now (length c.events.result.now) c.args.place stored refl below c.index-events-place.is in
    let event : c.event-event.result.now ≡ stored.event.event = c.event-event.ensures.event ∙ ap (λ (s : Stored). s.event.event) (sym c.index-events-place.is) in
    let time : to_z w64 (of_z w64 c.origin_server_ts.result) ≡ c.origin_server_ts.result = first_of (omega (arith, ints), grind (arith, to_z-of_z), search (rules, to_z-of_z)) in
    record {
      stored = stored;
      here = here;
      same = record {
        time = time ∙ c.origin_server_ts.ensures ∙ ap origin_server_ts_of event;
        id = c.id.ensures ∙ ap event_id_of event;
      };
      level = c.sender_level.ensures ∙ ap (λ e. user_level (levels_by events c.args.place e) (sender_of e)) event ∙ ap (λ levels. user_level levels (sender_of stored.event.event)) (sym (levels-read events c.args.place stored));
    }
