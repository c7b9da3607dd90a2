use Rattle.std.proofs.Common.{◌≤◌, length, ap, arith}
use Rattle.std.specs.Prelude.{option_and_then}
use Rattle.fed_json.specs.JsonRef.{as_items}
use Rattle.fed_event.specs.declared.field.Field.TheVariants.{AuthEvents}
use Rattle.fed_event.specs.Tests.{part}
use Rattle.fed_event.specs.Fields.{text_in, auth_events_of}
use Rattle.fed_event.proofs.Events.{is_event}
use Rattle.fed_room_contract.proofs.LinkLists.{few_texts}
use Rattle.fed_room_contract.proofs.links.add_auths.Goals as goal

pub add-requires : goal.add-requires
add-requires c =
    let event = c.args.event.now in
    let few : length (auth_events_of event) ≤ 10 = few_texts text_in (option_and_then as_items (part AuthEvents event.value)) 10 (is_event event.value c.json-json.ensures.passes).auth_events in
    let same = ap length c.auth_events.ensures in
    let room = c.requires.places in
    record { start = c.requires.start; places = omega arith }
