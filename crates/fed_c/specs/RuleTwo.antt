-- What holds of some auth event, for the clause of a private function.
use Rattle.std.specs.Prelude.{List}
use Rattle.std.specs.List.{list_any}
use Rattle.fed_event.specs.Event.{Event}
use Rattle.fed_room_contract.specs.declared.graph.Stored.{Stored}
use Rattle.fed_auth.specs.AuthState.{is_outside_selection, is_rejected, is_create, is_of_other_room}
use Rattle.fed_c.specs.declared.rule_two.AuthFacts.{AuthFacts}

abbrev pub facts_of : Event → List Stored → AuthFacts
facts_of event auth = record {
  is_outside_selection = list_any (is_outside_selection event) auth;
  is_rejected = list_any is_rejected auth;
  is_create = list_any is_create auth;
  is_of_other_room = list_any (is_of_other_room event) auth;
}
