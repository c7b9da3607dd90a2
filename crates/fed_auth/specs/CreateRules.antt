-- Rule 1 of the authorization rules (Matrix, room versions 10 and 11, "Authorization rules"): m.room.create.
use Rattle.std.specs.Prelude.{ℕ, List, [], ◌∷◌, Bool, true, not, ◌&&◌, ◌==◌, Option, is_none, length, codes, bytes_eq}
use Rattle.serde_json.specs.Data.{Data}
use Rattle.serde_json.specs.Find.{as_str, get}
use Rattle.fed_event.specs.Version.{names_creator}
use Rattle.fed_event.specs.Event.{Event}
use Rattle.fed_event.specs.Tests.{holds}
use Rattle.fed_event.specs.Ids.{domain_of}
use Rattle.fed_event.specs.Fields.{content_of, prev_events_of, room_id_of, sender_of}
use Rattle.fed_event.specs.EventId.{event_id_of}
use Rattle.fed_auth.specs.Table.{Row, rule, allow, reject}
use Rattle.fed_auth.specs.Version.{is_known_version}

abbrev pub are_of_one_server : List ℕ → List ℕ → Bool
are_of_one_server one other = bytes_eq (domain_of one) (domain_of other)

unfoldable pub has_prev_events : Event → Bool
has_prev_events event = not (length (prev_events_of event) == 0)

unfoldable pub is_of_other_server : Event → Bool
is_of_other_server event = not (are_of_one_server (room_id_of event) (sender_of event))

abbrev pub names_known_version : Data → Bool
names_known_version value = holds is_known_version (as_str value)

-- the room has a version, and it is not known
unfoldable pub has_other_version : Event → Bool
has_other_version event = holds (λ value. not (names_known_version value)) (get (codes "room_version") (content_of event))

-- the content of such an event names the creator, and it does not
unfoldable pub lacks_creator : Event → Bool
lacks_creator event = names_creator event.version && is_none (get (codes "creator") (content_of event))

-- the room has a first event, and it has another id
unfoldable pub comes_later : Option (List ℕ) → Event → Bool
comes_later first event = holds (λ id. not (bytes_eq id (event_id_of event))) first

-- by the id of the room's first event, where there is one
unfoldable pub create_table : Option (List ℕ) → Event → List Row
create_table first event =
    reject (rule 1 1 0) (has_prev_events event)
    ∷ reject (rule 1 2 0) (is_of_other_server event)
    ∷ reject (rule 1 3 0) (has_other_version event)
    ∷ reject (rule 1 4 0) (lacks_creator event)
    ∷ reject (rule 1 5 0) (comes_later first event)
    ∷ allow (rule 1 6 0) true
    ∷ []
