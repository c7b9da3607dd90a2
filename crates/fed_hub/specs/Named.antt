-- By which names contracts know what the threads of a server share, and what it serves by.
use Rattle.std.specs.Prelude.{◌≡◌, ℕ, List, length}
use Rattle.std.specs.Option.{IfSome}
use Rattle.fed_dest.specs.List.{place_of}
use Rattle.fed_event.specs.Checked.{CheckedEvent}
use Rattle.fed_inbox.specs.Inbox.{InboxState}
use Rattle.fed_inbox.specs.Receiver.{ReceiverState}
use Rattle.fed_journal.specs.declared.parcel.Parcel.{Parcel}
use Rattle.fed_keys.specs.Keys.{Checks}
use Rattle.fed_wires.specs.Board.{BoardId}
use Rattle.fed_wires.specs.WireId.{WireId}
use Rattle.fed_hub.specs.Names.{Names}
use Rattle.fed_hub.specs.Setup.{IsReceptionOf}

-- They are the names of what was opened, with a wire for each listed server and for each room, and what the server of this name, with these listed
-- servers, rooms and keys, serves by.
pub record AreNamesOf (server : List ℕ) (list ids : List (List ℕ)) (checking : Checks) (opened : Names) (wires : List (WireId Parcel)) (own : ℕ) (board : BoardId) (events edus parts : ℕ)
    (known : List (List ℕ)) (rooms : List (WireId CheckedEvent)) (checks : Checks) (receiver : ReceiverState) (beginning : InboxState) : Type 0 where
  pub same_wires : opened.wires ≡ wires
  pub for_each_server : length wires ≡ length list
  pub own_place : IfSome (place_of list server) (λ place. own ≡ place)
  pub same_board : opened.board ≡ board
  pub same_events : opened.events ≡ events
  pub same_edus : opened.edus ≡ edus
  pub same_parts : opened.parts ≡ parts
  pub same_rooms : opened.rooms ≡ rooms
  pub for_each_room : length rooms ≡ length known
  pub same_ids : known ≡ ids
  pub same_checks : checks ≡ checking
  pub reception : IsReceptionOf server list known receiver beginning
