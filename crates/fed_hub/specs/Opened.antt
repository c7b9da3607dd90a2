-- Wires, a board and ledgers that nobody has used.
use Rattle.std.specs.Prelude.{◌≡◌, ◌<◌, length}
use Rattle.fed_wires.specs.Board.{word_count}
use Rattle.fed_wires.specs.Seat.{AreOwners, AreReaders}
use Rattle.fed_hub.specs.declared.opened.Opened.TheInside.{Inside}
use Rattle.fed_hub.specs.Names.{Names}
use Rattle.fed_hub.specs.Wires.{wires_of, new_senders, new_receivers}

abbrev pub names_of : Inside → Names
names_of o = record {
  wires = wires_of o.ends.items;
  rooms = wires_of o.room_ends.items;
  board = o.board.id;
  events = o.events.name;
  edus = o.edus.name;
  parts = o.lent.clients;
  readers = length o.lent.readers.items;
}

pub record IsOpened (o : Inside) : Type 0 where
  pub ends : o.ends.items ≡ new_senders (wires_of o.ends.items)
  pub others : o.lent.ends.items ≡ new_receivers (wires_of o.ends.items)
  pub room_ends : o.room_ends.items ≡ new_senders (wires_of o.room_ends.items)
  pub room_others : o.lent.room_ends.items ≡ new_receivers (wires_of o.room_ends.items)
  pub words : word_count o.board.id ≡ length (wires_of o.ends.items)
  pub some : 0 < length (wires_of o.ends.items)
  pub owners : AreOwners o.board.id o.owners.items
  pub readers : AreReaders o.board.id (length o.lent.readers.items) o.lent.readers.items
  pub all_readers : o.board.readers ≡ length o.lent.readers.items
  pub parts : o.events.parts ≡ o.lent.clients
  pub edu_parts : o.edus.parts ≡ o.lent.clients
