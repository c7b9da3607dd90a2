-- The line of events that the fields of a `Line` stand for.
use Rattle.fed_room.specs.declared.line.Line.{Line}
use Rattle.fed_room.specs.Line.{EventLine}

abbrev pub line_seen : Line → EventLine
line_seen line = record { version = line.version; events = line.events.items; state = line.state }
