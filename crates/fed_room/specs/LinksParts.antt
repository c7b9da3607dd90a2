-- The links that the fields of a `Links` stand for.
use Rattle.fed_room.specs.declared.links.Links.{Links}
use Rattle.fed_room.specs.Parts.{EventLinks}

abbrev pub links_seen : Links → EventLinks
links_seen links = record { version = links.version; auth_events = links.auth_events.items; prev_events = links.prev_events.items; depth = links.depth }
