-- The inbox that a run begins with: nothing was taken, and no reply is kept.
use Rattle.std.specs.Prelude.{map, string_bytes}
use Rattle.std.specs.FinMap as finite
use Rattle.fed_inbox.specs.Inbox.{InboxState, new_inbox}
use Rattle.fed_app.specs.declared.setup.InboxSetup.{InboxSetup}

abbrev pub first_inbox : InboxSetup → InboxState
first_inbox setup = new_inbox finite.empty setup.own setup.servers (map string_bytes setup.rooms.items)
