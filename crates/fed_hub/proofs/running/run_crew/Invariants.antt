use Rattle.std.specs.FinMap as finite
use Rattle.fed_dest.specs.List.{place_of}
use Rattle.fed_hub.specs.Setup.{ids_of}
use Rattle.fed_inbox.specs.Inbox.{new_inbox}
use Rattle.fed_inbox.specs.Receiver.{new_receiver}
use Rattle.fed_hub.proofs.Named.{place_or_first}
use Rattle.fed_hub.proofs.running.run_crew.Given as goal

abbrev pub ghosts-run_named_crew-N-Naming : goal.ghosts-run_named_crew-N-Naming
ghosts-run_named_crew-N-Naming g a = record { wires = a.opened.wires; own = place_or_first (place_of a.setup.list a.setup.own); board = a.opened.board; events = a.opened.events; edus = a.opened.edus; parts = a.opened.parts }

abbrev pub ghosts-run_named_crew-N-ServingNaming : goal.ghosts-run_named_crew-N-ServingNaming
ghosts-run_named_crew-N-ServingNaming g a =
    let known = ids_of a.setup.rooms.items in
    record {
      known = known;
      rooms = a.opened.rooms;
      checks = g.K.Keys.checks a.setup.keys;
      receiver = new_receiver a.setup.own a.setup.list known;
      beginning = new_inbox finite.empty a.setup.own a.setup.list known;
    }
