-- What an `Entry` stands for.
use Rattle.std.specs.Prelude.{ℕ, List}
use Rattle.fed_room_contract.specs.declared.entry.Entry.{Entry}
use Rattle.fed_room_contract.specs.State.{StateKey}

abbrev pub seen : Entry → StateKey × List ℕ
seen entry = ((entry.kind.now, entry.state_key.now), entry.id.now)
