-- The servers that the entries of a state join, entry by entry.
use Rattle.std.specs.Prelude.{ℕ, List, ◌==◌, ◌&&◌, Bool, Option, None, codes, bytes_eq, if◌then◌else◌}
use Rattle.fed_event.specs.Ids.{domain_of}
use Rattle.fed_event.specs.Tests.{holds}
use Rattle.fed_room_contract.specs.declared.graph.Stored.{Stored}
use Rattle.fed_room_contract.specs.State.{StateKey}
use Rattle.fed_dest.specs.List.{place_of}
use Rattle.fed_dest.specs.Joined.{is_join}

-- the place of the server whose user an entry joins
abbrev pub joined_by : List Stored → List (List ℕ) → StateKey × List ℕ → Option ℕ
joined_by events servers entry =
    if bytes_eq entry.0.0 (codes "m.room.member") && is_join events entry.1 then place_of servers (domain_of entry.0.1)
    else None

-- the entry joins the server at this place
abbrev pub joins_place : List Stored → List (List ℕ) → ℕ → StateKey × List ℕ → Bool
joins_place events servers place entry = holds (λ other. other == place) (joined_by events servers entry)
