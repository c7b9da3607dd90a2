use Rattle.std.proofs.Common.{◌≡◌, ℕ, ◌==◌, take}
use Rattle.std.specs.List.{list_any, IsDistinct}
use Rattle.fed_room_contract.specs.Entry.{seen}
use Rattle.fed_dest.specs.ServerSet.{is_among}
use Rattle.fed_dest.specs.JoinedParts.{joins_place}
use Rattle.fed_dest.proofs.joined.joined_servers.Given as goal

-- each of the servers that the entries so far join, once
abbrev pub invariant-loop-entry : goal.invariant-loop-entry
invariant-loop-entry l = record {
  apart : IsDistinct ◌==◌ l.joined.items;
  among : (place : ℕ) → is_among l.joined.items place ≡ list_any (λ entry. joins_place l.fn.graph.stored l.fn.servers place (seen entry)) (take l.entry-index l.entry-items);
}
