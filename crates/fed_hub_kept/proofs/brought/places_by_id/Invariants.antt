use Rattle.std.proofs.Common.{◌≡◌, ℕ, List, map, string_bytes, take}
use Rattle.fed_dest.specs.List.{place_of}
use Rattle.fed_hub_kept.specs.Unfound.{place_in}
use Rattle.fed_hub_kept.proofs.brought.places_by_id.Given as goal

-- the places of the ids so far
abbrev pub invariant-loop-place : goal.invariant-loop-place
invariant-loop-place l = (id : List ℕ) → place_in l.places id ≡ place_of (map string_bytes (take l.place l.known)) id
