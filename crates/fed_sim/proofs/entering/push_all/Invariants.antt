use Rattle.std.proofs.Common.{◌≡◌, length}
use Rattle.fed_sim.specs.Way.{ways_of}
use Rattle.fed_sim.specs.Sending.{HasRoomFor, AreFor, pushed_from}
use Rattle.fed_sim.proofs.entering.push_all.Given as goal

-- there are room and ways for the parcels that are left, and with them the ways hold what they are to hold
abbrev pub invariant-loop-parcel : goal.invariant-loop-parcel
invariant-loop-parcel l =
    let left = l.parcel-iterator.rest.items in
    HasRoomFor left l.ways × (length l.ways ≡ length l.fn.ways) × (pushed_from 0 left (ways_of l.ways) ≡ pushed_from 0 l.fn.parcels.items (ways_of l.fn.ways))
    × AreFor (length l.fn.ways) left
