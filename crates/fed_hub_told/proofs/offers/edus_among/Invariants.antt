use Rattle.std.proofs.Common.{◌≡◌, map, take}
use Rattle.fed_hub_told.specs.AsTold.{offered_edus}
use Rattle.fed_hub_told.specs.Offers.{edu_of}
use Rattle.fed_hub_told.proofs.offers.edus_among.Given as goal

-- the EDUs of the entries so far
abbrev pub invariant-loop-entry : goal.invariant-loop-entry
invariant-loop-entry l = map edu_of l.edus.items ≡ offered_edus (take l.entry-index l.entries)
