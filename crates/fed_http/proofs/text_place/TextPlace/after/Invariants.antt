use Rattle.std.proofs.Common.{take}
use Rattle.fed_http.specs.TextPlaces.{IsHeadPlace}
use Rattle.fed_http.proofs.text_place.TextPlace.after.Given as goal

abbrev pub invariant-loop-i : goal.invariant-loop-i
invariant-loop-i l = IsHeadPlace l.kind (take l.before l.bytes) l.fn.self → IsHeadPlace l.kind (take l.i l.bytes) l.place
