use Rattle.std.proofs.Common.{subst}
use Rattle.fed_http.specs.TextPlaces.{IsHeadPlace}
use Rattle.fed_http.proofs.PlaceSteps.{next_place}
use Rattle.fed_http.proofs.PlaceStarts.{one_return}
use Rattle.fed_http.proofs.text_place.TextPlace.behind.Goals as goal

pub returns-in-EmptyLines : goal.returns-in-EmptyLines
returns-in-EmptyLines c at = let is = subst (IsHeadPlace c.args.kind c.args.before.now) c.in-EmptyLines.is at in c.in_empty_lines.ensures c.args.before.now is.0 is.1

pub returns-in-EmptyReturn : goal.returns-in-EmptyReturn
returns-in-EmptyReturn c at = let is = subst (IsHeadPlace c.args.kind c.args.before.now) c.in-EmptyReturn.is at in one_return c.args.before.now is.0 c.args.byte is.1 c.if-byte-eq10.true

pub returns-in_default : goal.returns-in_default
returns-in_default c at = next_place c.args.kind c.args.before.now c.args.byte c.args.self c.next.result at c.next.ensures.few c.next.ensures.late c.next.ensures.follows
