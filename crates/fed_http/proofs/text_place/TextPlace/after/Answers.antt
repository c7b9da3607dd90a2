use Rattle.std.proofs.Common.{arith, subst}
use Rattle.std.proofs.lemmas.List.{take_all}
use Rattle.fed_http.specs.TextPlaces.{IsHeadPlace}
use Rattle.fed_http.proofs.text_place.TextPlace.after.Goals as goal

pub returns : goal.returns
returns c at = subst (λ v. IsHeadPlace c.args.kind v c.loop-i.place) (take_all c.loop-i.i c.args.bytes.now (omega (arith, c.loop-i-test.false))) (c.loop-i.invariant at)
