use Rattle.std.proofs.Common.{arith, take, subst}
use Rattle.fed_http.specs.TextPlaces.{IsHeadPlace}
use Rattle.fed_http.proofs.state.State.goes_on.Goals as goal

pub returns-in_default : goal.returns-in_default
returns-in_default c =
    let kind = c.args.kind in
    let s = c.args.self.now in
    record {
      short = omega (arith, c.if-len-ge-MAX_HEAD.false, c.len-len.ensures, s.text.ok);
      known = c.in_default.not-Unknown;
      on = subst (λ v. IsHeadPlace kind (take c.args.before v) s.at → IsHeadPlace kind v c.after.result) c.deref.ensures.value c.after.ensures;
    }
