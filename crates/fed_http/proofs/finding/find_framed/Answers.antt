use Rattle.std.proofs.Common.{arith, length, ap, subst, ◌∙◌}
use Rattle.fed_http.specs.Limits.{max_head}
use Rattle.fed_http.specs.HeadParts.{IsHeadAt, IsSomeHeadAt}
use Rattle.fed_http.specs.Unfinished.{IsUnfinishedHead}
use Rattle.fed_http.proofs.Windows.{length-window, all_of_few}
use Rattle.fed_http.proofs.Lines.{on_some, on_none, passed_on}
use Rattle.fed_http.proofs.Finds.{IsTold, head_never, head_large, framing_told, told_fault, told_framing, head_fits}
use Rattle.fed_http.proofs.finding.find_framed.Goals as goal

pub find_head-requires-clause-few : goal.find_head-requires-clause-few
find_head-requires-clause-few c = omega (arith, ap length c.window-front.ensures, length-window max_head c.args.bytes.now)

pub returns-in_err-head-clause-fault : goal.returns-in_err-head-clause-fault
returns-in_err-head-clause-fault c =
    passed_on c.from_residual.result (IsTold c.args.kind c.args.bytes.now) c.in_err-head.field-0.0 c.from_residual.ensures.1 (head_never c.args.kind c.args.bytes.now c.window-front.result.now c.in_err-head.field-0.0 c.window-front.ensures c.in_err-head.ensures.bad)

pub returns-then-bytes-lt-MAX_HEAD-clause-unfinished : goal.returns-then-bytes-lt-MAX_HEAD-clause-unfinished
returns-then-bytes-lt-MAX_HEAD-clause-unfinished c =
    let few = c.if-bytes-lt-MAX_HEAD.true in
    record {
      few = few;
      unfinished = subst (IsUnfinishedHead c.args.kind) (c.window-front.ensures ∙ all_of_few max_head c.args.bytes.now few) (on_none (IsUnfinishedHead c.args.kind c.window-front.result.now) c.in_default.is c.in_ok-head.ensures.unfinished);
    }

pub returns-else-bytes-lt-MAX_HEAD-clause-fault : goal.returns-else-bytes-lt-MAX_HEAD-clause-fault
returns-else-bytes-lt-MAX_HEAD-clause-fault c =
    head_large c.args.kind c.args.bytes.now c.window-front.result.now c.window-front.ensures c.if-bytes-lt-MAX_HEAD.false (on_none (IsUnfinishedHead c.args.kind c.window-front.result.now) c.in_default.is c.in_ok-head.ensures.unfinished)

pub returns-in_err-framing-clause-fault : goal.returns-in_err-framing-clause-fault
returns-in_err-framing-clause-fault c =
    let kind = c.args.kind in
    let bytes = c.args.bytes.now in
    let window = c.window-front.result.now in
    let headers = c.find_head.new.fields in
    let head = on_some (IsSomeHeadAt kind window headers) c.in-Some.is c.in_ok-head.ensures.found in
    let f = c.in_err-framing.field-0.0 in
    passed_on c.from_residual-in_err-framing.result (IsTold kind bytes) f c.from_residual-in_err-framing.ensures.1
    (told_fault kind bytes head.0 c.framing_of_head.result f c.in_err-framing.was (framing_told kind bytes window headers c.in-Some.head head.0 c.framing_of_head.result c.window-front.ensures head.1 c.framing_of_head.ensures))

pub returns-clause-found : goal.returns-clause-found
returns-clause-found c =
    let kind = c.args.kind in
    let bytes = c.args.bytes.now in
    let window = c.window-front.result.now in
    let headers = c.find_head.new.fields in
    let spans = c.in-Some.head in
    let head = on_some (IsSomeHeadAt kind window headers) c.in-Some.is c.in_ok-head.ensures.found in
    let told = framing_told kind bytes window headers spans head.0 c.framing_of_head.result c.window-front.ensures head.1 c.framing_of_head.ensures in
    let framed = told_framing kind bytes head.0 c.framing_of_head.result c.in_ok-framing.framing c.in_ok-framing.was told in (
      head.0,
      record {
        at = subst (λ w. IsHeadAt kind w headers spans head.0) c.window-front.ensures head.1;
        final = framed.0;
        framed = framed.1;
        fits = head_fits kind bytes window headers spans head.0 c.window-front.ensures head.1;
      },
    )
