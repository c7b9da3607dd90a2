use Rattle.std.proofs.Common.{◌≡◌, ◌<◌, ◌+◌, ◌-◌, Option, ℕ, None, Some, false, is_some, length, refl, sym, ap, ◌∙◌, subst, arith}
use Rattle.std.specs.Option.{IfSome}
use Rattle.std.specs.List.{slice_index_or}
use Rattle.fed_resolve.specs.Mainline.{least_index, mainline, mainline_from}
use Rattle.fed_resolve.proofs.Mainlines.{least-here, least-further, least-end}
use Rattle.fed_resolve.proofs.mainline.position.Goals as goal

none : (o : Option ℕ) → is_some o ≡ false → o ≡ None
none None h = refl
none (Some index) h = absurd (cc)

pub loop-preserved : goal.loop-preserved
loop-preserved c =
    let events = c.args.graph.now.stored in
    let indices = c.args.indices.now in
    let count = length events in
    let below : c.in-Some.reached < count = subst (λ (o : Option ℕ). IfSome o (λ place. place < count)) c.in-Some.is c.loop.invariant.next in
    let further : slice_index_or indices c.in-Some.reached None ≡ None = none (slice_index_or indices c.in-Some.reached None) (sym c.if-is_some.ensures) in
    record {
      rest = λ levels are.
          ap (λ o. least_index (mainline events levels) (mainline_from events (count - (c.loop.counter + 1)) o)) c.levels_auth-next-in-loop.ensures.place
          ∙ least-further events c.requires.graph levels indices are count c.loop.counter c.loop.next c.in-Some.reached (omega (arith, c.len-end.ensures)) c.in-Some.is below further
          ∙ c.loop.invariant.rest levels are;
      next = c.levels_auth-next-in-loop.ensures.within;
    }

pub returns-then-is_some : goal.returns-then-is_some
returns-then-is_some c = λ levels are.
    let events = c.args.graph.now.stored in
    let below : c.in-Some.reached < length events = subst (λ (o : Option ℕ). IfSome o (λ place. place < length events)) c.in-Some.is c.loop.invariant.next in
    least-here events c.requires.graph levels c.args.indices.now are (length events) c.loop.counter c.loop.next c.in-Some.reached (omega (arith, c.len-end.ensures)) c.in-Some.is below (sym c.if-is_some.ensures)
    ∙ c.loop.invariant.rest levels are

pub returns-in_default : goal.returns-in_default
returns-in_default c = λ levels are.
    least-end c.args.graph.now.stored (mainline c.args.graph.now.stored levels) (length c.args.graph.now.stored - c.loop.counter) c.loop.next c.in_default.is ∙ c.loop.invariant.rest levels are
