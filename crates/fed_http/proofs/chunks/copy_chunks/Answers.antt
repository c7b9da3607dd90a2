use Rattle.std.proofs.Common.{arith, List, ℕ, subst, sym}
use Rattle.fed_http.specs.ChunkParts.{IsLineAt, LacksLine}
use Rattle.fed_http.proofs.Lines.{on_some, on_none}
use Rattle.fed_http.proofs.Copies.{Copied, copy_starts, has_line, has_short_line, copy_ends, copy_on, copied_on}
use Rattle.fed_http.proofs.chunks.copy_chunks.Goals as goal

pub loop-line-init : goal.loop-line-init
loop-line-init c =
    let P : List ℕ → Type 0 = λ v. Copied c.args.bytes.now v c.args.bytes.now in
    subst P (sym c.in_ok-body.ensures.items) (copy_starts c.args.bytes.now c.requires.chunked)

pub unreachable-requires : goal.unreachable-requires
unreachable-requires c =
    has_line c.args.bytes.now c.loop-line.body.items c.loop-line.rest.now c.loop-line.invariant (on_none (LacksLine c.loop-line.rest.now) c.in-Ok-None.field-0-is c.in-Ok-None.ensures.unfinished)

pub unreachable-requires-in-Err : goal.unreachable-requires-in-Err
unreachable-requires-in-Err c = has_short_line c.args.bytes.now c.loop-line.body.items c.loop-line.rest.now c.loop-line.invariant c.in-Err.ensures.bad.1

pub returns-then-line-eq0 : goal.returns-then-line-eq0
returns-then-line-eq0 c =
    let rest = c.loop-line.rest.now in
    record { body = copy_ends c.args.bytes.now c.loop-line.body.items rest c.in-Ok-Some.line c.loop-line.invariant (on_some (IsLineAt rest) c.in-Ok-Some.field-0-is c.in-Ok-Some.ensures.found) c.if-line-eq0.true }

pub overflow_add-line : goal.overflow_add-line
overflow_add-line c =
    let rest = c.loop-line.rest.now in
    let next = copy_on c.args.bytes.now c.loop-line.body.items rest c.in-Ok-Some.line c.loop-line.invariant (on_some (IsLineAt rest) c.in-Ok-Some.field-0-is c.in-Ok-Some.ensures.found) c.if-line-eq0.false in
    omega (arith, next.enough, next.small)

pub slice_bounds-extend_from_slice-end : goal.slice_bounds-extend_from_slice-end
slice_bounds-extend_from_slice-end c =
    let rest = c.loop-line.rest.now in
    let next = copy_on c.args.bytes.now c.loop-line.body.items rest c.in-Ok-Some.line c.loop-line.invariant (on_some (IsLineAt rest) c.in-Ok-Some.field-0-is c.in-Ok-Some.ensures.found) c.if-line-eq0.false in
    omega (arith, next.enough, next.small)

pub slice_bounds-rest-count : goal.slice_bounds-rest-count
slice_bounds-rest-count c =
    let rest = c.loop-line.rest.now in
    let next = copy_on c.args.bytes.now c.loop-line.body.items rest c.in-Ok-Some.line c.loop-line.invariant (on_some (IsLineAt rest) c.in-Ok-Some.field-0-is c.in-Ok-Some.ensures.found) c.if-line-eq0.false in
    next.enough

pub slice_bounds-rest-start : goal.slice_bounds-rest-start
slice_bounds-rest-start c =
    let rest = c.loop-line.rest.now in
    let next = copy_on c.args.bytes.now c.loop-line.body.items rest c.in-Ok-Some.line c.loop-line.invariant (on_some (IsLineAt rest) c.in-Ok-Some.field-0-is c.in-Ok-Some.ensures.found) c.if-line-eq0.false in
    omega (arith, next.enough, next.small)

pub loop-line-preserved : goal.loop-line-preserved
loop-line-preserved c =
    let rest = c.loop-line.rest.now in
    let next = copy_on c.args.bytes.now c.loop-line.body.items rest c.in-Ok-Some.line c.loop-line.invariant (on_some (IsLineAt rest) c.in-Ok-Some.field-0-is c.in-Ok-Some.ensures.found) c.if-line-eq0.false in
    copied_on c.args.bytes.now c.loop-line.body.items rest c.extend_from_slice.new.self.items c.in-Ok-Some.line next c.in_ok-extend_from_slice.ensures.items
