use Rattle.std.proofs.Common.{arith, ◌≡◌, ◌-◌, take, refl, sym, ap, subst, ◌∙◌}
use Rattle.std.specs.Prelude.{vec_len, vec_capacity}
use Rattle.fed_http.specs.ChunkParts.{IsLineAt, LacksLine}
use Rattle.fed_http.specs.TextPlaces.{IsWholeLine, GoesOnTo}
use Rattle.fed_http.proofs.PlaceSteps.{late_on}
use Rattle.fed_http.specs.KeepingParts.{kept_of, StepFails}
use Rattle.fed_http.proofs.Lines.{on_some, on_none, passed_on}
use Rattle.fed_http.proofs.LineSteps.{line_room, line_ends, line_goes}
use Rattle.fed_http.proofs.TextSteps.{line_still, line_fails, line_over, line_is_last, line_is_chunk}
use Rattle.fed_http.proofs.state.State.take_line.Goals as goal

pub overflow_sub-before : goal.overflow_sub-before
overflow_sub-before c = let r = line_room (kept_of c.args.self.now) c.requires.at c.requires.sound in omega (arith, r.line, c.args.self.now.text.ok, c.len-before.ensures)

pub goes_on-requires : goal.goes_on-requires
goes_on-requires c = let r = line_room (kept_of c.args.self.now) c.requires.at c.requires.sound in omega (arith, r.line, c.args.self.now.text.ok, c.len-before.ensures, c.line_len-taken.ensures.limit)

pub returns-in-Some-clause-stepped : goal.returns-in-Some-clause-stepped
returns-in-Some-clause-stepped c =
    let s = c.args.self.now in
    let all = c.extend.new.to.items in
    let n = c.len-before.result in
    let more = take c.line_len-taken.result c.args.rest.now in
    let new = c.in-Some.at in
    let r = line_room (kept_of s) c.requires.at c.requires.sound in
    let g = on_some (GoesOnTo s.at n more) c.in-Some.is c.goes_on.ensures in
    line_still s _ c.args.rest.now c.line_len-taken.result c.requires.at refl (record { head = refl; start = refl }) (record { items = c.extend.ensures.items; len = c.extend.ensures.len; cap = c.extend.ensures.capacity }) (record { items = refl; len = refl; cap = refl })
    c.line_len-taken.ensures.within (λ came. c.line_len-taken.ensures.some came (omega (arith, r.line, s.text.ok, c.len-before.ensures))) c.requires.room
    (λ kind bytes x. line_goes kind (kept_of s) bytes more all n new x c.extend.ensures.items (omega (arith, s.text.ok, c.len-before.ensures)) g) (λ before at. late_on IsWholeLine before more s.at new g.few g.late g.follows at)

pub returns-in_err-line-clause-fails : goal.returns-in_err-line-clause-fails
returns-in_err-line-clause-fails c =
    let s = c.args.self.now in
    let f = c.in_err-line.field-0.0 in
    passed_on c.from_residual.result (StepFails s c.args.rest.now) f c.from_residual.ensures.1
    (line_fails s c.args.rest.now c.deref.result.now c.line_len-taken.result f c.requires.at (c.deref.ensures.value ∙ c.extend.ensures.items) c.in_err-line.ensures.bad)

pub returns-in_default-2-clause-stepped : goal.returns-in_default-2-clause-stepped
returns-in_default-2-clause-stepped c =
    let s = c.args.self.now in
    let r = line_room (kept_of s) c.requires.at c.requires.sound in
    line_still s _ c.args.rest.now c.line_len-taken.result c.requires.at refl (record { head = refl; start = refl }) (record { items = c.extend.ensures.items; len = c.extend.ensures.len; cap = c.extend.ensures.capacity }) (record { items = refl; len = refl; cap = refl })
    c.line_len-taken.ensures.within (λ came. c.line_len-taken.ensures.some came (omega (arith, r.line, s.text.ok, c.len-before.ensures))) c.requires.room
    (λ kind bytes x. subst LacksLine c.deref.ensures.value (on_none (LacksLine c.deref.result.now) c.in_default-2.is c.in_ok-line.ensures.unfinished))
    (λ before at. late_on IsWholeLine before (take c.line_len-taken.result c.args.rest.now) s.at c.over-self.result c.over-self.ensures.few c.over-self.ensures.late c.over-self.ensures.follows at)

pub overflow_sub-len : goal.overflow_sub-len
overflow_sub-len c = let r = line_room (kept_of c.args.self.now) c.requires.at c.requires.sound in omega (arith, r.body, c.args.self.now.body.ok)

pub returns-then-line-len-clause-fails : goal.returns-then-line-len-clause-fails
returns-then-line-len-clause-fails c =
    let s = c.args.self.now in
    let all = c.deref.result.now in
    let r = line_room (kept_of s) c.requires.at c.requires.sound in
    line_over s c.args.rest.now all c.line_len-taken.result c.in-Some-2.line c.requires.at (c.deref.ensures.value ∙ c.extend.ensures.items) (on_some (IsLineAt all) c.in-Some-2.is c.in_ok-line.ensures.found) (omega (arith, c.if-line-len.true, s.body.ok, r.body))

pub overflow_sub-used : goal.overflow_sub-used
overflow_sub-used c =
    let s = c.args.self.now in
    let all = c.deref.result.now in
    let line = on_some (IsLineAt all) c.in-Some-2.is c.in_ok-line.ensures.found in
    let e = line_ends (kept_of s) (take c.line_len-taken.result c.args.rest.now) all c.in-Some-2.line c.requires.at c.requires.sound (c.deref.ensures.value ∙ c.extend.ensures.items) line in
    omega (arith, e.beyond, s.text.ok, c.len-before.ensures)

pub returns-then-line-eq0-clause-stepped : goal.returns-then-line-eq0-clause-stepped
returns-then-line-eq0-clause-stepped c =
    let s = c.args.self.now in
    let all = c.deref.result.now in
    let line = on_some (IsLineAt all) c.in-Some-2.is c.in_ok-line.ensures.found in
    line_is_last s _ c.args.rest.now all c.line_len-taken.result (c.in-Some-2.line.len - c.len-before.result) (vec_len c.extend.new.to) (vec_capacity c.extend.new.to) c.in-Some-2.line c.requires.at c.requires.sound refl refl (record { head = refl; start = refl })
    (record { items = c.deref.ensures.value ∙ c.extend.ensures.items; len = c.extend.ensures.len; cap = c.extend.ensures.capacity }) c.clear.ensures.items (omega (arith, c.clear.ensures.len)) c.clear.ensures.capacity (record { items = refl; len = refl; cap = refl })
    c.line_len-taken.ensures.within c.requires.room line c.if-line-eq0.true (omega (arith, s.text.ok, c.len-before.ensures))

pub returns-clause-stepped : goal.returns-clause-stepped
returns-clause-stepped c =
    let s = c.args.self.now in
    let all = c.deref.result.now in
    let r = line_room (kept_of s) c.requires.at c.requires.sound in
    let line = on_some (IsLineAt all) c.in-Some-2.is c.in_ok-line.ensures.found in
    let text = c.deref.ensures.value ∙ c.extend.ensures.items in
    let e = line_ends (kept_of s) (take c.line_len-taken.result c.args.rest.now) all c.in-Some-2.line c.requires.at c.requires.sound text line in
    let size : vec_len c.truncate.new.self ≡ c.in-Some-2.line.len = omega (arith, c.truncate.ensures.len, c.extend.ensures.len, e.within, s.text.ok) in
    line_is_chunk s _ c.args.rest.now all c.line_len-taken.result (c.in-Some-2.line.len - c.len-before.result) (vec_len c.extend.new.to) (vec_capacity c.extend.new.to) c.in-Some-2.line c.requires.at c.requires.sound refl (record { head = refl; start = refl })
    (record { items = text; len = c.extend.ensures.len; cap = c.extend.ensures.capacity }) (c.truncate.ensures.items ∙ ap (take c.in-Some-2.line.len) (sym c.deref.ensures.value)) size c.truncate.ensures.capacity
    (record { items = refl; len = refl; cap = refl }) c.line_len-taken.ensures.within c.requires.room line (omega (arith, c.if-line-eq0.false))
    (omega (arith, c.if-line-len.false, c.len.ensures, s.body.ok, r.body)) (omega (arith, s.text.ok)) (omega (arith, s.text.ok, c.len-before.ensures))
