use Rattle.std.proofs.Common.{arith, ◌-◌, take, refl, subst, ◌∙◌}
use Rattle.fed_http.specs.ChunkParts.{IsTrailerAt, LacksTrailer}
use Rattle.fed_http.specs.TextPlaces.{FollowsSection, GoesOnTo}
use Rattle.fed_http.proofs.PlaceSteps.{late_on}
use Rattle.fed_http.specs.KeepingParts.{kept_of, StepFails}
use Rattle.fed_http.proofs.Lines.{on_some, on_none, passed_on}
use Rattle.fed_http.proofs.TrailerSteps.{trailer_room, trailer_ends_at, trailer_goes}
use Rattle.fed_http.proofs.TextSteps.{trailer_still, trailer_fails, trailer_is_there}
use Rattle.fed_http.proofs.state.State.take_trailer.Goals as goal

pub overflow_sub-before : goal.overflow_sub-before
overflow_sub-before c = omega (arith, trailer_room (kept_of c.args.self.now) c.requires.at c.requires.sound, c.args.self.now.text.ok, c.len-before.ensures)

pub goes_on-requires : goal.goes_on-requires
goes_on-requires c = omega (arith, trailer_room (kept_of c.args.self.now) c.requires.at c.requires.sound, c.args.self.now.text.ok, c.len-before.ensures, c.line_len-taken.ensures.limit)

pub returns-in-Some-clause-stepped : goal.returns-in-Some-clause-stepped
returns-in-Some-clause-stepped c =
    let s = c.args.self.now in
    let all = c.extend.new.to.items in
    let n = c.len-before.result in
    let more = take c.line_len-taken.result c.args.rest.now in
    let new = c.in-Some.at in
    let few = trailer_room (kept_of s) c.requires.at c.requires.sound in
    let g = on_some (GoesOnTo s.at n more) c.in-Some.is c.goes_on.ensures in
    trailer_still s _ c.args.rest.now c.line_len-taken.result c.requires.at refl (record { head = refl; start = refl }) (record { items = c.extend.ensures.items; len = c.extend.ensures.len; cap = c.extend.ensures.capacity }) (record { items = refl; len = refl; cap = refl })
    c.line_len-taken.ensures.within (λ came. c.line_len-taken.ensures.some came (omega (arith, few, s.text.ok, c.len-before.ensures))) c.requires.room
    (λ kind bytes x. trailer_goes kind (kept_of s) bytes more all n new x c.extend.ensures.items (omega (arith, s.text.ok, c.len-before.ensures)) g) (λ before at. late_on (FollowsSection 0) before more s.at new g.few g.late g.follows at)

pub returns-in_err-len-clause-fails : goal.returns-in_err-len-clause-fails
returns-in_err-len-clause-fails c =
    let s = c.args.self.now in
    let f = c.in_err-len.field-0.0 in
    passed_on c.from_residual.result (StepFails s c.args.rest.now) f c.from_residual.ensures.1
    (trailer_fails s c.args.rest.now c.deref.result.now c.line_len-taken.result f c.requires.at (c.deref.ensures.value ∙ c.extend.ensures.items) c.in_err-len.ensures.fault)

pub returns-in-None-clause-stepped : goal.returns-in-None-clause-stepped
returns-in-None-clause-stepped c =
    let s = c.args.self.now in
    let few = trailer_room (kept_of s) c.requires.at c.requires.sound in
    trailer_still s _ c.args.rest.now c.line_len-taken.result c.requires.at refl (record { head = refl; start = refl }) (record { items = c.extend.ensures.items; len = c.extend.ensures.len; cap = c.extend.ensures.capacity }) (record { items = refl; len = refl; cap = refl })
    c.line_len-taken.ensures.within (λ came. c.line_len-taken.ensures.some came (omega (arith, few, s.text.ok, c.len-before.ensures))) c.requires.room
    (λ kind bytes x. subst LacksTrailer c.deref.ensures.value (on_none (LacksTrailer c.deref.result.now) c.in-None.is c.in_ok-len.ensures.unfinished))
    (λ before at. late_on (FollowsSection 0) before (take c.line_len-taken.result c.args.rest.now) s.at c.over-self.result c.over-self.ensures.few c.over-self.ensures.late c.over-self.ensures.follows at)

pub overflow_sub-result : goal.overflow_sub-result
overflow_sub-result c =
    let s = c.args.self.now in
    let all = c.deref.result.now in
    let at = on_some (IsTrailerAt all) c.in-Some-2.is c.in_ok-len.ensures.found in
    let e = trailer_ends_at (kept_of s) (take c.line_len-taken.result c.args.rest.now) all c.in-Some-2.len c.requires.at c.requires.sound (c.deref.ensures.value ∙ c.extend.ensures.items) at in
    omega (arith, e.beyond, s.text.ok, c.len-before.ensures)

pub returns-in-Some-2-clause-stepped : goal.returns-in-Some-2-clause-stepped
returns-in-Some-2-clause-stepped c =
    let s = c.args.self.now in
    let all = c.deref.result.now in
    let at = on_some (IsTrailerAt all) c.in-Some-2.is c.in_ok-len.ensures.found in
    trailer_is_there s _ c.args.rest.now all c.line_len-taken.result (c.in-Some-2.len - c.len-before.result) c.in-Some-2.len c.requires.at c.requires.sound refl refl (c.deref.ensures.value ∙ c.extend.ensures.items) refl c.line_len-taken.ensures.within at
    (omega (arith, s.text.ok, c.len-before.ensures))
