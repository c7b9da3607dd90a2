use Rattle.std.proofs.Common.{◌≡◌, ◌≢◌, ◌-◌, length, take, drop, rules, sym, subst}
use Rattle.fed_http.specs.KeepingParts.{StepFails}
use Rattle.fed_http.specs.declared.place.Place.TheVariants.{Ended}
use Rattle.fed_http.specs.declared.state.State.{State}
use Rattle.fed_http.proofs.Windows.{to_end}
use Rattle.fed_http.proofs.Lines.{passed_on}
use Rattle.fed_http.proofs.TakenBodies.{Walking, walk_begins, walk_on, walk_ends, walk_waits, walk_fails}
use Rattle.fed_http.proofs.state.State.take_body.Goals as goal

pub returns-in_err-used-clause-fails : goal.returns-in_err-used-clause-fails
returns-in_err-used-clause-fails c =
    let rest = c.args.rest.now in
    let used = c.steps.used in
    let f = c.in_err-used.field-0.0 in
    passed_on c.from_residual.result (StepFails c.args.self.now rest) f c.from_residual.ensures.1
    (walk_fails c.args.self.now c.steps.self rest (take (length rest - used) (drop used rest)) used f c.steps.invariant c.in_err-used.ensures.fails (to_end rest used))

pub returns-then-eq-2-clause-ends : goal.returns-then-eq-2-clause-ends
returns-then-eq-2-clause-ends c =
    let rest = c.args.rest.now in
    let used = c.steps.used in
    let ended : c.step.new.self.place ≡ Ended = search rules in
    walk_ends c.args.self.now c.steps.self c.step.new.self rest (take (length rest - used) (drop used rest)) used c.in_ok-used.field-0 c.steps.invariant c.in_ok-used.ensures.stepped (to_end rest used) ended

pub returns-then-used-rest-clause-waits : goal.returns-then-used-rest-clause-waits
returns-then-used-rest-clause-waits c =
    let rest = c.args.rest.now in
    let used = c.steps.used in
    let unended : c.step.new.self.place ≢ Ended = search rules in
    walk_waits c.args.self.now c.steps.self c.step.new.self rest (take (length rest - used) (drop used rest)) used c.in_ok-used.field-0 c.steps.invariant c.in_ok-used.ensures.stepped (to_end rest used) unended c.if-used-rest.true

pub steps-preserved : goal.steps-preserved
steps-preserved c =
    let rest = c.args.rest.now in
    let used = c.steps.used in
    let unended : c.step.new.self.place ≢ Ended = search rules in
    walk_on c.args.self.now c.steps.self c.step.new.self rest (take (length rest - used) (drop used rest)) used c.in_ok-used.field-0 c.steps.invariant c.in_ok-used.ensures.stepped (to_end rest used) unended

pub steps-init : goal.steps-init
steps-init c =
    let old = c.args.self.now in
    let rest = c.args.rest.now in
    let unended : old.place ≢ Ended = search rules in
    subst (λ (s : State). Walking old s rest 0) (sym (c.take_middle.ensures.none c.if-take_middle.false)) (walk_begins old rest c.requires.sound c.requires.begun unended c.requires.room)
