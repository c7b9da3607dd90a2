use Rattle.std.proofs.Common.{rules, ◌≡◌, ◌≢◌, ◌+◌, length, refl, sym, ◌∙◌, arith}
use Rattle.fed_http.specs.declared.place.Place.TheVariants.{Ended}
use Rattle.fed_http.proofs.TakenBodies.{walk_begins, walk_waits}
use Rattle.fed_http.proofs.state.State.take_middle.Goals as goal

pub returns-in-InBody-clause-all : goal.returns-in-InBody-clause-all
returns-in-InBody-clause-all c = λ _.
    let old = c.args.self.now in
    let new = c.take_fixed.new.self in
    let rest = c.args.rest.now in
    let n = c.take_fixed.result in
    let all = c.take_fixed.ensures.all (search rules) in
    let unended : old.place ≢ Ended = λ e. let both = sym c.in-InBody.is ∙ e in absurd (cc) in
    let later : new.place ≢ Ended = λ e. let both = sym all.1 ∙ e in absurd (cc) in
    let whole : 0 + n ≡ length rest = omega (arith, all.0) in
    walk_waits old old new rest rest 0 n (walk_begins old rest c.requires.sound c.requires.begun unended c.requires.room) c.take_fixed.ensures.stepped refl later whole

pub returns-in-InData-clause-all : goal.returns-in-InData-clause-all
returns-in-InData-clause-all c = λ _.
    let old = c.args.self.now in
    let new = c.take_data.new.self in
    let rest = c.args.rest.now in
    let n = c.take_data.result in
    let all = c.take_data.ensures.all (search rules) in
    let unended : old.place ≢ Ended = λ e. let both = sym c.in-InData.is ∙ e in absurd (cc) in
    let later : new.place ≢ Ended = λ e. let both = sym all.1 ∙ e in absurd (cc) in
    let whole : 0 + n ≡ length rest = omega (arith, all.0) in
    walk_waits old old new rest rest 0 n (walk_begins old rest c.requires.sound c.requires.begun unended c.requires.room) c.take_data.ensures.stepped refl later whole
