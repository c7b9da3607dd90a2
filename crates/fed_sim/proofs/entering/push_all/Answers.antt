use Rattle.std.proofs.Common.{arith, ◌≡◌, ◌≤◌, ◌<◌, suc, ◌∷◌, [], length, length-set, refl, sym, ap, ◌∙◌, subst}
use Rattle.std.proofs.lemmas.Option.{slice_get-get_or}
use Rattle.fed_sim.specs.Way.{WayState, ways_of}
use Rattle.fed_sim.specs.Sending.{HasRoomFor, AreFor, parcels_for, pushed_from}
use Rattle.fed_sim.proofs.WayQueues.{one_here, no_more, pushed_here, pushed_nothing, none_left, set_all}
use Rattle.fed_sim.proofs.entering.push_all.Goals as goal

pub bounds-ways-place : goal.bounds-ways-place
bounds-ways-place c =
    let all = subst (AreFor (length c.args.ways.now)) c.in-Some.ensures.steps.0 c.loop-parcel.invariant.3 in
    let within = all 0 c.in-Some.parcel refl in
    omega (arith, within, c.dest.ensures, c.place-place.ensures.place, c.loop-parcel.invariant.1)

pub loop-parcel-preserved : goal.loop-parcel-preserved
loop-parcel-preserved c =
    let parcel = c.in-Some.parcel in
    let later = c.next.new.self.rest.items in
    let ways = c.loop-parcel.ways in
    let place = c.place-place.result in
    let taken : c.loop-parcel.parcel-iterator.rest.items ≡ parcel ∷ later = c.in-Some.ensures.steps.0 in
    let fewer = ap length taken in
    let all = subst (AreFor (length c.args.ways.now)) taken c.loop-parcel.invariant.3 in
    let first = all 0 parcel refl in
    let within : place < length ways = omega (arith, first, c.dest.ensures, c.place-place.ensures.place, c.loop-parcel.invariant.1) in
    let here = slice_get-get_or ways place c.index-ways-place.result within in
    let roomy = subst (λ ps. HasRoomFor ps ways) taken c.loop-parcel.invariant.0 in (
      set_all (λ d (l : WayState). length (parcels_for d later) ≤ l.free) ways place c.push.new.self
          (let before = roomy place _ here in
          let used = c.push.ensures.free in
          let one = one_here parcel later place (sym c.dest.ensures ∙ sym c.place-place.ensures.place) in
          omega (arith, before, used, one))
          (λ d l _ there. let before = roomy d l there in let less = no_more parcel later d in omega (arith, before, less)),
      length-set ways place c.push.new.self ∙ c.loop-parcel.invariant.1,
      pushed_here parcel later ways place _ c.push.new.self (sym c.dest.ensures ∙ sym c.place-place.ensures.place) here c.push.ensures.way
          ∙ ap (λ ps. pushed_from 0 ps (ways_of ways)) (sym taken) ∙ c.loop-parcel.invariant.2,
      λ k other there. all (suc k) other there,
    )

pub returns-clause-ways : goal.returns-clause-ways
returns-clause-ways c =
    let none : c.loop-parcel.parcel-iterator.rest.items ≡ [] = none_left c.loop-parcel.parcel-iterator.rest.items (omega (arith, c.in-None.ensures.steps.0, c.loop-parcel.parcel-iterator.rest.ok.0)) in
    sym (pushed_nothing 0 (ways_of c.loop-parcel.ways)) ∙ ap (λ ps. pushed_from 0 ps (ways_of c.loop-parcel.ways)) (sym none) ∙ c.loop-parcel.invariant.2
