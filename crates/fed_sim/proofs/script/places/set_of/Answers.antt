use Rattle.std.proofs.Common.{◌≡◌, ◌∙◌, ◌∷◌, [], true, false, sym, ap, refl, lit<}
use Rattle.std.proofs.lemmas.Iterator.Consumers.{YieldsList-at, YieldsList-turn, YieldsList-end}
use Rattle.std.proofs.lemmas.Iterator.Splits.{YieldsList-from_str_split}
use Rattle.std.proofs.lemmas.List.{map-append}
use Rattle.std.proofs.lemmas.Result.{err_from_is_err_and}
use Rattle.fed_dest.specs.ServerSet.{is_among}
use Rattle.fed_sim.specs.ScriptSteps.{names_in}
use Rattle.fed_sim.proofs.Places.{sorted_rise}
use Rattle.fed_sim.proofs.ScriptPlaces.{gathered_none, gathered_again, gathered_new, gathered_all, not_listed}
use Rattle.fed_sim.proofs.script.places.set_of.Goals as goal

pub loop-name-init : goal.loop-name-init
loop-name-init c = gathered_none c.args.servers.now c.new-places.result.items c.new-places.ensures.items

pub returns-in_err-place-clause-unknown : goal.returns-in_err-place-clause-unknown
returns-in_err-place-clause-unknown c =
    let told = err_from_is_err_and c.from_residual.result c.from_residual.ensures.1 in
    let turn = YieldsList-turn (YieldsList-at c.into_iter-name-iterator.ensures.into_iter_gives (YieldsList-from_str_split 44 c.args.names.now (lit< tt) c.split-name-items.ensures.text c.split-name-items.ensures.has_more c.split-name-items.ensures.pattern)) c.loop-name.yielded _ c.loop-name.yielded_by _ _ c.in-Some.name c.in-Some.is c.next.ensures.steps in
    let none = not_listed c.args.servers.now (names_in c.args.names.now) c.in-Some.name.now _ turn.0 turn.1 c.in_err-place.ensures.unknown.1 in
    rw (told.1, told.2, c.in_err-place.ensures.unknown.0) (λ _. (refl, none))

pub loop-name-preserved : goal.loop-name-preserved
loop-name-preserved c =
    let there : is_among c.loop-name.places.items c.in_ok-place.place ≡ true =
    ap (λ xs. is_among xs c.in_ok-place.place) (sym c.deref.ensures.value) ∙ sym c.contains.ensures.value ∙ c.if-not-contains.false in
    rw (map-append (λ x. x.now) c.loop-name.yielded (c.in-Some.name ∷ []))
    (gathered_again c.args.servers.now _ c.loop-name.places.items c.in-Some.name.now c.in_ok-place.place c.in_ok-place.ensures.ok there c.loop-name.invariant)

pub loop-name-preserved-in-Continue-branch-2 : goal.loop-name-preserved-in-Continue-branch-2
loop-name-preserved-in-Continue-branch-2 c =
    let other : is_among c.loop-name.places.items c.in_ok-place.place ≡ false =
    ap (λ xs. is_among xs c.in_ok-place.place) (sym c.deref.ensures.value) ∙ sym c.contains.ensures.value ∙ c.if-not-contains.true in
    rw (map-append (λ x. x.now) c.loop-name.yielded (c.in-Some.name ∷ []))
    (gathered_new c.args.servers.now _ c.loop-name.places.items c.push.new.self.items c.in-Some.name.now c.in_ok-place.place c.in_ok-place.ensures.ok other c.in_ok-push.ensures.items c.loop-name.invariant)

pub of-requires : goal.of-requires
of-requires c = sorted_rise c.loop-name.places.items c.sort_unstable.new.self.items c.loop-name.invariant.once c.sort_unstable.ensures.permutation c.sort_unstable.ensures.sorted

pub returns-clause-ok : goal.returns-clause-ok
returns-clause-ok c =
    let all = YieldsList-end (YieldsList-at c.into_iter-name-iterator.ensures.into_iter_gives (YieldsList-from_str_split 44 c.args.names.now (lit< tt) c.split-name-items.ensures.text c.split-name-items.ensures.has_more c.split-name-items.ensures.pattern)) c.loop-name.yielded _ c.loop-name.yielded_by _ _ c.in-None.is c.next.ensures.steps in
    let each = rw all.0 at c.loop-name.invariant in
    let set = gathered_all c.args.servers.now (names_in c.args.names.now) c.loop-name.places.items c.sort_unstable.new.self.items each c.sort_unstable.ensures.permutation c.sort_unstable.ensures.sorted in
    rw c.of.ensures set
